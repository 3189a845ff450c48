use Rattle.std.proofs.Common.{◌∙◌, sym}
use Rattle.program_flow.proofs.Singles.{trimmed-whole}
use Rattle.program_flow.proofs.parts.trimmed.Goals as goal

pub returns : goal.returns
returns c = trimmed-whole c.args.text.now (sym c.is_blank.ensures ∙ c.if-not-is_blank.true) (sym c.is_blank-2.ensures ∙ c.if-not-is_blank-2.true)
