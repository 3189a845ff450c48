use Rattle.std.proofs.Common.{◌∙◌, sym}
use Rattle.program_flow.proofs.Singles.{parts-leaf}
use Rattle.program_flow.proofs.parts.parts_of.Goals as goal

pub returns-then-is_bare : goal.returns-then-is_bare
returns-then-is_bare c = parts-leaf _ (sym c.is_bare.ensures ∙ c.if-is_bare.true)
