use Rattle.std.proofs.Common.{◌∙◌, sym}
use Rattle.program_flow.proofs.Singles.{parts-alone}
use Rattle.program_flow.proofs.parts.is_lone.Goals as goal

pub returns-in-len1-up : goal.returns-in-len1-up
returns-in-len1-up c = λ h. parts-alone c.args.text.now (sym c.is_bare.ensures ∙ h)
