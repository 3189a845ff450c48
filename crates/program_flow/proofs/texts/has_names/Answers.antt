use Rattle.std.proofs.Common.{◌∙◌, sym}
use Rattle.program_flow.proofs.ValueSteps.{no-names}
use Rattle.program_flow.proofs.texts.has_names.Goals as goal

pub returns : goal.returns
returns c values none = no-names values c.args.text.now c.first_place.result c.first_place.ensures.value (sym c.is_some.ensures ∙ none)
