use Rattle.std.proofs.Common.{◌∙◌, sym}
use Rattle.program_flow.proofs.ValueSteps.{computed-by}
use Rattle.program_flow.proofs.values.other_value.Goals as goal

pub returns : goal.returns
returns c = computed-by _ c.args.text.now _ _ _ c.parts_of-cut.ensures (sym c.is_constant.ensures ∙ c.if-is_constant.false) c.parts_value.ensures c.ok.ensures.value
