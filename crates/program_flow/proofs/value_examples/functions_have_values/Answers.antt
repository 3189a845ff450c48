use Rattle.program_flow.proofs.HaveValues.{cosine-ok, radians-ok, root-ok, sine-ok}
use Rattle.program_flow.proofs.value_examples.functions_have_values.Goals as goal

pub returns-clause-roots : goal.returns-clause-roots
returns-clause-roots c = root-ok

pub returns-clause-sines : goal.returns-clause-sines
returns-clause-sines c = sine-ok

pub returns-clause-cosines : goal.returns-clause-cosines
returns-clause-cosines c = cosine-ok

pub returns-clause-radians : goal.returns-clause-radians
returns-clause-radians c = radians-ok
