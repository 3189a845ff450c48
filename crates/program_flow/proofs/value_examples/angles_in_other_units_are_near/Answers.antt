use Rattle.program_flow.proofs.NearAngles.{degrees-near, radians-near}
use Rattle.program_flow.proofs.value_examples.angles_in_other_units_are_near.Goals as goal

pub returns-clause-radians : goal.returns-clause-radians
returns-clause-radians c = radians-near

pub returns-clause-degrees : goal.returns-clause-degrees
returns-clause-degrees c = degrees-near
