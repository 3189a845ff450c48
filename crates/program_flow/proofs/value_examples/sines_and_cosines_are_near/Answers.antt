use Rattle.program_flow.proofs.NearAngles.{cosine-near, sine-near}
use Rattle.program_flow.proofs.NearTangents.{tangent-near}
use Rattle.program_flow.proofs.value_examples.sines_and_cosines_are_near.Goals as goal

pub returns-clause-sines : goal.returns-clause-sines
returns-clause-sines c = sine-near

pub returns-clause-cosines : goal.returns-clause-cosines
returns-clause-cosines c = cosine-near

pub returns-clause-tangents : goal.returns-clause-tangents
returns-clause-tangents c = tangent-near
