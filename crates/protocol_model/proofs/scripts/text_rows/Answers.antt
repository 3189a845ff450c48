use Rattle.protocol_model.proofs.ScriptTexts.{empty_text, one_point_text, circle_text, two_frames_text, two_points_text, same_twice_text}
use Rattle.protocol_model.proofs.scripts.text_rows.Goals as goal

pub returns-clause-empty : goal.returns-clause-empty
returns-clause-empty c = empty_text

pub returns-clause-one_point : goal.returns-clause-one_point
returns-clause-one_point c = one_point_text

pub returns-clause-circle : goal.returns-clause-circle
returns-clause-circle c = circle_text

pub returns-clause-two_frames : goal.returns-clause-two_frames
returns-clause-two_frames c = two_frames_text

pub returns-clause-two_points : goal.returns-clause-two_points
returns-clause-two_points c = two_points_text

pub returns-clause-same_twice : goal.returns-clause-same_twice
returns-clause-same_twice c = same_twice_text
