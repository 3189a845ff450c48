use Rattle.std.proofs.Common.{refl}
use Rattle.protocol_model.proofs.scripts.undisturbed_rows.Goals as goal

pub returns-clause-empty_program : goal.returns-clause-empty_program
returns-clause-empty_program c = refl

pub returns-clause-empty_report : goal.returns-clause-empty_report
returns-clause-empty_report c = refl

pub returns-clause-one_point_program : goal.returns-clause-one_point_program
returns-clause-one_point_program c = refl

pub returns-clause-one_point_report : goal.returns-clause-one_point_report
returns-clause-one_point_report c = refl

pub returns-clause-nine_rounds : goal.returns-clause-nine_rounds
returns-clause-nine_rounds c = refl

pub returns-clause-ten_rounds : goal.returns-clause-ten_rounds
returns-clause-ten_rounds c = refl

pub returns-clause-widest_window : goal.returns-clause-widest_window
returns-clause-widest_window c = refl

pub returns-clause-two_frames_report : goal.returns-clause-two_frames_report
returns-clause-two_frames_report c = refl

pub returns-clause-same_twice_report : goal.returns-clause-same_twice_report
returns-clause-same_twice_report c = refl
