-- Exactly one outcome is due for the texts and the part, and the number says which.
use Rattle.dme_c.proofs.Names.{◌∙◌, ap, IsName, RecordRefusal, RefusesBytes, subst, sym}
use Rattle.dme_c.proofs.Beginning.{asked_of, begun_setup, begun_program, begun_part, begun_window, line_of, name_of, number_of}
use Rattle.dme_c.proofs.Beginning.{refused_setup, refused_program, refused_part, refused_window, refused_record, due_damaged, due_part, due_program}
use Rattle.dme_c.proofs.record_making.dme_record_begin.Goals as goal

pub returns-in-Ok-clause-bad_setup : goal.returns-in-Ok-clause-bad_setup
returns-in-Ok-clause-bad_setup c = begun_setup _ _ _ _ (asked_of _ _ _ _ c.in-Ok.ensures.begun)

pub returns-in-Ok-clause-bad_program : goal.returns-in-Ok-clause-bad_program
returns-in-Ok-clause-bad_program c = begun_program _ _ _ _ (asked_of _ _ _ _ c.in-Ok.ensures.begun)

pub returns-in-Ok-clause-bad_part : goal.returns-in-Ok-clause-bad_part
returns-in-Ok-clause-bad_part c = begun_part _ _ _ _ (asked_of _ _ _ _ c.in-Ok.ensures.begun)

pub returns-in-Ok-clause-bad_window : goal.returns-in-Ok-clause-bad_window
returns-in-Ok-clause-bad_window c = begun_window _ _ _ _ (asked_of _ _ _ _ c.in-Ok.ensures.begun)

pub returns-in-Err-clause-bad_setup : goal.returns-in-Err-clause-bad_setup
returns-in-Err-clause-bad_setup c = refused_setup _ _ _ _ _ c.in-Err.ensures.refused _ c.refused.ensures.number

pub returns-in-Err-clause-bad_program : goal.returns-in-Err-clause-bad_program
returns-in-Err-clause-bad_program c = refused_program _ _ _ _ _ c.in-Err.ensures.refused _ c.refused.ensures.number

pub returns-in-Err-clause-bad_part : goal.returns-in-Err-clause-bad_part
returns-in-Err-clause-bad_part c = refused_part _ _ _ _ _ c.in-Err.ensures.refused _ c.refused.ensures.number

pub returns-in-Err-clause-bad_window : goal.returns-in-Err-clause-bad_window
returns-in-Err-clause-bad_window c = refused_window _ _ _ _ _ c.in-Err.ensures.refused _ c.refused.ensures.number

pub returns-in-Err-clause-of_record : goal.returns-in-Err-clause-of_record
returns-in-Err-clause-of_record c = refused_record _ _ _ _ _ c.in-Err.ensures.refused _ c.refused.ensures.number

pub returns-in-Err-clause-line : goal.returns-in-Err-clause-line
returns-in-Err-clause-line c = λ other. c.refused.ensures.line ∙ line_of _ _ c.refused.ensures.number other

pub returns-in-Err-clause-named : goal.returns-in-Err-clause-named
returns-in-Err-clause-named c = λ is fits. subst IsName (sym (c.refused.ensures.front fits))
    (name_of _ _ c.refused.ensures.number is c.refused.ensures.named)

pub returns-in-Err-clause-number : goal.returns-in-Err-clause-number
returns-in-Err-clause-number c = number_of _ _ c.refused.ensures.number

pub returns-in-Err-clause-damaged : goal.returns-in-Err-clause-damaged
returns-in-Err-clause-damaged c = λ is. subst (λ line. RefusesBytes c.args.setup.now c.args.program.now c.args.part.now c.args.bytes.now (RecordRefusal.Damaged line)) (sym c.refused.ensures.line)
    (due_damaged _ _ _ _ _ c.in-Err.ensures.due _ c.refused.ensures.number is)

pub returns-in-Err-clause-other_part : goal.returns-in-Err-clause-other_part
returns-in-Err-clause-other_part c = due_part _ _ _ _ _ c.in-Err.ensures.due _ c.refused.ensures.number

pub returns-in-Err-clause-other_program : goal.returns-in-Err-clause-other_program
returns-in-Err-clause-other_program c = λ is fits. subst (λ label. RefusesBytes c.args.setup.now c.args.program.now c.args.part.now c.args.bytes.now (RecordRefusal.OtherProgram label))
    (sym (c.refused.ensures.front fits)) (due_program _ _ _ _ _ c.in-Err.ensures.due _ c.refused.ensures.number is)
