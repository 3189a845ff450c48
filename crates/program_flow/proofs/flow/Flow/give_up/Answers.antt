use Rattle.std.proofs.Common.{◌∙◌, ◌∷◌, List, ap, refl, sym}
use Rattle.dmis_text.specs.Reading.{text_reading}
use Rattle.dmis_text.specs.declared.elements.Statement.{Statement}
use Rattle.program_flow.specs.Flow.{carried}
use Rattle.program_flow.proofs.Frames.{call-done, nothing-left}
use Rattle.program_flow.proofs.Steps.{ended, ended_read}
use Rattle.program_flow.proofs.flow.Flow.give_up.Goals as goal

pub returns-in_default-clause-given : goal.returns-in_default-clause-given
returns-in_default-clause-given c = λ above. call-done _ _ _ above c.requires ∙ sym (rw c.in_default.is at c.next_line.ensures)

pub returns-clause-given : goal.returns-clause-given
returns-clause-given c = λ above.
    let x : Statement = record ended { line = c.in-Some.line } in (
      x,
      (ended, ap text_reading c.in_ok-text.ensures.items ∙ ended_read, refl),
      call-done _ _ _ above c.requires ∙ (sym (rw c.in-Some.is at c.next_line.ensures)
          ∙ ap (λ (ss : List Statement). x ∷ ss) (sym (nothing-left _ _ c.end.new.self (carried above x) c.end.ensures.ended))),
    )
