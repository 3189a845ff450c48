use Rattle.std.proofs.Common.{◌∙◌, List, Option, ap, refl, sym, ℕ}
use Rattle.dmis_text.specs.declared.elements.Statement.{Statement}
use Rattle.program_flow.specs.Calls.{lifted}
use Rattle.program_flow.specs.Flow.{assignment, assigns, gives_or}
use Rattle.program_flow.specs.Turns.{moved}
use Rattle.program_flow.proofs.Steps.{made_of, not_made}
use Rattle.program_flow.proofs.calls.assigned.Goals as goal

pub returns-then-not-branch : goal.returns-then-not-branch
returns-then-not-branch c = λ f outer s below at line.
    let test = rw c.deref.ensures.value at c.in_ok-is_assignment.ensures in
    let next = moved f.control.blocks c.args.target in (
      s,
      (below, at),
      ap (λ (t : List ℕ). lifted f outer (assigns s t next)) (sym c.in_ok-text.ensures)
          ∙ ap (λ (o : Option Statement). lifted f outer (gives_or s o next)) (not_made c.in_ok-text.text.items s.line (sym test ∙ c.if-not-branch.true)),
    )

pub returns : goal.returns
returns c = λ f outer s below at line.
    let test = rw c.deref.ensures.value at c.in_ok-is_assignment.ensures in
    let next = moved f.control.blocks c.args.target in
    let made = made_of c.in_ok-text.text.items c.args.line (sym test ∙ c.if-not-branch.false) in (
      record (made.read) { line = c.args.line },
      (made.read, made.only, refl),
      ap (λ (t : List ℕ). lifted f outer (assigns s t next)) (sym c.in_ok-text.ensures)
          ∙ (ap (λ (n : ℕ). lifted f outer (gives_or s (assignment n c.in_ok-text.text.items) next)) (sym line)
          ∙ ap (λ (o : Option Statement). lifted f outer (gives_or s o next)) made.made),
    )
