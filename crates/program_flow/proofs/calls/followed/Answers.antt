use Rattle.program_flow.proofs.calls.followed.Goals as goal

pub returns-in-Assigns : goal.returns-in-Assigns
returns-in-Assigns c = λ f outer s below at line. rw (c.in-Some.is, c.in-Assigns.is) (c.assigned.ensures f outer s below at line)
