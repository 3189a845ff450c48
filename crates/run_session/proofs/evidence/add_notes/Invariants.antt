use Rattle.run_session.proofs.Names.{◌≡◌, length}
use Rattle.run_session.specs.Records.{AddsNotes, with_said}
use Rattle.run_session.proofs.evidence.add_notes.Given as goal

-- what is left comes to what came so far
abbrev pub invariant-loop-left : goal.invariant-loop-left
invariant-loop-left l = (with_said l.left l.growth ≡ with_said l.fn.notes l.fn.growth) × AddsNotes l.fn.growth l.growth

abbrev pub decreases-loop-left : goal.decreases-loop-left
decreases-loop-left l = length l.left
