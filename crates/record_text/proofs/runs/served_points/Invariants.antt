use Rattle.std.proofs.Common.{length, drop}
use Rattle.record_text.proofs.ServedRuns.{IsLeft}
use Rattle.record_text.proofs.runs.served_points.Given as goal

-- the touches and acts that are left
abbrev pub invariant-loop-entry : goal.invariant-loop-entry
invariant-loop-entry l = IsLeft l.connection l.touches l.acts l.points (drop (length l.points) l.touches) (drop l.entry-index l.acts)
