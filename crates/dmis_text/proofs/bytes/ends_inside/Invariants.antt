use Rattle.dmis_text.proofs.Names.{◌-◌, ◌≡◌, ◌≤◌, drop, false, inside_after, length}
use Rattle.dmis_text.proofs.bytes.ends_inside.Given as goal

abbrev pub invariant-loop-at : goal.invariant-loop-at
invariant-loop-at l = (inside_after l.inside (drop l.at l.bytes) ≡ inside_after false l.bytes) × (l.at ≤ length l.bytes)

abbrev pub decreases-loop-at : goal.decreases-loop-at
decreases-loop-at l = length l.bytes - l.at
