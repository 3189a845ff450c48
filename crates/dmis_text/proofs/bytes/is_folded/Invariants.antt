use Rattle.dmis_text.proofs.Names.{◌++◌, ◌-◌, ◌≡◌, ◌≤◌, drop, false, folded, length, take}
use Rattle.dmis_text.proofs.bytes.is_folded.Given as goal

abbrev pub invariant-loop-at : goal.invariant-loop-at
invariant-loop-at l =
    (take l.at l.bytes ++ folded l.inside (drop l.at l.bytes) ≡ folded false l.bytes) × (l.at ≤ length l.bytes)

abbrev pub decreases-loop-at : goal.decreases-loop-at
decreases-loop-at l = length l.bytes - l.at
