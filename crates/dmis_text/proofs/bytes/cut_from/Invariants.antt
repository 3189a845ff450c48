use Rattle.dmis_text.proofs.Names.{◌-◌, ◌≡◌, ◌≤◌, cut_at, drop, false, length, take}
use Rattle.dmis_text.proofs.Splitting.{put_before}
use Rattle.dmis_text.proofs.bytes.cut_from.Given as goal

abbrev pub invariant-loop-at : goal.invariant-loop-at
invariant-loop-at l =
    (put_before (take l.at l.bytes) (cut_at l.mark l.inside (drop l.at l.bytes)) ≡ cut_at l.mark false l.bytes)
    × (l.at ≤ length l.bytes)

abbrev pub decreases-loop-at : goal.decreases-loop-at
decreases-loop-at l = length l.bytes - l.at
