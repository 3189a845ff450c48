use Rattle.dmis_text.proofs.Names.{◌≡◌, ◌≤◌, all_blank, drop, length, true}
use Rattle.dmis_text.proofs.bytes.count_to_last.Given as goal

abbrev pub invariant-loop-count : goal.invariant-loop-count
invariant-loop-count l = (l.count ≤ length l.bytes) × (all_blank (drop l.count l.bytes) ≡ true)

abbrev pub decreases-loop-count : goal.decreases-loop-count
decreases-loop-count l = l.count
