use Rattle.dmis_text.proofs.Names.{◌+◌, ◌-◌, ◌≡◌, ◌≤◌, drop, length, prefix_len}
use Rattle.dmis_text.proofs.runs.run_end_by_one.Given as goal

abbrev pub invariant-loop-at : goal.invariant-loop-at
invariant-loop-at g l =
    (l.at + prefix_len (g.C.Class.holds l.class) (drop l.at l.bytes) ≡ l.from + prefix_len (g.C.Class.holds l.class) (drop l.from l.bytes))
    × (l.at ≤ length l.bytes)

abbrev pub decreases-loop-at : goal.decreases-loop-at
decreases-loop-at g l = length l.bytes - l.at
