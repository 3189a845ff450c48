use Rattle.std.proofs.Common.{◌≡◌, ◌+◌, drop, map, ℕ}
use Rattle.effects.specs.Naming.{IsClear, IsFirstMet, seen_of}
use Rattle.effects.proofs.called.met.Given as goal

-- the files that are left decide
abbrev pub invariant-loop-at : goal.invariant-loop-at
invariant-loop-at l =
    (IsClear l.is_kept l.written (map seen_of (drop l.at l.called)) (seen_of l.other)
    → IsClear l.is_kept l.written (map seen_of l.called) (seen_of l.other))
    × ((n m : ℕ) → m ≡ l.at + n → IsFirstMet l.is_kept l.written (map seen_of (drop l.at l.called)) n (seen_of l.other)
    → IsFirstMet l.is_kept l.written (map seen_of l.called) m (seen_of l.other))
