use Rattle.program_review.proofs.Outside.{◌<◌, ◌≡◌, ◌≤◌, false, is_at, ℕ}
use Rattle.program_review.proofs.words.place_from.Given as goal

-- the bytes are at no place so far
abbrev pub invariant-loop-at : goal.invariant-loop-at
invariant-loop-at l = (k : ℕ) → l.from ≤ k → k < l.at → is_at l.text l.wanted k ≡ false
