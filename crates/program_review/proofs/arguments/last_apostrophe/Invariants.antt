use Rattle.program_review.proofs.Outside.{◌<◌, ◌≡◌, ◌≢◌, ◌≤◌, length, slice_index, ℕ}
use Rattle.program_review.proofs.arguments.last_apostrophe.Given as goal

-- the bytes from `end` on are no apostrophes
abbrev pub invariant-loop-end : goal.invariant-loop-end
invariant-loop-end l = record {
  within : l.end ≤ length l.text;
  none : (k : ℕ) → l.end ≤ k → k < length l.text → slice_index l.text k ≢ 39;
}

abbrev pub decreases-loop-end : goal.decreases-loop-end
decreases-loop-end l = l.end
