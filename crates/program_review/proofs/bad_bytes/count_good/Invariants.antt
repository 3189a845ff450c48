use Rattle.program_review.proofs.Outside.{◌+◌, ◌-◌, ◌<◌, ◌≡◌, ◌≤◌, false, has_bad_byte, length, take, true}
use Rattle.program_review.proofs.bad_bytes.count_good.Given as goal

-- the prefix that ends at `before` has no bad byte, the one that ends at `behind` has one, and that is within the bytes
abbrev pub invariant-loop-behind : goal.invariant-loop-behind
invariant-loop-behind l = record {
  ordered : l.before ≤ l.behind;
  apart : 0 < l.count → l.before < l.behind;
  within : l.behind ≤ l.count;
  inside : l.start + l.count ≤ length l.text;
  good : 0 < l.before → has_bad_byte (take (l.start + l.before) l.text) ≡ false;
  bad : l.behind < l.count → has_bad_byte (take (l.start + l.behind) l.text) ≡ true;
}

abbrev pub decreases-loop-behind : goal.decreases-loop-behind
decreases-loop-behind l = l.behind - l.before
