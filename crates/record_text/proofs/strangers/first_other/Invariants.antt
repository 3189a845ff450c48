use Rattle.std.proofs.Common.{◌≡◌, ◌≤◌, length, take}
use Rattle.record_text.proofs.strangers.first_other.Given as goal

-- the features before this one are the same
abbrev pub invariant-loop-index : goal.invariant-loop-index
invariant-loop-index l = record { same : take l.index l.asked ≡ take l.index l.wanted; within : l.index ≤ length l.wanted }
