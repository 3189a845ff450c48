use Rattle.std.proofs.Common.{◌≡◌, take}
use Rattle.record_text.proofs.strangers.same_touches.Given as goal

-- the touches before this one are the same
abbrev pub invariant-loop-at : goal.invariant-loop-at
invariant-loop-at l = take l.at l.one ≡ take l.at l.other
