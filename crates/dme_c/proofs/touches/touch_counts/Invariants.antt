use Rattle.std.proofs.Common.{◌≡◌, take}
use Rattle.dme_c.specs.Touches.{touch_counts}
use Rattle.dme_c.proofs.touches.touch_counts.Given as goal

-- the features that were looked at have these counts
abbrev pub invariant-loop-feature : goal.invariant-loop-feature
invariant-loop-feature l = l.counts.items ≡ touch_counts (take l.feature-index l.wanted)
