use Rattle.std.proofs.Common.{◌≡◌, ◌++◌, drop, length, map}
use Rattle.run_session.proofs.errors.touch_counts.Given as goal

-- the touches of the features so far, and of those that are left
abbrev pub invariant-loop-feature : goal.invariant-loop-feature
invariant-loop-feature l = l.counts.items ++ map (λ f. length f.touches) (drop l.feature-index l.features) ≡ map (λ f. length f.touches) l.features
