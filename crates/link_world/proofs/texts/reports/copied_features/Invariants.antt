use Rattle.std.proofs.Common.{◌≡◌, take}
use Rattle.link_world.proofs.texts.reports.copied_features.Given as goal

abbrev pub invariant-loop-feature : goal.invariant-loop-feature
invariant-loop-feature l = l.copy ≡ take l.feature-index l.features
