use Rattle.std.proofs.Common.{◌≡◌, ◌++◌, length, string_bytes}
use Rattle.deviations.specs.Compared.{features_text}
use Rattle.deviations.proofs.compared.push_features.Given as goal

abbrev pub invariant-loop-left : goal.invariant-loop-left
invariant-loop-left l = string_bytes l.text ++ features_text l.limits l.left l.later ≡ string_bytes l.fn.text ++ features_text l.limits l.fn.wanted l.fn.rows

abbrev pub decreases-loop-left : goal.decreases-loop-left
decreases-loop-left l = length l.left
