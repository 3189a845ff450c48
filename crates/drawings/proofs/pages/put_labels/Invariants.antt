use Rattle.drawings.proofs.Names.{◌++◌, ◌≡◌, drop, flat_map, missing_label}
use Rattle.drawings.proofs.pages.put_labels.Given as goal

abbrev pub invariant-loop-feature : goal.invariant-loop-feature
invariant-loop-feature l = l.out.items ++ flat_map missing_label (drop l.feature-index l.wanted) ≡ l.initial.out.items ++ flat_map missing_label l.wanted
