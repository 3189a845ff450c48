use Rattle.dme_orders.proofs.Names.{◌++◌, ◌≡◌, drop, more_labels, string_bytes}
use Rattle.dme_orders.proofs.missing.push_more.Given as goal

abbrev pub invariant-loop-label : goal.invariant-loop-label
invariant-loop-label l = string_bytes l.text ++ more_labels (drop l.label-index l.labels) ≡ string_bytes l.fn.text ++ more_labels l.labels
