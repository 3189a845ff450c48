use Rattle.dme_orders.proofs.Names.{◌++◌, ◌≡◌, drop, string_bytes}
use Rattle.dme_orders.specs.Verdicts.{start_fields}
use Rattle.dme_orders.proofs.verdicts.push_starts.Given as goal

abbrev pub invariant-loop-start : goal.invariant-loop-start
invariant-loop-start l = string_bytes l.text ++ start_fields (drop l.start-index l.starts)
    ≡ string_bytes l.fn.text ++ start_fields l.starts
