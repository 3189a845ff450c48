use Rattle.dme_orders.proofs.Names.{◌++◌, ◌≡◌, length, string_bytes}
use Rattle.dme_orders.specs.Attempts.{lines_from}
use Rattle.dme_orders.proofs.attempts.push_attempts.Given as goal

abbrev pub invariant-loop-left : goal.invariant-loop-left
invariant-loop-left l = string_bytes l.text ++ lines_from l.fn.total l.at l.fn.missing l.left l.begins
    ≡ string_bytes l.fn.text ++ lines_from l.fn.total 0 l.fn.missing l.fn.features l.fn.starts

abbrev pub decreases-loop-left : goal.decreases-loop-left
decreases-loop-left l = length l.left
