use Rattle.witness.specs.Orders.{IsOn}
use Rattle.witness.proofs.orders.advance.Given as goal

-- the lines before the place are whole
abbrev pub invariant-loop-at : goal.invariant-loop-at
invariant-loop-at l = IsOn l.lines l.bytes l.at l.left
