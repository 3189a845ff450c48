use Rattle.order_parts.proofs.Names.{◌++◌, ◌≡◌, drop, shown_from}
use Rattle.order_parts.proofs.plan.Lines.push_all_shown.Given as goal

abbrev pub invariant-loop-planned : goal.invariant-loop-planned
invariant-loop-planned l =
    (l.self.text.items ++ shown_from l.self.number (drop l.planned-index l.commands))
    ≡ (l.initial.self.text.items ++ shown_from l.initial.self.number l.commands)
