use Rattle.std.proofs.Common.{drop}
use Rattle.order_parts.proofs.PlanLemmas.{IsFollowed}
use Rattle.order_parts.proofs.plan.Lines.push_all.Given as goal

abbrev pub invariant-loop-planned : goal.invariant-loop-planned
invariant-loop-planned l =
    IsFollowed l.self.text.items l.self.number (drop l.planned-index l.commands) l.initial.self.text.items l.initial.self.number l.commands
