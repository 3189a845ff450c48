use Rattle.client_core.proofs.Names.{◌+◌, ◌<◌, ◌∙◌, ◌≡◌, add-one, ap, drop, length, passed_over, rules, slice_index_or, suc, tells_homed, ℕ}
use Rattle.client_core.proofs.Counting.{counted_is}
use Rattle.client_core.proofs.Sends.{first_left}
use Rattle.client_core.proofs.progress.Progress.count.Goals as goal
use Rattle.client_core.proofs.progress.Progress.count.Goals.{then-matches, else-matches}

pub returns-clause-ok : goal.returns-clause-ok
returns-clause-ok c =
    let within : c.args.self.now.todo < length c.args.self.now.plan.items = search rules in
    let is : c.in-Some.planned.now ≡ slice_index_or c.args.self.now.plan.items c.args.self.now.todo c.in-Some.planned.now =
    search rules in
    let todo : drop c.pass_over.new.self.todo c.pass_over.new.self.plan.items
    ≡ passed_over (tells_homed c.args.kind c.args.given.now) (drop (c.args.self.now.todo + 1) c.args.self.now.plan.items) =
    search rules in
    counted_is c.args.wanted.now c.args.kind c.args.given.now c.args.self.now c.pass_over.new.self c.in-Some.planned.now
    (drop (suc c.args.self.now.todo) c.args.self.now.plan.items)
    (first_left c.args.self.now.plan.items c.args.self.now.todo c.in-Some.planned.now within is)
    (search rules)
    (search rules)
    (elim c.if-matches.branch [ then-matches w ↦ search rules | else-matches w ↦ search rules ])
    (todo ∙ ap (λ (n : ℕ). passed_over (tells_homed c.args.kind c.args.given.now) (drop n c.args.self.now.plan.items))
    (add-one c.args.self.now.todo))
    (search rules)
    (search rules)
    (search rules)
