use Rattle.order_parts.proofs.Names.{◌∙◌, ◌≡◌, rules, shown_from}
use Rattle.order_parts.proofs.PlanLemmas.{shown_counted}
use Rattle.order_parts.proofs.plan.shown_text.Goals as goal

pub returns : goal.returns
returns c =
    let e : c.push_all_shown.new.self.text.items ≡ shown_from 1 c.args.commands.now = search rules in
    e ∙ shown_counted 0 c.args.commands.now
