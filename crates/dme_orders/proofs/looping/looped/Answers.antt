use Rattle.dme_orders.proofs.Names.{◌∙◌, Act, ap, ends_shown, List, report_text, rules, ℕ}
use Rattle.link_world.proofs.Turning.{on_err}
use Rattle.dme_orders.proofs.LoopingLemmas.{loop_leaves, loop_stops}
use Rattle.dme_orders.proofs.looping.looped.Goals.{in-Ok, in-Err}
use Rattle.dme_orders.proofs.looping.looped.Goals as goal

pub returns-in_err-text-clause-stops : goal.returns-in_err-text-clause-stops
returns-in_err-text-clause-stops g c = on_err c.from_residual-in_err-text.result _
    (loop_stops c.args.task.window c.args.task.setup c.args.task.program _ _
    c.in_ok-machine.machine c.in_ok-machine.client c.loop_link-result.new.client c.in_ok-machine.server c.loop_link-result.new.server
    c.loop_link-result.result c.loop_link-result.ensures.ran c.loop_link-result.ensures.stopped c.loop_link-result.ensures.told
    c.in_ok-machine.ensures.machine c.in_ok-machine.ensures.client c.in_ok-machine.ensures.server)

pub returns-clause-leaves : goal.returns-clause-leaves
returns-clause-leaves g c = loop_leaves c.args.task.window c.args.task.setup c.args.task.program _ _
    c.in_ok-machine.machine c.in_ok-machine.client c.loop_link-result.new.client c.in_ok-machine.server c.loop_link-result.new.server _ _
    (elim c.match-result.branch [ in-Ok w ↦ search rules | in-Err w ↦ search rules ])
    c.loop_link-result.ensures.told
    c.in_ok-machine.ensures.machine c.in_ok-machine.ensures.client c.in_ok-machine.ensures.server
    c.state-state.ensures.state
    (c.in_ok-text.ensures.text
    ∙ ap (λ (ledger : List (ℕ × Act)). report_text (ends_shown c.loop_link-result.new.client ledger)) c.ledger.ensures)
