use Rattle.std.proofs.Common.{◌∙◌, ap}
use Rattle.services.specs.Sessions.{State}
use Rattle.services.proofs.Leading.{led_more, led_start}
use Rattle.services.proofs.running.run.Goals as goal

pub loop-turn-init : goal.loop-turn-init
loop-turn-init g c = led_start _ _

pub loop-turn-preserved : goal.loop-turn-preserved
loop-turn-preserved g c = λ none. led_more _ _ _ _ _ _ _ _ (c.loop-turn.invariant none)
    (λ at. c.in_default.not-Exiting (ap (λ (s : State). s.stage) c.session.view_is ∙ at))
    c.asks.ensures c.carry_out.ensures c.answer.ensures (record {
      goes = c.take.ensures.goes;
      served = c.take.ensures.served;
      stays = c.take.ensures.stays;
      breaks = c.take.ensures.breaks;
      stands = c.take.ensures.stands;
    })
