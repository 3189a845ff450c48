use Rattle.std.proofs.Common.{sym, ap, ◌∙◌}
use Rattle.effects.specs.Effects.{the_ask}
use Rattle.watched_ends.proofs.Leading.{led_start, led_more, led_exit}
use Rattle.watched_ends.proofs.running.run.Goals as goal

pub loop-turn-init : goal.loop-turn-init
loop-turn-init g c = led_start _ _

pub returns-in-Exit : goal.returns-in-Exit
returns-in-Exit g c = λ d p q. led_exit d _ _ _ (c.loop-turn.invariant d p q) (sym c.asks-effect.ensures ∙ ap the_ask c.in-Exit.is)

pub loop-turn-preserved : goal.loop-turn-preserved
loop-turn-preserved g c = λ d p q. led_more d _ _ _ _ _ _ _ (c.loop-turn.invariant d p q) c.asks-effect.ensures c.carry_out.ensures c.answer.ensures c.take.ensures
