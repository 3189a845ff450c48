use Rattle.services.proofs.Leading.{AreLed}
use Rattle.services.proofs.running.run.Given as goal

abbrev pub invariant-loop-turn : goal.invariant-loop-turn
invariant-loop-turn g l = AreLed l.fn.session (g.H.Hands.told l.fn.hands) l.session (g.H.Hands.told l.hands)
