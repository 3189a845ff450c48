use Rattle.std.specs.Prelude.{◌≡◌, Option, Some, None, List, []}
use Rattle.watched_ends.proofs.Leading.{AreLed}
use Rattle.watched_ends.proofs.running.run.Given as goal

abbrev pub invariant-loop-turn : goal.invariant-loop-turn
invariant-loop-turn g l = AreLed l.fn.session (g.H.Hands.told l.fn.hands) l.session (g.H.Hands.told l.hands)
