use Rattle.watched_ends.proofs.Names.{◌≤◌, AreLast, AreQuiet}
use Rattle.watched_ends.proofs.places.later_of.Given as goal

-- the lines that were noted
abbrev pub invariant-loop-at : goal.invariant-loop-at
invariant-loop-at l = AreLast l.up l.at l.places.items × AreQuiet l.up l.at l.quiet × (l.quiet ≤ l.at)
