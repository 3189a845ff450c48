use Rattle.link_world.proofs.Names.{◌++◌, ◌≡◌, length, rows}
use Rattle.link_world.proofs.worlds.traces.push_rows.Given as goal

abbrev pub invariant-loop-at : goal.invariant-loop-at
invariant-loop-at l = l.text.items ++ rows l.number l.mark l.rest ≡ l.fn.text.items ++ rows l.number l.mark l.bytes

abbrev pub decreases-loop-at : goal.decreases-loop-at
decreases-loop-at l = length l.rest
