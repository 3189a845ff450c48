use Rattle.drawings.proofs.Names.{◌++◌, ◌≡◌, done_dot, drop, flat_map}
use Rattle.drawings.proofs.pictures.put_done_dots.Given as goal

-- the text so far, and that of the stops that are left, is the whole text
abbrev pub invariant-loop-done : goal.invariant-loop-done
invariant-loop-done l = l.out.items ++ flat_map (done_dot l.view l.radius) (drop l.done-index l.stops)
    ≡ l.initial.out.items ++ flat_map (done_dot l.view l.radius) l.stops
