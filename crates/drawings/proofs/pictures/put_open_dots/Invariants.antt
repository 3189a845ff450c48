use Rattle.drawings.proofs.Names.{◌++◌, ◌≡◌, drop, flat_map, open_dot}
use Rattle.drawings.proofs.pictures.put_open_dots.Given as goal

-- the text so far, and that of the stops that are left, is the whole text
abbrev pub invariant-loop-open : goal.invariant-loop-open
invariant-loop-open l = l.out.items ++ flat_map (open_dot l.view l.radius) (drop l.open-index l.stops)
    ≡ l.initial.out.items ++ flat_map (open_dot l.view l.radius) l.stops
