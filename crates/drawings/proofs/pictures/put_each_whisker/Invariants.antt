use Rattle.drawings.proofs.Names.{◌++◌, ◌≡◌, drop, flat_map, whisker}
use Rattle.drawings.proofs.pictures.put_each_whisker.Given as goal

-- the text so far, and that of the stops that are left, is the whole text
abbrev pub invariant-loop-one : goal.invariant-loop-one
invariant-loop-one l = l.out.items ++ flat_map (whisker l.view l.whiskers l.thickness) (drop l.one-index l.seen)
    ≡ l.initial.out.items ++ flat_map (whisker l.view l.whiskers l.thickness) l.seen
