use Rattle.std.proofs.Common.{◌++◌, ◌≡◌, drop}
use Rattle.std.specs.List.{flat_map}
use Rattle.drawings.specs.Numbers.{number_of}
use Rattle.drawings.proofs.numbers.put_each_number.Given as goal

-- the text so far, and that of the stops that are left, is the whole text
abbrev pub invariant-loop-one : goal.invariant-loop-one
invariant-loop-one l = l.out.items ++ flat_map (number_of l.view l.touches) (drop l.one-index l.seen)
    ≡ l.initial.out.items ++ flat_map (number_of l.view l.touches) l.seen
