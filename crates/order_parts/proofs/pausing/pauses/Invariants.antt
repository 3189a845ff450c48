use Rattle.order_parts.proofs.Names.{◌++◌, ◌≡◌, drop, map, pauses_from, pauses_of, place_seen}
use Rattle.order_parts.proofs.pausing.pauses.Given as goal

-- the pauses so far, and those of the places that are left
abbrev pub invariant-loop-place : goal.invariant-loop-place
invariant-loop-place l = l.pauses.items ++ pauses_from l.before (map place_seen (drop l.place-index l.places))
    ≡ pauses_of (map place_seen l.places)
