use Rattle.program_review.proofs.Names.{◌++◌, ◌≡◌, drop, map, place_seen, places_below, places_of, text_seen}
use Rattle.program_review.proofs.texts.text_places.Given as goal

-- the places so far, and those of the texts that are left
abbrev pub invariant-loop-text : goal.invariant-loop-text
invariant-loop-text l = map place_seen l.places.items
    ++ places_below l.waits.at_texts l.waits.at_begin l.last l.lines l.left (map text_seen (drop l.text-index l.texts))
    ≡ places_of l.waits.at_texts l.waits.at_begin l.touches l.tasks (map text_seen l.texts)
