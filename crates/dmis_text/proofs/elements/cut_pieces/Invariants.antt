use Rattle.dmis_text.proofs.Names.{◌++◌, ◌≡◌, element_of, false, folded, is_unquoted, IsTrue, length, List, list_all, map, pieces, true, ℕ}
use Rattle.dmis_text.proofs.elements.cut_pieces.Given as goal

abbrev pub invariant-loop-piece : goal.invariant-loop-piece
invariant-loop-piece l =
    ((more : List ℕ) → l.made.items ++ map element_of (pieces false (l.rest ++ more))
    ≡ l.fn.texts.items ++ map element_of (pieces false (l.fn.bytes ++ more)))
    × (IsTrue l.capitals → folded false l.rest ≡ l.rest)
    × (IsTrue l.bare → list_all is_unquoted l.rest ≡ true)

abbrev pub decreases-loop-piece : goal.decreases-loop-piece
decreases-loop-piece l = length l.rest
