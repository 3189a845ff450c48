-- A table of rows, one for each place.
use Rattle.deviations.proofs.Names.{[], ◌++◌, ◌∷◌, AllZip, IsRow, List, Place, Row}

-- one more place, and its row
pub zip_push : (places : List Place) (rows : List Row) (p : Place) (r : Row) → AllZip IsRow places rows → IsRow p r
    → AllZip IsRow (places ++ p ∷ []) (rows ++ r ∷ [])
zip_push [] [] p r all is = (is, tt)
zip_push [] (b ∷ rows) p r all is = absurd all
zip_push (a ∷ places) [] p r all is = absurd all
zip_push (a ∷ places) (b ∷ rows) p r all is = (all.0, zip_push places rows p r all.1 is)
