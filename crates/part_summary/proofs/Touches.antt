-- The touches of a program are the places of the rows of no feature.
use Rattle.std.proofs.Common.{◌≡◌, [], ◌∷◌, List, ap₂, refl}
use Rattle.std.specs.List.{AllZip}
use Rattle.deviations.specs.Rows.{IsRow, Place, Row, places_of}
use Rattle.dmis_program.specs.Meaning.{Meaning}
use Rattle.part_summary.specs.Batches.{places_in, touches_of}

are_places : (places : List Place) (rows : List Row) → AllZip IsRow places rows → places_in rows ≡ places
are_places [] [] are = refl
are_places [] (r ∷ rows) are = absurd are
are_places (p ∷ places) [] are = absurd are
are_places (p ∷ places) (r ∷ rows) are = ap₂ (λ (q : Place) (qs : List Place). q ∷ qs) are.0.place (are_places places rows are.1)

pub are_touches : (program : Meaning) (rows : List Row) → AllZip IsRow (places_of program.features []) rows
    → places_in rows ≡ touches_of program
are_touches program rows are = are_places (touches_of program) rows are
