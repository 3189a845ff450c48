-- The touches that would be measured in other coordinates, or by the machine itself, if the refused statements above them were deleted (this
-- profile).
use Rattle.std.specs.Prelude.{ℕ, List, [], ◌∷◌, ◌++◌, Option, is_none, if◌then◌else◌}
use Rattle.dmis_text.specs.declared.elements.Statement.{Statement}
use Rattle.fixed_um.specs.declared.lengths.Point.{Point}
use Rattle.dmis_program.specs.Keywords.{keyword_of}
use Rattle.dmis_program.specs.declared.keywords.Keyword.{Keyword}
use Rattle.dmis_program.specs.declared.keywords.Keyword.TheVariants as word
use Rattle.program_review.specs.Travels.{at_home, way_after}
use Rattle.program_review.specs.UnderSetup.{is_end}
use Rattle.program_review.specs.declared.travels.Stray.{Stray}
use Rattle.program_review.specs.declared.travels.Stray.TheVariants as stray
use Rattle.program_review.specs.declared.travels.Way.{Way}

-- where a touch would be measured after a refused statement that sets coordinates: other ones are selected than are meant
abbrev pub astray : Way → List Stray
astray way = if is_none way.zero then (if way.is_stored then stray.Stored else stray.Machine) ∷ [] else []

-- a touch on this line that is left to the operator
abbrev pub by_hand : Way → ℕ → List Stray
by_hand way line = if way.is_by_hand then stray.ByHand line ∷ [] else []

abbrev pub strays_with : Keyword → Way → ℕ → List Stray
strays_with word.Ptmeas way line = astray way ++ by_hand way line
strays_with _ way line = []

abbrev pub strays_in : Way → Statement → List Stray
strays_in way s = strays_with (keyword_of s.word) way s.line

-- those of the statements from here on; nothing counts after `ENDFIL`
abbrev pub strays_from : List (List ℕ × Point) → Way → List Statement → List Stray
strays_from frames way [] = []
strays_from frames way (s ∷ statements) = if is_end (keyword_of s.word) then [] else
    strays_in way s ++ strays_from frames (way_after frames way s) statements

abbrev pub strays_of : List (List ℕ × Point) → List Statement → List Stray
strays_of frames statements = strays_from frames at_home statements
