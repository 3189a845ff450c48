-- Why a program is refused for a statement or a line, and which word is at fault (this profile).
use Rattle.std.specs.Prelude.{ℕ, List, [], ◌∷◌, length, codes, Option, None, ◌==◌, if◌then◌else◌, slice_get, slice_index_or, drop, option_and_then}
use Rattle.dmis_text.specs.declared.elements.Statement.{Statement}
use Rattle.dmis_program.specs.Keywords.{keyword_of}
use Rattle.dmis_program.specs.Parameters.{begins, before_close}
use Rattle.dmis_program.specs.declared.keywords.Keyword.{Keyword}
use Rattle.dmis_program.specs.declared.keywords.Keyword.TheVariants as word
use Rattle.program_review.specs.declared.causes.Cause.{Cause}
use Rattle.program_review.specs.declared.causes.Cause.TheVariants as cause
use Rattle.program_review.specs.Words.{Caused, of_line}
use Rattle.program_review.specs.Blocks.{OpenBlock}
use Rattle.program_review.specs.Spots.{Site, at_word, at_param}

-- a statement is the last, and the end is missing
abbrev pub ended : Statement → Caused
ended s = of_line (cause.Ended s.line)

-- the line has this many bytes
abbrev pub long_line : ℕ → Caused
long_line n = of_line (cause.LongLine n)

-- a major word is not carried out
abbrev pub major_of : Keyword → Cause
major_of word.Dmismn = cause.SecondStart
major_of _ = cause.NotCarriedOut

-- the minor word is not, if the major word has one, or the major word
abbrev pub unsupported_with : Keyword → Site → List ℕ → Option Caused
unsupported_with word.Goto p first = at_param p 0 first cause.OtherCoordinates
unsupported_with word.Ptmeas p first = at_param p 0 first cause.OtherCoordinates
unsupported_with word.Recall p first = at_param p 0 first cause.OtherRecall
unsupported_with keyword p first = at_word p (major_of keyword)

abbrev pub unsupported_of : Site → List (List ℕ) → Option Caused
unsupported_of p [] = at_word p (major_of (keyword_of p.statement.word))
unsupported_of p (first ∷ params) = unsupported_with (keyword_of p.statement.word) p first

abbrev pub unsupported : Site → Option Caused
unsupported p = unsupported_of p p.statement.params

-- an open block has too few touches
abbrev pub few_touches : Site → OpenBlock → Option Caused
few_touches p b = at_word p (cause.FewTouches b.line b.touches)

-- a statement may not be inside an open block
abbrev pub inside : Site → OpenBlock → Option Caused
inside p b = at_word p (cause.InsideBlock b.line)

-- what is between this prefix and a `)` at the end
unfoldable pub within_ends : List ℕ → List ℕ → Option (List ℕ)
within_ends front bytes = if begins front bytes then before_close (drop (length front) bytes) else None

-- the frame that a first parameter names is not stored
abbrev pub unnamed_frame : Site → List ℕ → Option Caused
unnamed_frame p first = option_and_then (λ name. at_param p 0 name cause.NoFrame) (within_ends (codes "D(") first)

abbrev pub unknown_frame : Site → Option Caused
unknown_frame p = option_and_then (unnamed_frame p) (slice_get p.statement.params 0)

-- the first parameter is at fault
abbrev pub first_at_fault : Site → Cause → Option Caused
first_at_fault p why = option_and_then (λ first. at_param p 0 first why) (slice_get p.statement.params 0)

-- the first of the three components of a direction, for all of them
abbrev pub zero_direction : Site → Option Caused
zero_direction p = if length p.statement.params == 7 then at_param p 4 (slice_index_or p.statement.params 4 []) cause.ZeroDirection else None
