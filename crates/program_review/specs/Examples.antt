-- Examples of statements (ISO 22093). No contract cites these definitions.
use Rattle.std.specs.Prelude.{ℕ, false, List, [], ◌∷◌, codes, Some, None}
use Rattle.dmis_text.specs.declared.elements.Statement.{Statement}
use Rattle.program_review.specs.declared.causes.Cause.{Cause}
use Rattle.program_review.specs.Blocks.{OpenBlock}
use Rattle.program_review.specs.Spots.{Site}
use Rattle.dmis_program.specs.declared.faults.Refusal.{Refusal}
use Rattle.program_review.specs.Taken.{nothing_around, taken_by}
use Rattle.program_review.specs.Words.{Caused}
use Rattle.program_review.specs.declared.taking.Taken.{Taken}

-- a word of this length at this place is at fault
abbrev pub at_fault : Cause → ℕ → ℕ → Caused
at_fault cause at len = record { cause = cause; at = at; len = len }

-- `GOTO/1,1,1`
abbrev pub going : Statement
going = record { line = 1; label = None; word = codes "GOTO"; params = codes "1" ∷ (codes "1" ∷ (codes "1" ∷ [])) }

-- `FEAT=FEAT/1`
abbrev pub labelled : Statement
labelled = record { line = 1; label = Some (codes "FEAT"); word = codes "FEAT"; params = codes "1" ∷ [] }

-- `ENDMES`
abbrev pub ending : Statement
ending = record { line = 1; label = None; word = codes "ENDMES"; params = [] }

-- a block that begins on the first line, and has one of two touches
abbrev pub one_of_two : OpenBlock
one_of_two = record { line = 1; wanted = codes "2"; touches = 1 }

-- a statement on these bytes
abbrev pub at : List ℕ → Statement → Site
at rest s = record { rest = rest; statement = s }

-- one without a label
abbrev pub on_line : ℕ → List ℕ → List (List ℕ) → Statement
on_line line word params = record { line = line; label = None; word = word; params = params }

abbrev pub unlabelled : List ℕ → List (List ℕ) → Statement
unlabelled word params = on_line 1 word params

abbrev pub said : List ℕ → List ℕ → List (List ℕ) → Site
said rest word params = at rest (unlabelled word params)

-- `MEAS/POINT,F(A),2` and `PTMEAS` on a line
abbrev pub beginning : ℕ → Statement
beginning line = on_line line (codes "MEAS") (codes "POINT" ∷ (codes "F(A)" ∷ (codes "2" ∷ [])))

abbrev pub touching : ℕ → Statement
touching line = on_line line (codes "PTMEAS") (codes "CART" ∷ [])

-- `GOTO/CART,1,x,y`
abbrev pub moving : Statement
moving = unlabelled (codes "GOTO") (codes "CART" ∷ (codes "1" ∷ (codes "x" ∷ (codes "y" ∷ []))))

-- `GOTO/1,,3`
abbrev pub gap : Statement
gap = unlabelled (codes "GOTO") (codes "1" ∷ ([] ∷ (codes "3" ∷ [])))

-- `MEAS/POINT,F(A B),x`
abbrev pub measuring : Statement
measuring = unlabelled (codes "MEAS") (codes "POINT" ∷ (codes "F(A B)" ∷ (codes "x" ∷ [])))

-- with nothing around it, how `dme lower` takes a statement that is no move to variables
abbrev pub taking : Refusal → Statement → Taken
taking refusal s = taken_by nothing_around false refusal s

-- `LABEL=WORD/X`
abbrev pub named : List ℕ → List ℕ → Statement
named label word = record { line = 1; label = Some label; word = word; params = codes "X" ∷ [] }

-- `WORD/X`, and how it is taken
abbrev pub alone : List ℕ → List ℕ → Statement
alone word param = unlabelled word (param ∷ [])

abbrev pub takes : Refusal → List ℕ → List ℕ → Taken
takes refusal word param = taking refusal (alone word param)
