-- The words of statements (ISO 22093), and what each is in this profile.
use Rattle.std.specs.Prelude.{ℕ, Bool, List, [], ◌∷◌, codes, if◌then◌else◌}
use Rattle.std.specs.List.{list_any}
use Rattle.std.specs.Str.{bytes_eq}
use Rattle.dmis_program.specs.declared.keywords.Keyword.{Keyword}
use Rattle.dmis_program.specs.declared.keywords.Keyword.TheVariants.{Dmismn, Goto, Meas, Ptmeas, Endmes, Snslct, Recall, Endfil, Units}
use Rattle.dmis_program.specs.declared.keywords.Keyword.TheVariants.{Mode, Definition, Passed, Unknown}

-- whether a text is one of these
abbrev pub is_among : List ℕ → List (List ℕ) → Bool
is_among text texts = list_any (λ other. bytes_eq text other) texts

-- the words of definitions, which may have a label and command nothing
abbrev pub definitions : List (List ℕ)
definitions = codes "FEAT" ∷ (codes "TOL" ∷ (codes "SNSDEF" ∷ []))

-- the other words that command nothing
abbrev pub passed : List (List ℕ)
passed = codes "FILNAM" ∷ (codes "FEDRAT" ∷ (codes "ACLRAT"
    ∷ (codes "SNSET" ∷ (codes "FINPOS" ∷ (codes "PRCOMP" ∷ (codes "WKPLAN" ∷ (codes "TEXT" ∷ (codes "DISPLY" ∷ (codes "OUTPUT" ∷ [])))))))))

-- what a word is
unfoldable pub keyword_of : List ℕ → Keyword
keyword_of word =
    if bytes_eq word (codes "DMISMN") then Dmismn else
    if bytes_eq word (codes "GOTO") then Goto else
    if bytes_eq word (codes "MEAS") then Meas else
    if bytes_eq word (codes "PTMEAS") then Ptmeas else
    if bytes_eq word (codes "ENDMES") then Endmes else
    if bytes_eq word (codes "SNSLCT") then Snslct else
    if bytes_eq word (codes "RECALL") then Recall else
    if bytes_eq word (codes "ENDFIL") then Endfil else
    if bytes_eq word (codes "UNITS") then Units else
    if bytes_eq word (codes "MODE") then Mode else
    if is_among word definitions then Definition else
    if is_among word passed then Passed else Unknown
