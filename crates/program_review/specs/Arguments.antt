-- Why the parameters of a statement do not fit, and which word is at fault (this profile).
use Rattle.std.specs.Prelude.{ℕ, ◌-◌, Bool, true, false, List, [], ◌∷◌, length, drop, codes, Option, Some, None}
use Rattle.std.specs.Prelude.{◌==◌, if◌then◌else◌, slice_get, slice_index_or}
use Rattle.std.specs.List.{before_last}
use Rattle.std.specs.Option.{option_or}
use Rattle.std.specs.Str.{bytes_eq}
use Rattle.dmis_text.specs.Statements.{has_open_text}
use Rattle.dmis_program.specs.Keywords.{keyword_of}
use Rattle.dmis_program.specs.Parameters.{begins, is_letters}
use Rattle.dmis_program.specs.declared.keywords.Keyword.{Keyword}
use Rattle.dmis_program.specs.declared.keywords.Keyword.TheVariants as word
use Rattle.program_review.specs.declared.causes.Cause.TheVariants as cause
use Rattle.program_review.specs.Words.{Caused, caused}
use Rattle.program_review.specs.Spots.{Site, label_spot, part_spot, param_spot, at_word, at_param}
use Rattle.program_review.specs.Causes.{within_ends}
use Rattle.program_review.specs.BadNames.{name_fault}
use Rattle.program_review.specs.Numerals.{count_before}

-- it has this many parameters after a first `CART`, if it has one
abbrev pub count_cause : Site → Option Caused
count_cause p = at_word p (cause.Count (count_before p.statement.params) (length p.statement.params - count_before p.statement.params))

-- parameter n, counted from 0, does not have this form: a prefix, a name and a `)`; none if it has
abbrev pub form_cause_of : Site → ℕ → List ℕ → Option (List ℕ) → Option Caused
form_cause_of p n param None = at_param p n param cause.NoParentheses
form_cause_of p n param (Some name) = name_fault name (param_spot p.rest p.statement n name)

abbrev pub form_cause : Site → ℕ → List ℕ → List ℕ → Option Caused
form_cause p n front param = form_cause_of p n param (within_ends front param)

-- `MEAS/kind,F(name),n`: of its three parameters the leftmost that does not fit
abbrev pub feature_cause : Site → List ℕ → List ℕ → Option Caused
feature_cause p feature touches = option_or (form_cause p 1 (codes "F(") feature) (at_param p 2 touches cause.NoCount)

abbrev pub three_cause : Site → List ℕ → List ℕ → List ℕ → Option Caused
three_cause p kind feature touches = if is_letters kind then feature_cause p feature touches else at_param p 0 kind cause.NoKind

abbrev pub meas_cause : Site → Option Caused
meas_cause p = if length p.statement.params == 3 then three_cause p (slice_index_or p.statement.params 0 []) (slice_index_or p.statement.params 1 [])
    (slice_index_or p.statement.params 2 []) else count_cause p

-- `PTMEAS/CART,x,y,z[,i,j,k]`
abbrev pub ptmeas_cause_of : Site → List (List ℕ) → Option Caused
ptmeas_cause_of p [] = count_cause p
ptmeas_cause_of p (first ∷ others) = if bytes_eq first (codes "CART") then count_cause p else at_param p 0 first cause.NotCart

abbrev pub ptmeas_cause : Site → Option Caused
ptmeas_cause p = ptmeas_cause_of p p.statement.params

-- `SNSLCT/S(name)` or `SNSLCT/SA(name)`, and `RECALL/D(name)`
abbrev pub front_of : Bool → List ℕ → List ℕ
front_of false first = codes "D("
front_of true first = if begins (codes "SA(") first then codes "SA(" else codes "S("

abbrev pub name_alone : Site → (is_tool : Bool) → Option Caused
name_alone p is_tool = if length p.statement.params == 1 then form_cause p 0 (front_of is_tool (slice_index_or p.statement.params 0 []))
    (slice_index_or p.statement.params 0 []) else count_cause p

-- how many bytes precede the last apostrophe, which is 39
abbrev pub last_apostrophe : List ℕ → ℕ
last_apostrophe element = length (before_last (λ b. b == 39) element)

-- an element from its last apostrophe on
abbrev pub last_text : List ℕ → List ℕ
last_text element = drop (last_apostrophe element) element

-- the text that is not closed is in the last parameter, or in the word if there is none
abbrev pub open_text : Site → Option (List ℕ) → Option Caused
open_text p None = Some (caused cause.OpenText (part_spot p.rest p.statement (last_text p.statement.word)))
open_text p (Some last) = at_param p (length p.statement.params - 1) (last_text last) cause.OpenText

abbrev pub open_cause : Site → Option Caused
open_cause p = if has_open_text p.statement then open_text p (slice_get p.statement.params (length p.statement.params - 1)) else None

-- what is wrong before the parameters are looked at: a label before a word that has none, or else a text that is not closed
abbrev pub label_before : Keyword → Site → List ℕ → Option Caused
label_before word.Definition p label = open_cause p
label_before _ p label = Some (caused cause.Label (label_spot p.rest label))

abbrev pub head_cause_of : Site → Option (List ℕ) → Option Caused
head_cause_of p None = open_cause p
head_cause_of p (Some label) = label_before (keyword_of p.statement.word) p label

abbrev pub head_cause : Site → Option Caused
head_cause p = head_cause_of p p.statement.label

-- what is wrong with the parameters; none if a word takes any
abbrev pub params_cause_of : Keyword → Site → Option Caused
params_cause_of word.Goto p = count_cause p
params_cause_of word.Endmes p = count_cause p
params_cause_of word.Endfil p = count_cause p
params_cause_of word.Units p = count_cause p
params_cause_of word.Mode p = count_cause p
params_cause_of word.Meas p = meas_cause p
params_cause_of word.Ptmeas p = ptmeas_cause p
params_cause_of word.Snslct p = name_alone p true
params_cause_of word.Recall p = name_alone p false
params_cause_of _ p = None

abbrev pub params_cause : Site → Option Caused
params_cause p = params_cause_of (keyword_of p.statement.word) p

-- the head, or else the parameters
abbrev pub argument_cause : Site → Option Caused
argument_cause p = option_or (head_cause p) (params_cause p)
