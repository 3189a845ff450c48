-- The words that a flat program does not have, each with the reason for which it is left out (ISO 22093 has the words; the reasons are this
-- profile's). All of them measure nothing, and but for clearing none moves the machine.
use Rattle.std.specs.Prelude.{ℕ, Bool, true, false, not, ◌&&◌, List, [], ◌∷◌, ◌||◌, codes, is_none, Option, Some, None, if◌then◌else◌}
use Rattle.std.specs.Str.{bytes_eq}
use Rattle.dmis_text.specs.Statements.{has_open_text}
use Rattle.dmis_text.specs.declared.elements.Statement.{Statement}
use Rattle.dmis_program.specs.Keywords.{keyword_of, is_among}
use Rattle.dmis_program.specs.declared.keywords.Keyword.{Keyword}
use Rattle.dmis_program.specs.declared.keywords.Keyword.TheVariants as word
use Rattle.dmis_program.specs.Parameters.{begins}
use Rattle.program_flow.specs.Calls.{is_lead}
use Rattle.program_flow.specs.LookBack.{is_declaration}
use Rattle.program_lowering.specs.declared.words.Choices.{Choices}
use Rattle.program_lowering.specs.declared.words.Reason.{Reason}
use Rattle.program_lowering.specs.declared.words.Reason.TheVariants as reason

-- all that may be chosen
abbrev pub every : Choices
every = record { no_clearing = true; compensated = true; skip_manual = true; stored_frames = true; even_touches = true }

-- how results are printed, and where
abbrev pub printing : List (List ℕ)
printing = codes "VFORM" ∷ codes "DECPL" ∷ codes "DEVICE" ∷ codes "OPEN" ∷ codes "CLOSE" ∷ codes "REPORT" ∷ []

-- what is measured, by whom, by which plan, and on what it is clamped
abbrev pub naming : List (List ℕ)
naming = codes "PARTID" ∷ codes "PARTRV" ∷ codes "PARTSN" ∷ codes "LOTID" ∷ codes "OPERID" ∷ codes "PLANID" ∷ codes "PREVOP"
    ∷ codes "PROCID" ∷ codes "MFGDEV" ∷ codes "CLMPID" ∷ codes "CLMPSN" ∷ codes "FIXTID" ∷ codes "FIXTSN" ∷ []

-- what is computed of touches after they are made
abbrev pub evaluating : List (List ℕ)
evaluating = codes "GEOALG" ∷ codes "CONST" ∷ codes "EVAL" ∷ []

-- how the machine moves from one place to the next
abbrev pub motion : List (List ℕ)
motion = codes "FLY" ∷ codes "RAPID" ∷ []

-- where the machine clears the part between features: these move
abbrev pub clearing : List (List ℕ)
clearing = codes "CLRSRF" ∷ codes "CLRPLN" ∷ codes "CZONE" ∷ codes "CZSLCT" ∷ []

-- `TECOMP/OFF`; and `TECOMP/ON` if the machine is said to correct for temperature
abbrev pub compensation : Bool → List (List ℕ) → Option Reason
compensation compensated [] = None
compensation compensated (first ∷ rest) =
    if bytes_eq first (codes "OFF") then Some reason.Uncompensated else
    if compensated && bytes_eq first (codes "ON") then Some reason.Compensated else None

-- one frame, by the mark of its name
abbrev pub names_frame : List (List ℕ) → Bool
names_frame (only ∷ []) = begins (codes "D(") only || begins (codes "DA(") only
names_frame _ = false

-- what the setup's frames take the place of: `DATDEF`, and `SAVE/D(..)` or `SAVE/DA(..)`, which select nothing
abbrev pub is_of_setup : List ℕ → List (List ℕ) → Bool
is_of_setup name params = bytes_eq name (codes "DATDEF") || (bytes_eq name (codes "SAVE") && names_frame params)

-- why a word that no flat program has may be left out
abbrev pub reason_of : Choices → List ℕ → List (List ℕ) → Option Reason
reason_of choices name params =
    if is_among name printing then Some reason.Printing else
    if is_among name naming then Some reason.Naming else
    if is_among name evaluating then Some reason.Evaluating else
    if is_among name motion then Some reason.Motion else
    if is_among name clearing then (if choices.no_clearing then Some reason.Clearing else None) else
    if bytes_eq name (codes "TECOMP") then compensation choices.compensated params else
    if choices.stored_frames && is_of_setup name params then Some reason.Stored else None

abbrev pub is_unknown : Keyword → Bool
is_unknown word.Unknown = true
is_unknown _ = false

-- an `ASSIGN` that was carried out: the name and its value
abbrev pub is_pair : List (List ℕ) → Bool
is_pair (name ∷ (value ∷ [])) = true
is_pair _ = false

abbrev pub is_assigned : Statement → Bool
is_assigned s = bytes_eq s.word (codes "ASSIGN") && (is_none s.label && is_pair s.params)

-- the word of the statement that is noted where a block is given touches: no line is read to it, since letters outside texts are capitals
abbrev pub given_word : List ℕ
given_word = codes "ENDMES is given"

-- likewise of a statement with its values
abbrev pub reason_for : Choices → Statement → Option Reason
reason_for choices s = if is_declaration s then Some reason.Declared else
    if is_assigned s then Some reason.Assigned else
    if is_lead s then Some reason.Leads else
    if bytes_eq s.word given_word then Some reason.Touched else reason_of choices s.word s.params

-- why a statement is left out: its word is no flat program's, and its texts are closed
abbrev pub left_out : Choices → Statement → Option Reason
left_out choices s = if is_unknown (keyword_of s.word) && not (has_open_text s) then reason_for choices s else None

-- the settings of motion and of probing that a flat program may have, and passes over
abbrev pub passed_motion : List (List ℕ)
passed_motion = codes "FEDRAT" ∷ codes "ACLRAT" ∷ codes "SNSET" ∷ codes "FINPOS" ∷ codes "PRCOMP" ∷ []

-- why a flat program's word that commands nothing is not written out
abbrev pub passed_reason : Keyword → List ℕ → Option Reason
passed_reason word.Definition name = Some reason.Passed
passed_reason word.Passed name = if is_among name passed_motion then Some reason.Motion else Some reason.Passed
passed_reason word.Recall name = Some reason.Passed
passed_reason _ name = None
