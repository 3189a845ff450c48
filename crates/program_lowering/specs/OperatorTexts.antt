-- Texts for the operator, at which a run may wait: they are written as they are read (ISO 22093; what a line can hold is this profile's).
use Rattle.std.specs.Prelude.{◌≡◌, ℕ, Bool, true, false, not, ◌&&◌, ◌==◌, List, [], ◌∷◌, ◌++◌, length, nat_le, nat_lt, Option, Some, None}
use Rattle.std.specs.Prelude.{if◌then◌else◌}
use Rattle.std.specs.Char.{to_ascii_uppercase}
use Rattle.std.specs.List.{AllByRecursion, list_all}
use Rattle.dmis_text.specs.Reading.{Reading, refused, text_reading, with_first}
use Rattle.dmis_text.specs.Texts.{may_stand, turned}
use Rattle.dmis_text.specs.declared.elements.Statement.{Statement}
use Rattle.dmis_text.specs.declared.reading.TextFault.{TextFault}
use Rattle.dmis_text.specs.declared.reading.TextFault.TheVariants as fault
use Rattle.dmis_program.specs.Keywords.{keyword_of}
use Rattle.dmis_program.specs.declared.faults.Refusal.{Refusal}
use Rattle.dmis_program.specs.declared.faults.Refusal.TheVariants.{BadByte, LineTooLong}
use Rattle.dmis_program.specs.declared.sayings.StatementMeaning.{StatementMeaning}
use Rattle.program_lowering.specs.Texts.{is_operator_text}
use Rattle.program_lowering.specs.Flats.{Flat, flat, flat_line, flat_said}

-- its word and its parameters as they are read
abbrev pub as_read : Statement → Flat
as_read s = flat s.word s.params

-- what is written of a statement that says this
abbrev pub flat_meant : Statement → StatementMeaning → Option Flat
flat_meant s meaning = if is_operator_text s then Some (as_read s) else flat_said (keyword_of s.word) s.params meaning

-- outside texts: a byte from 33 to 126 that begins no comment, ends no parameter and is no small letter. A `$` is 36, a comma 44
abbrev pub is_outer : ℕ → Bool
is_outer c = (nat_le 33 c && nat_le c 126) && (not (c == 36) && (not (c == 44) && (to_ascii_uppercase c == c)))

-- and opens no text and ends no element: an apostrophe is 39, a `/` 47, a `=` 61
abbrev pub is_solid : ℕ → Bool
is_solid c = (nat_le 33 c && nat_le c 126) && (not (c == 36) && (not (c == 39) && (not (c == 44) && (not (c == 47)
    && (not (c == 61) && (to_ascii_uppercase c == c))))))

-- each byte of a parameter is such a byte or in a text, and each text in it is closed
abbrev pub is_plain : Bool → List ℕ → Bool
is_plain inside [] = not inside
is_plain inside (c ∷ cs) = (if inside then may_stand true c else is_outer c) && is_plain (turned inside c) cs

-- what one line cannot hold
abbrev pub line_refusal : Statement → Option Refusal
line_refusal s = if not (list_all (is_plain false) s.params) then Some BadByte else
    if nat_lt 4096 (length (flat_line (as_read s) s.line)) then Some LineTooLong else None

abbrev pub text_refusal : Statement → Option Refusal
text_refusal s = if is_operator_text s then line_refusal s else None

-- one line can hold each text for the operator of a program
abbrev pub TextsFit : List ℕ → Type 0
TextsFit text = AllByRecursion (λ (s : Statement). text_refusal s ≡ None) (text_reading text).statements

-- the statements before a text for the operator that is refused, and its refusal
abbrev pub fault_for : ℕ → Refusal → TextFault
fault_for line LineTooLong = fault.LineTooLong line
fault_for line _ = fault.BadByte line

abbrev pub before_refused : Statement → Option Refusal → Reading → Reading
before_refused s None rest = with_first s rest
before_refused s (Some refusal) rest = refused (fault_for s.line refusal)

abbrev pub up_to_refused : Option TextFault → List Statement → Reading
up_to_refused end [] = record { statements = []; fault = end }
up_to_refused end (s ∷ statements) = before_refused s (text_refusal s) (up_to_refused end statements)

-- what the code appends, parameter by parameter: no public clause cites it
abbrev pub marked : ℕ → List (List ℕ) → List ℕ
marked mark [] = []
marked mark (param ∷ params) = mark ∷ (param ++ marked 44 params)
