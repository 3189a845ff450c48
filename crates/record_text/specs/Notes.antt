-- What a line of a record says about a connection besides the acts on it (this profile): an error of its server, and how it was run.
use Rattle.std.specs.Prelude.{◌≡◌, ℕ, ◌-◌, ◌==◌, ◌&&◌, ◌||◌, Bool, true, false, nat_le, List, [], ◌∷◌, length, drop, codes, if◌then◌else◌, Option, None, Some}
use Rattle.std.specs.List.{AllByRecursion, list_all}
use Rattle.record_text.specs.Heads.{IsPrinted}
use Rattle.record_text.specs.declared.notes.Note.{Note}
use Rattle.record_text.specs.declared.notes.Note.TheVariants.{Refused, By, Operator, Program, Setup, Opened, Dated, Left, Sealed}

abbrev pub word_of : Note → List ℕ
word_of Refused = codes "REFUSED"
word_of By = codes "BY"
word_of Operator = codes "OPERATOR"
word_of Program = codes "PROGRAM"
word_of Setup = codes "SETUP"
word_of Opened = codes "OPENED"
word_of Dated = codes "DATED"
word_of Left = codes "LEFT"
word_of Sealed = codes "SEAL"

abbrev pub is_decimal : ℕ → Bool
is_decimal b = nat_le 48 b && nat_le b 57

-- a digit of a number to the base of sixteen, in lower case
abbrev pub is_hex : ℕ → Bool
is_hex b = is_decimal b || (nat_le 97 b && nat_le b 102)

-- a byte at a place of a form: a digit for 0, and else the same byte
abbrev pub fits : ℕ → ℕ → Bool
fits form b = if form == 48 then is_decimal b else b == form

-- what follows in a text that begins in this form
abbrev pub after_form : List ℕ → List ℕ → Option (List ℕ)
after_form [] text = Some text
after_form (f ∷ form) [] = None
after_form (f ∷ form) (b ∷ text) = if fits f b then after_form form text else None

abbrev pub is_end : Option (List ℕ) → Bool
is_end None = false
is_end (Some []) = true
is_end (Some (b ∷ text)) = false

abbrev pub is_more : Option (List ℕ) → Bool
is_more None = false
is_more (Some []) = false
is_more (Some (b ∷ text)) = true

-- a time in UTC with milliseconds (RFC 3339)
abbrev pub is_time : List ℕ → Bool
is_time text = is_end (after_form (codes "0000-00-00T00:00:00.000Z") text)

-- a time, a space, and more
abbrev pub is_stamped : List ℕ → Bool
is_stamped text = is_more (after_form (codes "0000-00-00T00:00:00.000Z ") text)

-- 256 bits: 64 such digits
abbrev pub is_digest : List ℕ → Bool
is_digest text = (length text == 64) && list_all is_hex text

-- a space, and 256 bits
abbrev pub ends_so : List ℕ → Bool
ends_so [] = false
ends_so (b ∷ digest) = (b == 32) && is_digest digest

-- a name, a space, and 256 bits
abbrev pub is_identified : List ℕ → Bool
is_identified text = nat_le 66 (length text) && ends_so (drop (length text - 65) text)

-- the form of what a note says
abbrev pub has_form : Note → List ℕ → Bool
has_form Refused text = true
has_form By text = true
has_form Operator text = true
has_form Program text = is_identified text
has_form Setup text = is_identified text
has_form Opened text = is_stamped text
has_form Dated text = is_time text
has_form Left text = is_stamped text
has_form Sealed text = is_digest text

-- what can be written of a note: 1 to 400 printed bytes of its form
pub record IsNoteText (note : Note) (text : List ℕ) : Type 0 where
  pub printed : IsPrinted 400 text
  pub form : has_form note text ≡ true

-- notes, each with what it says
abbrev pub Says : Type 0
Says = Note × List ℕ

abbrev pub AreSaid : List Says → Type 0
AreSaid notes = AllByRecursion (λ said. IsNoteText said.0 said.1) notes

-- an error of the server
abbrev pub is_error : Note → Bool
is_error Refused = true
is_error By = false
is_error Operator = false
is_error Program = false
is_error Setup = false
is_error Opened = false
is_error Dated = false
is_error Left = false
is_error Sealed = false
