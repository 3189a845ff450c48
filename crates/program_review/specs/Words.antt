-- The word that is at fault, its place, and why (this profile).
use Rattle.std.specs.Prelude.{◌≡◌, ℕ, ◌+◌, ◌-◌, Bool, List, length, take, drop, map, find, Option, Some, None, Result, IfOk}
use Rattle.std.specs.List.{range_with_len}
use Rattle.std.specs.Option.{option_map}
use Rattle.std.specs.Char.{to_ascii_lowercase}
use Rattle.std.specs.Str.{bytes_eq}
use Rattle.program_review.specs.declared.causes.Cause.{Cause}
use Rattle.program_review.specs.declared.words.Fault.{Fault}
use Rattle.program_review.specs.declared.words.Word.{Word}
use Rattle.program_review.specs.declared.words.Reason.{Reason}

-- a word, and its place in the bytes from its line on; no place if it is not found there
pub record Named : Type 0 where
  pub bytes : List ℕ
  pub at : Option ℕ

-- why, and the place and the length of the word that is at fault
pub record Caused : Type 0 where
  pub cause : Cause
  pub at : ℕ
  pub len : ℕ

-- how the code keeps both
abbrev pub named_by : Word → Named
named_by word = record { bytes = word.bytes.now; at = word.at }

abbrev pub caused_by : Reason → Caused
caused_by reason = record { cause = reason.cause; at = reason.at; len = reason.len }

-- the bytes are at this place of a text, letters in any case
abbrev pub is_at : List ℕ → List ℕ → ℕ → Bool
is_at text wanted at = bytes_eq (map to_ascii_lowercase (take (length wanted) (drop at text))) (map to_ascii_lowercase wanted)

-- the places of a text from this one on at which n bytes fit, in ascending order
abbrev pub places_from : ℕ → ℕ → List ℕ → List ℕ
places_from from n text = range_with_len from (length text + 1 - n - from)

-- the least place from this one on at which the bytes are
abbrev pub first_place : List ℕ → ℕ → List ℕ → Option ℕ
first_place text from wanted = find (is_at text wanted) (places_from from (length wanted) text)

-- the word at this place as it is written there; without a place, the bytes themselves
abbrev pub word_at : List ℕ → List ℕ → Option ℕ → Named
word_at text wanted None = record { bytes = wanted; at = None }
word_at text wanted (Some at) = record { bytes = take (length wanted) (drop at text); at = Some at }

-- the first word of these bytes from this place on
abbrev pub word_in : List ℕ → ℕ → List ℕ → Named
word_in text from wanted = word_at text wanted (first_place text from wanted)

-- bytes at this place are at fault; without a place, the line is
abbrev pub caused_at : Cause → List ℕ → Option ℕ → Caused
caused_at cause bytes None = record { cause = cause; at = 0; len = 0 }
caused_at cause bytes (Some at) = record { cause = cause; at = at; len = length bytes }

-- a word is at fault
abbrev pub caused : Cause → Named → Caused
caused cause word = caused_at cause word.bytes word.at

-- the line is at fault
abbrev pub of_line : Cause → Caused
of_line cause = record { cause = cause; at = 0; len = 0 }

-- how the code keeps a fault
abbrev pub seen : Fault → Caused
seen fault = caused fault.cause (named_by fault.word)

abbrev pub given : Option Fault → Option Caused
given fault = option_map seen fault

-- the fault that is given, or that there is none, is this one; nothing if out of memory
abbrev pub Gives : {E : Type 0} → Result (Option Fault) E → Option Caused → Type 0
Gives result wanted = IfOk result (λ fault. given fault ≡ wanted)
