-- Which byte of a line is not allowed in its place (this profile).
use Rattle.std.specs.Prelude.{◌≡◌, ℕ, ◌+◌, ◌-◌, ◌<◌, Bool, true, false, List, [], ◌∷◌, length, take, Option, Some, None, slice_get, slice_index}
use Rattle.std.specs.Str.Lines.{lines}
use Rattle.dmis_text.specs.Reading.{text_reading}
use Rattle.dmis_text.specs.declared.elements.Statement.{Statement}
use Rattle.dmis_text.specs.declared.reading.TextFault.{TextFault}
use Rattle.dmis_text.specs.declared.reading.TextFault.TheVariants.{LineTooLong, BadByte, Memory}
use Rattle.program_review.specs.Lines.{first_of, bytes_from}
use Rattle.program_review.specs.declared.causes.Cause.TheVariants as cause
use Rattle.program_review.specs.Words.{Caused}

-- a reading ends with a byte that is not allowed where it is
abbrev pub is_bad_byte : Option TextFault → Bool
is_bad_byte None = false
is_bad_byte (Some (LineTooLong n)) = false
is_bad_byte (Some (BadByte n)) = true
is_bad_byte (Some Memory) = false

-- a text has such a byte
abbrev pub has_bad_byte : List ℕ → Bool
has_bad_byte text = is_bad_byte (text_reading text).fault

-- the line of the last statement of a text; 1 if it has none
abbrev pub line_of_last : Option Statement → ℕ
line_of_last None = 1
line_of_last (Some s) = s.line

abbrev pub last_line : List Statement → ℕ
last_line statements = line_of_last (slice_get statements (length statements - 1))

-- the text from its last statement on
abbrev pub near : List ℕ → List ℕ
near text = bytes_from (last_line (text_reading text).statements) text

-- after this many of the n bytes from a place of a text on, a text that had no such byte has one
pub record Turns (text : List ℕ) (start n before : ℕ) : Type 0 where
  pub within : 0 < n → before < n
  pub good : 0 < before → has_bad_byte (take (start + before) text) ≡ false
  pub bad : before + 1 < n → has_bad_byte (take (start + before + 1) text) ≡ true

-- the bytes of the first line
abbrev pub line_bytes : List ℕ → List ℕ
line_bytes rest = take (length (first_of (lines rest))) rest

-- the byte of a line that turns the text from its last statement on, and how many bytes of the line are before it
pub record IsBadByte (text rest : List ℕ) (before byte : ℕ) : Type 0 where
  pub within : before < length (line_bytes rest)
  pub is_there : byte ≡ slice_index (line_bytes rest) before
  pub turns : Turns (near text) (length (near text) - length rest) (length (line_bytes rest)) before

-- likewise; none only if the line is empty, or is above the last statement
abbrev pub IsBadByteOf : List ℕ → List ℕ → Option (ℕ × ℕ) → Type 0
IsBadByteOf text rest None = 0 < length (line_bytes rest) → length (near text) < length rest
IsBadByteOf text rest (Some p) = IsBadByte text rest p.0 p.1

-- it is at fault
pub record IsByteCause (text rest : List ℕ) (why : Caused) : Type 0 where
  pub byte : ℕ
  pub is_bad : IsBadByte text rest why.at byte
  pub is_cause : why ≡ record { cause = cause.BadByte byte; at = why.at; len = 1 }

abbrev pub IsByteReason : List ℕ → List ℕ → Option Caused → Type 0
IsByteReason text rest None = 0 < length (line_bytes rest) → length (near text) < length rest
IsByteReason text rest (Some why) = IsByteCause text rest why
