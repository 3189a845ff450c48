-- Classes of bytes that are passed over in blocks: no public clause cites them. LF is 10, an apostrophe 39, `$` 36, a comma 44,
-- a `/` 47 and a `=` 61.
use Rattle.std.specs.Prelude.{ℕ, Bool, not, ◌&&◌, ◌==◌, nat_le, true, false, if◌then◌else◌}
use Rattle.std.specs.Char.{to_ascii_uppercase}
use Rattle.std.specs.Int.{w64, trailing_zeros}
use Rattle.dmis_text.specs.Texts.{may_stand}

-- a byte that does not end a line
abbrev pub is_in_line : ℕ → Bool
is_in_line c = not (c == 10)

-- a byte that may stand anywhere and begins neither a text nor a comment
abbrev pub is_plain : ℕ → Bool
is_plain c = may_stand false c && (not (c == 39) && not (c == 36))

-- a byte that may be in a text and does not end it
abbrev pub is_in_text : ℕ → Bool
is_in_text c = may_stand true c && not (c == 39)

-- a byte that neither opens nor closes a text, begins no comment and may be there
abbrev pub is_passed : Bool → ℕ → Bool
is_passed true = is_in_text
is_passed false = is_plain

-- a byte that may be in a comment
abbrev pub is_in_comment : ℕ → Bool
is_in_comment c = may_stand true c

-- a byte that neither opens nor closes a text
abbrev pub is_unquoted : ℕ → Bool
is_unquoted c = not (c == 39)

-- a byte that begins no text and is not one of the marks between elements
abbrev pub is_unmarked : ℕ → Bool
is_unmarked c = not (c == 39) && (not (c == 44) && (not (c == 47) && not (c == 61)))

-- a byte that begins no text and is no small letter
abbrev pub is_settled : ℕ → Bool
is_settled c = not (c == 39) && (to_ascii_uppercase c == c)

-- a byte from a space to a grave accent that begins neither a text nor a comment: it is handed out as it is, and ends no line
abbrev pub is_bare : ℕ → Bool
is_bare c = (nat_le 32 c && nat_le c 96) && (not (c == 39) && not (c == 36))

-- a byte at which no element ends
abbrev pub is_within : Bool → ℕ → Bool
is_within true = is_unquoted
is_within false = is_unmarked

-- a byte that is handed out as it is
abbrev pub is_kept : Bool → ℕ → Bool
is_kept true = is_unquoted
is_kept false = is_settled

-- the place of the lowest bit that is set, or n where none is
abbrev pub lowest_set : ℕ → ℕ → ℕ
lowest_set mask n = if mask == 0 then n else trailing_zeros w64 mask
