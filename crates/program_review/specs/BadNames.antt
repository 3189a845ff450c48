-- Why a text is not a name (this profile).
use Rattle.std.specs.Prelude.{ℕ, not, List, length, find, Option, Some, None, nat_lt, ◌==◌, if◌then◌else◌}
use Rattle.fixed_um.specs.Names.{is_name_byte, is_name_text}
use Rattle.program_review.specs.declared.causes.Cause.{Cause}
use Rattle.program_review.specs.declared.causes.Cause.TheVariants as cause
use Rattle.program_review.specs.Words.{Named, Caused, caused}

-- the leftmost byte that cannot be in a name
abbrev pub leftmost_byte : List ℕ → Option ℕ
leftmost_byte text = find (λ b. not (is_name_byte b)) text

abbrev pub leftmost_cause : Option ℕ → Cause
leftmost_cause None = cause.NotName
leftmost_cause (Some b) = cause.NameByte b

-- none or more than 64 bytes, or else its leftmost byte that cannot be in a name
abbrev pub name_cause : List ℕ → Cause
name_cause text = if length text == 0 then cause.NoName else if nat_lt 64 (length text) then cause.LongName (length text) else
    leftmost_cause (leftmost_byte text)

-- of a text that is this word; none if it is a name
abbrev pub name_fault : List ℕ → Named → Option Caused
name_fault text word = if is_name_text text then None else Some (caused (name_cause word.bytes) word)
