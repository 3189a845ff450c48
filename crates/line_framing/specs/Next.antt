-- What is at the start of a list of bytes: a line, nothing whole yet, or a fault (this profile).
use Rattle.std.specs.Prelude.{◌≡◌, ℕ, true, false, ◌&&◌, ◌==◌, nat_lt, if◌then◌else◌, List, [], ◌∷◌, ◌++◌, length, take, drop}
use Rattle.std.specs.Prelude.{Option, Some, None, Result, Ok, Err}
use Rattle.std.specs.List.{list_all, prefix_len}
use Rattle.line_framing.specs.Content.{is_content, IsLine}
use Rattle.line_framing.specs.declared.faults.FramingFault.{FramingFault}
use Rattle.line_framing.specs.declared.faults.FramingFault.TheVariants.{LineTooLong, BadByte}

-- what can be at the start of bytes: a line and what follows its end, nothing whole, or a fault
abbrev pub Front : Type 0
Front = Result (Option (List ℕ × List ℕ)) FramingFault

-- the content of bytes is their longest front free of CR and LF
pub record BeginsWith (bytes content after : List ℕ) : Type 0 where
  pub parts : bytes ≡ content ++ after
  pub free : list_all is_content content ≡ true
  pub stop : (c : ℕ) (more : List ℕ) → after ≡ c ∷ more → is_content c ≡ false

-- what follows a content, which CR LF alone ends
abbrev pub ending : List ℕ → List ℕ → Front
ending content [] = Ok None
ending content (c ∷ []) = if c == 13 then Ok None else Err BadByte
ending content (c ∷ d ∷ more) = if (c == 13) && (d == 10) then Ok (Some (content, more)) else Err BadByte

-- what a content and the bytes after it are; that it is too long is decided first
abbrev pub verdict : List ℕ → List ℕ → Front
verdict content after = if nat_lt 65536 (length content) then Err LineTooLong else ending content after

-- r is what is at the start of bytes
pub record Next (bytes : List ℕ) (r : Front) : Type 0 where
  pub content : List ℕ
  pub after : List ℕ
  pub begins : BeginsWith bytes content after
  pub decides : r ≡ verdict content after

-- how long the content of bytes is
abbrev pub content_len : List ℕ → ℕ
content_len bytes = prefix_len is_content bytes

-- the content
abbrev pub content_of : List ℕ → List ℕ
content_of bytes = take (content_len bytes) bytes

-- what follows it
abbrev pub behind_content : List ℕ → List ℕ
behind_content bytes = drop (content_len bytes) bytes

-- what is at the start of bytes, as a function
abbrev pub next_of : List ℕ → Front
next_of bytes = verdict (content_of bytes) (behind_content bytes)

-- a line was at the start of bytes with its end, before the rest
pub record IsFound (bytes line rest : List ℕ) : Type 0 where
  pub is_line : IsLine line
  pub parts : bytes ≡ line ++ 13 ∷ 10 ∷ rest
