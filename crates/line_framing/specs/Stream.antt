-- The lines of a list of bytes as a whole, whatever the pieces in which it came.
use Rattle.std.specs.Prelude.{◌≡◌, ℕ, Bool, false, ◌&&◌, ◌||◌, not, ◌==◌, nat_lt, if◌then◌else◌, List, [], ◌∷◌, ◌++◌, length, Option, Some}
use Rattle.std.specs.Prelude.{None, Ok, Err}
use Rattle.line_framing.specs.Content.{IsLine, AreLines, line_bytes}
use Rattle.line_framing.specs.Next.{Front, content_of, behind_content}
use Rattle.line_framing.specs.declared.faults.FramingFault.{FramingFault}
use Rattle.line_framing.specs.declared.faults.FramingFault.TheVariants.{LineTooLong, BadByte}

-- a content is followed by LF, or CR and a byte other than LF (this profile)
abbrev pub is_bad_end : List ℕ → Bool
is_bad_end [] = false
is_bad_end (c ∷ []) = c == 10
is_bad_end (c ∷ d ∷ more) = (c == 10) || ((c == 13) && not (d == 10))

-- the fault of bytes that begin with no line and its end; that the content is too long comes first (this profile)
abbrev pub fault_of : List ℕ → Option FramingFault
fault_of rest =
    if nat_lt 65536 (length (content_of rest)) then Some LineTooLong else if is_bad_end (behind_content rest) then Some BadByte else None

-- the bytes are these lines, each with CR LF, and then a rest that begins with no line and its end, with its fault
pub record IsStream (bytes : List ℕ) (lines : List (List ℕ)) (rest : List ℕ) (fault : Option FramingFault) : Type 0 where
  pub parts : bytes ≡ line_bytes lines ++ rest
  pub whole : AreLines lines
  pub no_more : (line more : List ℕ) → IsLine line → rest ≡ line ++ 13 ∷ 10 ∷ more → ⊥
  pub faulty : fault ≡ fault_of rest

-- the fault at a front, if any
abbrev pub fault_in : Front → Option FramingFault
fault_in (Ok found) = None
fault_in (Err fault) = Some fault

-- some lines, rest and fault are those of the bytes
pub record IsRead (bytes : List ℕ) : Type 0 where
  pub lines : List (List ℕ)
  pub rest : List ℕ
  pub fault : Option FramingFault
  pub stream : IsStream bytes lines rest fault

-- two readings of bytes as a stream are one
pub record AreSame (lines others : List (List ℕ)) (rest left : List ℕ) (fault other : Option FramingFault) : Type 0 where
  pub lines_are : lines ≡ others
  pub rests_are : rest ≡ left
  pub faults_are : fault ≡ other

-- a line is the first of lines, and what it left, with what is to come, are the bytes of the others
pub record TakesFirst (lines : List (List ℕ)) (line left more : List ℕ) : Type 0 where
  pub others : List (List ℕ)
  pub first : lines ≡ line ∷ others
  pub behind : left ++ more ≡ line_bytes others
