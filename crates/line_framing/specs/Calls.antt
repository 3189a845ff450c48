-- Lists of calls on one framing buffer, in any order and with any pieces.
use Rattle.std.specs.Prelude.{◌≡◌, ℕ, List, [], ◌∷◌, ◌++◌, Some, None, Ok, Err, IfOk, IsNone}
use Rattle.line_framing.specs.Content.{AreLines, line_bytes}
use Rattle.line_framing.specs.Next.{Front, next_of}
use Rattle.line_framing.specs.Framing.{Framing, IsSound, fed, after_next}

-- a call that did not want memory: a piece is fed, or a line is asked for
pub data Call : Type 0 where
  Feed : List ℕ → Call
  Ask : Call

-- the buffer after a call
abbrev pub after_call : Framing → Call → Framing
after_call f (Feed piece) = fed f piece
after_call f Ask = after_next f

-- the buffer after a list of calls
abbrev pub after_calls : Framing → List Call → Framing
after_calls f [] = f
after_calls f (call ∷ calls) = after_calls (after_call f call) calls

-- the line at a front, if any
abbrev pub line_in : Front → List (List ℕ)
line_in (Ok None) = []
line_in (Ok (Some (line, rest))) = line ∷ []
line_in (Err fault) = []

-- the line that a call hands out, if any
abbrev pub handed_by : Framing → Call → List (List ℕ)
handed_by f (Feed piece) = []
handed_by f Ask = line_in (next_of f.rest)

-- the lines that a list of calls hands out, in order
abbrev pub handed_out : Framing → List Call → List (List ℕ)
handed_out f [] = []
handed_out f (call ∷ calls) = handed_by f call ++ handed_out (after_call f call) calls

-- the bytes that a list of calls feeds, however they are cut
abbrev pub bytes_fed : List Call → List ℕ
bytes_fed [] = []
bytes_fed (Feed piece ∷ calls) = piece ++ bytes_fed calls
bytes_fed (Ask ∷ calls) = bytes_fed calls

-- bytes are lines that were handed out, each with CR LF, then the rest, and then what was fed after a fault
pub record IsAccounted (bytes : List ℕ) (lines : List (List ℕ)) (left : Framing) : Type 0 where
  pub refused : List ℕ
  pub parts : bytes ≡ line_bytes lines ++ (left.rest ++ refused)
  pub whole : AreLines lines
  pub taken : left.fault ≡ None → refused ≡ []
  pub sound : IsSound left

-- no line is left to be handed out
abbrev pub NoLineLeft : Framing → Type 0
NoLineLeft f = IfOk (next_of f.rest) IsNone
