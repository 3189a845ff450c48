-- The order in which a relay reads the lines of both ends (this profile).
use Rattle.std.specs.Prelude.{ℕ, List, [], ◌∷◌, ◌++◌, length, drop, map, Option, Some, None, Ok, Err}
use Rattle.line_framing.specs.Next.{Front, next_of}
use Rattle.line_framing.specs.Stream.{IsStream}
use Rattle.line_framing.specs.declared.faults.FramingFault.{FramingFault}
use Rattle.line_framing.proofs.Streams.{some_stream}
use Rattle.witness.specs.Relaying.{Relaying, Reads, none, client, server, Move, FromClient, FromServer, Read, MakeDue, Write, ToServer, ToClient, Did, Course}
use Rattle.witness.specs.Relaying.{Relays, begun, moved}
use Rattle.witness.specs.Watching.{Watching}
use Rattle.witness_laws.specs.Orders.{Line, Up, Down, ups, downs}

-- the line at the front of the client's bytes, if there is one, and of the server's
abbrev pub up_in : Front → List Line
up_in (Ok None) = []
up_in (Ok (Some (line, rest))) = Up line ∷ []
up_in (Err fault) = []

abbrev pub down_in : Front → List Line
down_in (Ok None) = []
down_in (Ok (Some (line, rest))) = Down line ∷ []
down_in (Err fault) = []

-- the lines that were read, in their order
abbrev pub lines_read : (old new : Watching) → Reads old new → List Line
lines_read _ _ (none w) = []
lines_read _ _ (client old w before) = lines_read old w before ++ up_in (next_of w.up.rest)
lines_read _ _ (server old w before ended) = lines_read old w before ++ down_in (next_of w.down.rest)

-- those that a relay read in a move
abbrev pub lines_in : (old new : Relaying) (move : Move) → Did old move new → List Line
lines_in old new (FromClient bytes) did = []
lines_in old new (FromServer bytes) did = []
lines_in old new Read did = lines_read old.watching new.watching did.0
lines_in old new MakeDue did = []
lines_in old new Write did = []
lines_in old new (ToServer n) did = []
lines_in old new (ToClient n) did = []

-- those that it read from its beginning on
abbrev pub lines_of : (n : ℕ) (c : Course) (r : Relaying) → Relays n c r → List Line
lines_of n _ _ begun = []
lines_of n _ _ (moved c r new move before did) = lines_of n c r before ++ lines_in r new move did

-- the whole lines of the bytes of both ends, in some order
pub record AreLinesOf (up down : List ℕ) (lines : List Line) : Type 0 where
  pub up_rest : List ℕ
  pub up_fault : Option FramingFault
  pub up_lines : IsStream up (ups lines) up_rest up_fault
  pub down_rest : List ℕ
  pub down_fault : Option FramingFault
  pub down_lines : IsStream down (downs lines) down_rest down_fault

-- ---- the order in which lines come

-- the whole lines of bytes: the one list that `IsStream` allows
pub whole_lines : List ℕ → List (List ℕ)
whole_lines bytes = (some_stream bytes).lines

pub are_whole_lines : (bytes : List ℕ) → (rest : List ℕ) × (fault : Option FramingFault) × IsStream bytes (whole_lines bytes) rest fault
unfolding whole_lines
are_whole_lines bytes = ((some_stream bytes).rest, (some_stream bytes).fault, (some_stream bytes).stream)

-- the lines that more bytes complete
abbrev pub completed : List ℕ → List ℕ → List (List ℕ)
completed came bytes = drop (length (whole_lines came)) (whole_lines (came ++ bytes))

-- those that come to a relay in a move
abbrev pub lines_coming : Course → Move → List Line
lines_coming c (FromClient bytes) = map Up (completed c.came_up bytes)
lines_coming c (FromServer bytes) = map Down (completed c.came_down bytes)
lines_coming c Read = []
lines_coming c MakeDue = []
lines_coming c Write = []
lines_coming c (ToServer n) = []
lines_coming c (ToClient n) = []

-- those that came to it from its beginning on
abbrev pub lines_came : (n : ℕ) (c : Course) (r : Relaying) → Relays n c r → List Line
lines_came n _ _ begun = []
lines_came n _ _ (moved c r new move before did) = lines_came n c r before ++ lines_coming c move
