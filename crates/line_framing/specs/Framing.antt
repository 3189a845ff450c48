-- What callers see of a framing buffer, and what its calls do to it.
use Rattle.std.specs.Prelude.{◌≡◌, ℕ, List, [], ◌++◌, Option, Some, None, Ok, Err, IsOkAnd, IsSome}
use Rattle.line_framing.specs.Next.{Front, next_of}
use Rattle.line_framing.specs.declared.faults.FramingFault.{FramingFault}
use Rattle.line_framing.specs.declared.faults.LinesFault.{LinesFault}
use Rattle.line_framing.specs.declared.faults.LinesFault.TheVariants as lines_fault

-- the bytes that were fed and not handed out, and the fault that was met in them
pub record Framing : Type 0 where
  pub rest : List ℕ
  pub fault : Option FramingFault

-- a buffer that holds nothing, as a new one
abbrev pub no_bytes : Framing
no_bytes = record { rest = []; fault = None }

-- a fault that is kept is what is at the start of the rest
pub record IsSound (f : Framing) : Type 0 where
  pub kept : (fault : FramingFault) → f.fault ≡ Some fault → next_of f.rest ≡ Err fault

-- a rest and a fault after a piece was fed: after a fault nothing is taken any more (this profile)
abbrev pub fed_behind : Option FramingFault → List ℕ → List ℕ → Framing
fed_behind None rest piece = record { rest = rest ++ piece; fault = None }
fed_behind (Some fault) rest piece = record { rest = rest; fault = Some fault }

-- the buffer after a piece was fed
abbrev pub fed : Framing → List ℕ → Framing
fed f piece = fed_behind f.fault f.rest piece

-- the buffer that a front leaves: the line and its end are gone, or the fault is kept (this profile)
abbrev pub left_by : Front → Framing → Framing
left_by (Ok None) f = f
left_by (Ok (Some (line, rest))) f = record f { rest = rest }
left_by (Err fault) f = record f { fault = Some fault }

-- the buffer after a line was asked for
abbrev pub after_next : Framing → Framing
after_next f = left_by (next_of f.rest) f

-- a whole line is at the front
abbrev pub IsLineDue : Front → Type 0
IsLineDue front = IsOkAnd front IsSome

-- why a piece is not taken: a fault was met before, or there is no memory for the piece
abbrev pub IsFeedRefused : Framing → LinesFault → Type 0
IsFeedRefused f (lines_fault.Framing fault) = f.fault ≡ Some fault
IsFeedRefused f lines_fault.Memory = f.fault ≡ None

-- why no line is handed out of a front: it is a fault, or there is no memory for a whole line
abbrev pub IsLineRefused : Front → LinesFault → Type 0
IsLineRefused front (lines_fault.Framing fault) = front ≡ Err fault
IsLineRefused front lines_fault.Memory = IsLineDue front

-- the buffer after a line that was not handed out: a fault is kept, and running out of memory changes nothing
abbrev pub IsRefusedLeft : Framing → Framing → LinesFault → Type 0
IsRefusedLeft old new (lines_fault.Framing fault) = new ≡ after_next old
IsRefusedLeft old new lines_fault.Memory = new ≡ old
