-- What the session of `ledger` or `judge` asks, and what it does with an answer (this profile).
use Rattle.std.specs.Prelude.{◌≡◌, ◌⊎◌, ℕ, suc, Bool, List, [], ◌∷◌, ◌++◌, length, codes, decimal, bytes_eq, if◌then◌else◌, Option, None, Some}
use Rattle.effects.specs.declared.vocabulary.Slot.{Slot}
use Rattle.effects.specs.declared.vocabulary.Slot.TheVariants.{Up, Down, Order}
use Rattle.effects.specs.Effects.{Ask, Open, Read, Print, Say, Exit, Where, Named, Input, Nowhere, Reply, Done, Bytes, End, Missing, Failed, Short, Did}
use Rattle.line_framing.specs.Stream.{IsStream}
use Rattle.line_framing.specs.declared.faults.FramingFault.{FramingFault}
use Rattle.watched_ends.specs.declared.recorded.Order.TheVariants as ordered
use Rattle.watched_ends.specs.declared.recorded.Order as the
use Rattle.watched_ends.specs.Jobs.{IsAnswer}
use Rattle.watched_ends.specs.declared.jobs.Job.{Job}
use Rattle.watched_ends.specs.declared.jobs.Job.TheVariants.{Ledger, Judge}
use Rattle.watched_ends.specs.declared.stages.Stage.{Stage}
use Rattle.watched_ends.specs.declared.stages.Stage.TheVariants.{Opening, Reading, Noting, Printing, Saying, Telling, Exiting}

-- what was asked for, and the names of the files
pub record Called : Type 0 where
  pub job : Job
  pub up : List ℕ
  pub down : List ℕ
  pub order : Option (List ℕ)

-- the file with the order of two recordings is next to them, if their names are those of one connection
abbrev pub IsBeside : List ℕ → List ℕ → Option (List ℕ) → Type 0
IsBeside up down (Some name) = (stem : List ℕ) × (up ≡ stem ++ codes ".up") × (down ≡ stem ++ codes ".down") × (name ≡ stem ++ codes ".order")
IsBeside up down None = (stem : List ℕ) → up ≡ stem ++ codes ".up" → down ≡ stem ++ codes ".down" → ⊥

abbrev pub is_input : List ℕ → Bool
is_input name = bytes_eq name (codes "-")

abbrev pub named : Option (List ℕ) → Where
named (Some name) = Named name
named None = Nowhere

-- where the bytes of each file come from: `-` is standard input, which the second recording finds taken by the first
abbrev pub place_of : Slot → Called → Where
place_of Up c = if is_input c.up then Input else Named c.up
place_of Down c = if is_input c.down then (if is_input c.up then Nowhere else Input) else Named c.down
place_of Order c = named c.order

abbrev pub shown : Option (List ℕ) → List ℕ
shown (Some name) = name
shown None = []

abbrev pub name_of : Slot → Called → List ℕ
name_of Up c = c.up
name_of Down c = c.down
name_of Order c = shown c.order

pub record State : Type 0 where
  pub stage : Stage
  pub slot : Slot  -- the file that is opened or read
  pub called : Called
  pub up : List ℕ  -- what was read of each file
  pub down : List ℕ
  pub order : List ℕ
  pub said : List ℕ  -- what is to be said
  pub text : List ℕ  -- what is to be printed
  pub last : List ℕ  -- likewise, if there is no memory for a text of its own
  pub status : ℕ

abbrev pub start : Called → State
start c = record { stage = Opening; slot = Up; called = c; up = []; down = []; order = []; said = []; text = []; last = []; status = 0 }

-- what is asked at each stage
abbrev pub asked_at : Stage → State → Ask
asked_at Opening s = Open s.slot (place_of s.slot s.called)
asked_at Reading s = Read s.slot
asked_at Noting s = Say s.said
asked_at Printing s = Print s.text
asked_at Saying s = Say s.said
asked_at Telling s = Say s.last
asked_at Exiting s = Exit s.status

abbrev pub asked : State → Ask
asked s = asked_at s.stage s

-- the messages (docs/FILES.md)
abbrev pub cannot_read : List ℕ → List ℕ
cannot_read name = codes "dme: cannot read " ++ (name ++ codes "\n")

abbrev pub cannot_write : List ℕ
cannot_write = codes "dme: cannot write -\n"

abbrev pub out_of_memory : List ℕ
out_of_memory = codes "dme: out of memory\n"

-- a message is to be said, and then it ends with this status
pub record Says (message : List ℕ) (n : ℕ) (t : State) : Type 0 where
  pub stage : t.stage ≡ Saying
  pub said : t.said ≡ message
  pub status : t.status ≡ n

pub record Tells (message : List ℕ) (n : ℕ) (t : State) : Type 0 where
  pub stage : t.stage ≡ Telling
  pub last : t.last ≡ message
  pub status : t.status ≡ n

abbrev pub IsShort : State → Type 0
IsShort t = Tells out_of_memory 4 t

abbrev pub IsOpened : Slot → State → Reply → State → Type 0
IsOpened slot s Done t = t ≡ record s { stage = Reading }
IsOpened slot s Short t = IsShort t
IsOpened Order s Missing t = t ≡ record s { stage = Reading }
IsOpened slot s reply t = Says (cannot_read (name_of slot s.called)) 1 t

abbrev pub with_piece : Slot → State → List ℕ → State
with_piece Up s piece = record s { up = s.up ++ piece }
with_piece Down s piece = record s { down = s.down ++ piece }
with_piece Order s piece = record s { order = s.order ++ piece }

-- what is noted of the bytes of a recording: from which line on they are not read
abbrev pub unread_note : List ℕ → List (List ℕ) → Option FramingFault → List ℕ
unread_note name lines None = []
unread_note name lines (Some fault) = codes "dme: " ++ (name ++ (codes ": line " ++ (decimal (suc (length lines)) ++ codes " cannot be read, and nothing after it is\n")))

-- a judgement says so itself
abbrev pub IsNoteOf : Job → List ℕ → List ℕ → List ℕ → Type 0
IsNoteOf (Ledger connection) name bytes note = (lines : List (List ℕ)) × (rest : List ℕ) × (fault : Option FramingFault)
    × IsStream bytes lines rest fault × (note ≡ unread_note name lines fault)
IsNoteOf Judge name bytes note = note ≡ []

-- what is noted of the order of the two ends
abbrev pub unknown_note : Job → List ℕ
unknown_note (Ledger connection) = codes "dme: without the order of the two recordings, early replies and tags used while in use are not found\n"
unknown_note Judge = codes "dme: without the order of the two recordings, early replies are not found, nor all tags used while in use\n"

abbrev pub order_note : Job → the.Order → List ℕ
order_note job ordered.Whole = []
order_note job ordered.Part = codes "dme: the order ends before the recordings do, and what follows is not read\n"
order_note job ordered.Unknown = unknown_note job
order_note job ordered.NotTheirs = codes "dme: the order is not that of these recordings\n"

-- what is noted of two recordings
pub record AreNotes (c : Called) (up down : List ℕ) (order : the.Order) (notes : List ℕ) : Type 0 where
  pub up_note : List ℕ
  pub down_note : List ℕ
  pub up_is : IsNoteOf c.job c.up up up_note
  pub down_is : IsNoteOf c.job c.down down down_note
  pub notes_are : notes ≡ up_note ++ (down_note ++ order_note c.job order)

-- notes are to be said, and then a text to be printed, before it ends with this status
pub record Notes (notes told : List ℕ) (n : ℕ) (t : State) : Type 0 where
  pub stage : t.stage ≡ Noting
  pub said : t.said ≡ notes
  pub text : t.text ≡ told
  pub status : t.status ≡ n

abbrev pub IsDue : the.Order → Called → List ℕ → List ℕ → ℕ → State → Type 0
IsDue ordered.NotTheirs c notes text n t = Says (notes ++ cannot_read (name_of Order c)) 1 t
IsDue ordered.Whole c notes text n t = Notes notes text n t
IsDue ordered.Part c notes text n t = Notes notes text n t
IsDue ordered.Unknown c notes text n t = Notes notes text n t

-- all was read: what is due follows from it
pub record IsFinished (s t : State) : Type 0 where
  pub known : the.Order
  pub notes : List ℕ
  pub text : List ℕ
  pub status : ℕ
  pub answer : IsAnswer s.called.job s.up s.down s.order text known status
  pub notes_are : AreNotes s.called s.up s.down known notes
  pub due : IsDue known s.called notes text status t

abbrev pub IsEnded : Slot → State → State → Type 0
IsEnded Up s t = t ≡ record s { stage = Opening; slot = Down }
IsEnded Down s t = t ≡ record s { stage = Opening; slot = Order }
IsEnded Order s t = IsFinished s t

abbrev pub IsReadOn : Slot → State → Reply → State → Type 0
IsReadOn slot s (Bytes piece) t = t ≡ with_piece slot s piece
IsReadOn slot s End t = IsEnded slot s t
IsReadOn slot s Short t = IsShort t
IsReadOn slot s reply t = Says (cannot_read (name_of slot s.called)) 1 t

abbrev pub IsPrinted : State → Reply → State → Type 0
IsPrinted s Done t = t ≡ record s { stage = Exiting }
IsPrinted s Short t = IsShort t
IsPrinted s reply t = Tells cannot_write 1 t

-- the session after an answer
abbrev pub After : Stage → State → Reply → State → Type 0
After Opening s reply t = IsOpened s.slot s reply t
After Reading s reply t = IsReadOn s.slot s reply t
After Noting s reply t = t ≡ record s { stage = Printing }
After Printing s reply t = IsPrinted s reply t
After Saying s reply t = t ≡ record s { stage = Exiting }
After Telling s reply t = t ≡ record s { stage = Exiting }
After Exiting s reply t = t ≡ s

-- an answer has its effect, or memory ran out for it, as if that had been the answer
abbrev pub Steps : State → Reply → State → Type 0
Steps s reply t = After s.stage s reply t ⊎ After s.stage s Short t

-- what was asked and answered, the last first, has led to a session
pub data Led (c : Called) : List Did → State → Type 0 where
  begun : Led c [] (start c)
  more : (past : List Did) (s t : State) (reply : Reply) → Led c past s → Steps s reply t → Led c ((asked s, reply) ∷ past) t

-- to one that exits
abbrev pub IsExit : Called → List Did → ℕ → Type 0
IsExit c past status = (s : State) × Led c past s × (asked s ≡ Exit status)
