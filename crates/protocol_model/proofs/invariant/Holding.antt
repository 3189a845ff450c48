-- What always holds of a client and a server: the facts that every event keeps.
-- The idea: let the client read, in thought, all that is on its way. The table that this leaves fits the server as it is now, command by
-- command.
use Rattle.protocol_model.proofs.Names.{[], ◌++◌, ◌<◌, ◌∷◌, ◌≡◌, ◌≤◌, ◌⊎◌, acts_on, AreUpTo, asks_homed, Bool, Command, contacts, count_open, false}
use Rattle.protocol_model.proofs.Names.{is_abort, is_clearing, is_event_tag, Kind, kind_of, Line, List, None, Ok, OpenCommand, Option, Planned, Reply}
use Rattle.protocol_model.proofs.Names.{Server, Some, Stage, State, suc, Table, Tag, Tally, true, Waiting, Wanted, ℕ}
use Rattle.dme_line.specs.declared.tags.Tag.TheVariants.{Event}
use Rattle.protocol_model.proofs.plan.Blocks.{IsPlain}
use Rattle.protocol_model.specs.Typed.{World}
use Rattle.protocol_model.proofs.table.Walks.{AreDistinct}
use Rattle.protocol_model.proofs.table.Counts.{failed_tags}
use Rattle.protocol_model.proofs.table.Replying.{Reads, IsFront}
use Rattle.protocol_model.proofs.plan.Fitting.{Know, unknown, Fits, IsSane}
use Rattle.protocol_model.proofs.plan.Marks.{marks_of, touches_in, HasNoAbort}
use Rattle.protocol_model.proofs.invariant.Served.{Served, IsProgress}

-- ---- lines as open commands and as what waits

-- the line that runs, if one does, as a list
abbrev pub listed : Option Line → List Line
listed None = []
listed (Some line) = line ∷ []

-- a line as an open command that was received
abbrev pub received : Line → OpenCommand
received l = record { tag = l.tag; kind = kind_of l.command; stage = Stage.Received }

-- a line as an open command that was just sent
abbrev pub sent_now : Line → OpenCommand
sent_now l = record { tag = l.tag; kind = kind_of l.command; stage = Stage.Sent }

-- lines as open commands that were received, in order
abbrev pub all_received : List Line → List OpenCommand
all_received [] = []
all_received (l ∷ ls) = received l ∷ all_received ls

-- lines as open commands that were just sent, in order
abbrev pub all_sent : List Line → List OpenCommand
all_sent [] = []
all_sent (l ∷ ls) = sent_now l ∷ all_sent ls

-- a line as what waits: its tag, and its command read without a fault
abbrev pub waits : Line → Waiting
waits l = record { tag = l.tag; reading = Ok l.command }

-- lines as what waits, in order
abbrev pub all_wait : List Line → List Waiting
all_wait [] = []
all_wait (l ∷ ls) = waits l ∷ all_wait ls

-- aborts under the event tags after these numbers
abbrev pub abort_tag : ℕ → Tag
abort_tag k = Event (suc k)

-- the line of an abort under the event tag after this number
abbrev pub abort_line : ℕ → Line
abort_line k = record { tag = abort_tag k; command = Command.AbortE }

-- the lines of aborts under the event tags after these numbers
abbrev pub abort_lines : List ℕ → List Line
abort_lines [] = []
abort_lines (k ∷ ks) = abort_line k ∷ abort_lines ks

-- such an abort as an open command that was just sent
abbrev pub abort_held : ℕ → OpenCommand
abort_held k = record { tag = abort_tag k; kind = Kind.AbortE; stage = Stage.Sent }

-- such aborts as open commands that were just sent, in order
abbrev pub abort_helds : List ℕ → List OpenCommand
abort_helds [] = []
abort_helds (k ∷ ks) = abort_held k ∷ abort_helds ks

-- the commands of the steps of a plan, in order
abbrev pub commands_of : List Planned → List Command
commands_of [] = []
commands_of (p ∷ ps) = p.command ∷ commands_of ps

-- the commands of lines, in order
abbrev pub commands_in : List Line → List Command
commands_in [] = []
commands_in (l ∷ ls) = l.command ∷ commands_in ls

-- lines are standard ones: none has an event tag, and none is an abort
abbrev pub AreStandard : List Line → Type 0
AreStandard [] = Unit {0}
AreStandard (l ∷ ls) = (is_event_tag l.tag ≡ false) × (is_abort (Ok l.command) ≡ false) × AreStandard ls

-- none of these is ClearAllErrors
abbrev pub AreNoClears : List Line → Type 0
AreNoClears [] = Unit {0}
AreNoClears (l ∷ ls) = (is_clearing l.command ≡ false) × AreNoClears ls

-- only the first line may be a ClearAllErrors; if it is, nothing has failed
abbrev pub IsClearFirst : Bool → List Line → Type 0
IsClearFirst failed [] = Unit {0}
IsClearFirst failed (l ∷ ls) = (is_clearing l.command ≡ true → failed ≡ false) × AreNoClears ls

-- if a line asks whether the machine is homed, none follows it
abbrev pub IsAskedLast : List Line → Type 0
IsAskedLast [] = Unit {0}
IsAskedLast (l ∷ ls) = (asks_homed (kind_of l.command) ≡ true → ls ≡ []) × IsAskedLast ls

-- what a connection knows of its server
abbrev pub know_of : Server → Know
know_of s = record { tool = s.tool; frame = Some s.frame; stored = Some s.stored }

-- ---- if nothing has failed, what is not done is what is planned

-- to do are the commands of these lines, then what is unsent; its touches are those left, and if there is no error it fits
pub record IsClean (tally : Tally) (left : List Wanted) (lines : List Line) (error : Bool) (know : Know) : Type 0 where
  pub steps : List Planned
  pub todo : tally.todo ≡ steps ++ tally.unsent
  pub commands : commands_of steps ≡ commands_in lines
  pub sane : IsSane tally.todo
  pub touches : touches_in tally.todo ≡ marks_of left
  pub fits : error ≡ false → Fits know tally.todo

-- the table that is left when all is read, and a server that this connection meets: what runs, what waits, whether it is in the error
-- state, and what is known of it;
-- with the lines that wait, those that the server has not read, and the aborts after them
pub record IsNearBy (table : Table) (left : List Wanted) (up : List Line) (running : Option Line)
    (waiting : List Waiting) (error : Bool) (know : Know) (queued coming : List Line) (aborts : List ℕ) : Type 0 where
  pub waiting_is : waiting ≡ all_wait queued
  pub up_is : up ≡ coming ++ abort_lines aborts
  pub standard_is : table.standard ≡ all_received (listed running ++ queued) ++ all_sent coming
  pub event_is : table.event ≡ abort_helds aborts
  pub standard : AreStandard (listed running ++ (queued ++ coming))
  pub idle : error ≡ true → (running ≡ None) × (queued ≡ [])
  pub stopped : table.tally.failed ≡ true → error ≡ true
  pub clear_first : IsClearFirst table.tally.failed (listed running ++ (queued ++ coming))
  pub asked_last : IsAskedLast (listed running ++ (queued ++ coming))
  pub clean : table.tally.failed ≡ false → IsClean table.tally left (listed running ++ (queued ++ coming)) error know

-- this holds for some lines that wait, some that the server has not read, and some aborts after them
pub record IsNear (table : Table) (left : List Wanted) (up : List Line) (running : Option Line)
    (waiting : List Waiting) (error : Bool) (know : Know) : Type 0 where
  pub queued : List Line
  pub coming : List Line
  pub aborts : List ℕ
  pub by : IsNearBy table left up running waiting error know queued coming aborts

-- ---- the client's own facts

-- an abort is under way in Aborting alone
pub record IsAborting (abort : Option Tag) (event : List OpenCommand) : Type 0 where
  pub tag : Tag
  pub held : OpenCommand
  pub abort_is : abort ≡ Some tag
  pub event_is : event ≡ held ∷ []
  pub same : held.tag ≡ tag
  pub sort : is_event_tag tag ≡ true

-- which event commands are open in a state: the abort in Aborting, none in the others, and Faulted is ruled out
abbrev pub HasEvents : State → Option Tag → List OpenCommand → Type 0
HasEvents State.Apart abort event = event ≡ []
HasEvents State.Running abort event = event ≡ []
HasEvents State.Failing abort event = event ≡ []
HasEvents State.Aborting abort event = IsAborting abort event
HasEvents State.Halted abort event = event ≡ []
HasEvents State.Done abort event = event ≡ []
HasEvents State.Faulted abort event = ⊥

-- in Running nothing has failed, and in Halted nothing is open
abbrev pub HasState : State → Table → Type 0
HasState State.Apart b = Unit {0}
HasState State.Running b = b.tally.failed ≡ false
HasState State.Failing b = Unit {0}
HasState State.Aborting b = Unit {0}
HasState State.Halted b = count_open b.standard ≡ 0
HasState State.Done b = Unit {0}
HasState State.Faulted b = ⊥

-- an error of a standard command is followed at once by its end; the first argument: the command whose error was the last to be read
abbrev pub IsTidy : Option Tag → List Reply → Type 0
IsTidy None [] = Unit {0}
IsTidy (Some t) [] = ⊥
IsTidy (Some t) (Reply.Done u ∷ rs) = (t ≡ u) × (is_event_tag t ≡ false) × IsTidy None rs
IsTidy (Some t) (Reply.Ack u ∷ rs) = ⊥
IsTidy (Some t) (Reply.Given u p ∷ rs) = ⊥
IsTidy (Some t) (Reply.Error u code name ∷ rs) = ⊥
IsTidy None (Reply.Done u ∷ rs) = IsTidy None rs
IsTidy None (Reply.Ack u ∷ rs) = IsTidy None rs
IsTidy None (Reply.Given u p ∷ rs) = IsTidy None rs
IsTidy None (Reply.Error u code name ∷ rs) = (is_event_tag u ≡ false) × IsTidy (Some u) rs

-- the tag, if there is one, as a list
abbrev pub tags_of : Option Tag → List Tag
tags_of None = []
tags_of (Some t) = t ∷ []

-- ---- a client on its connection

-- the server is on it, has not yet come to it, or has left it for good
pub record IsHere (w : World) (table : Table) (left : List Wanted) : Type 0 where
  pub on : w.server.on ≡ true
  pub same : w.server.last ≡ w.client.last
  pub near : IsNear table left w.up w.server.running w.server.waiting w.server.error (know_of w.server)

-- the server has come to earlier connections alone: here nothing runs or waits, there is no error, and nothing is known of it
pub record IsAhead (w : World) (table : Table) (left : List Wanted) : Type 0 where
  pub below : w.server.last < w.client.last
  pub near : IsNear table left w.up None [] false unknown

-- the server came to the last connection of the client, and is on none now
pub record IsGone (w : World) : Type 0 where
  pub off : w.server.on ≡ false
  pub same : w.server.last ≡ w.client.last

-- a client on its connection: the table that is left when all is read, what is left of the features, and where the server is
pub record IsLive (w : World) : Type 0 where
  pub on : w.client.on ≡ true
  pub table : Table
  pub left : List Wanted
  pub reads : Reads w.client.program.features w.client.table w.down table
  pub counted : table.tally.counted ≡ acts_on w.client.last w.server.ledger
  pub progress : IsProgress w.client.program.features w.client.last table.tally.features table.tally.points (contacts w.server.ledger) left
  pub pending : Option Tag
  pub pending_is : failed_tags w.client.table.standard ≡ tags_of pending
  pub tidy : IsTidy pending w.down
  pub distinct : AreDistinct w.client.table.standard
  pub within : count_open w.client.table.standard ≤ w.client.window
  pub state : HasState w.client.state w.client.table
  pub events : HasEvents w.client.state w.client.abort w.client.table.event
  pub plain : HasNoAbort w.client.table.tally.unsent
  pub place : IsHere w table left ⊎ (IsAhead w table left ⊎ IsGone w)

-- ---- a client on no connection

-- the states of a client on no connection: Apart and Done
abbrev pub IsAtRest : State → Type 0
IsAtRest State.Apart = Unit {0}
IsAtRest State.Running = ⊥
IsAtRest State.Failing = ⊥
IsAtRest State.Aborting = ⊥
IsAtRest State.Halted = ⊥
IsAtRest State.Done = Unit {0}
IsAtRest State.Faulted = ⊥

-- a client on no connection: its features are served, and the acts it counted are the prefix of those that were done
pub record IsOff (w : World) : Type 0 where
  pub off : w.client.on ≡ false
  pub rest : IsAtRest w.client.state
  pub served : Served w.client.program.features w.client.table.tally.features (contacts w.server.ledger)
  pub told : IsFront w.client.table.tally.counted (acts_on w.client.last w.server.ledger)

-- ---- all

-- a server on which nothing runs and nothing waits, and which is not in the error state
pub record IsIdle (s : Server) : Type 0 where
  pub running : s.running ≡ None
  pub waiting : s.waiting ≡ []
  pub error : s.error ≡ false

-- a plain program, a window of at most 16, no act on a connection to come, a server idle when off, and a client that is off or live
pub record Inv (w : World) : Type 0 where
  pub program : IsPlain w.client.program
  pub window : w.client.window ≤ 16
  pub numbers : w.server.last ≤ w.client.last
  pub ledger : AreUpTo w.server.last w.server.ledger
  pub idle : w.server.on ≡ false → IsIdle w.server
  pub side : IsOff w ⊎ IsLive w
