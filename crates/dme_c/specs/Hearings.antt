-- What a caller knows of the errors that a server reports while both sides of a connection go by, and what each of its calls does (this profile).
use Rattle.std.specs.Prelude.{◌≡◌, ◌≤◌, ◌<◌, ◌++◌, ℕ, Bool, false, true, List, [], length, take, drop, Option, Some, None, MatchOption, Result, OnOk, IfErr, slice_get}
use Rattle.dme_line.specs.declared.commands.Kind.{Kind}
use Rattle.dme_line.specs.declared.commands.Kind.TheVariants as kind
use Rattle.session_telling.specs.Dialogues.{Dialogue, Hears, Reported, Sends}
use Rattle.session_telling.specs.declared.sessions.Sent.{Sent}
use Rattle.client_core.specs.declared.faults.ClientFault.{ClientFault}
use Rattle.client_core.specs.declared.faults.ClientFault.TheVariants as fault
use Rattle.dme_c.specs.Next.{kind_number}
use Rattle.dme_c.specs.declared.hearings.Heard.{Heard}

-- whether a connection is followed, what went by on it, and the errors that were not taken yet
pub record HearingValue : Type 0 where
  pub follows : Bool
  pub dialogue : Dialogue
  pub waiting : List Reported

-- a connection on which nothing went by
abbrev pub silence : Dialogue
silence = record { sent = []; sending = []; hearing = [] }

-- a new connection is followed; the errors that wait still wait
abbrev pub joined : HearingValue → HearingValue
joined h = record { follows = true; dialogue = silence; waiting = h.waiting }

-- bytes of the client went by
pub record PassesSent (bytes : List ℕ) (old new : HearingValue) : Type 0 where
  pub dialogue : Sends bytes old.dialogue new.dialogue
  pub follows : new.follows ≡ true
  pub waiting : new.waiting ≡ old.waiting

-- bytes of the server went by: the errors that they report wait after the others, each once, in order
pub record PassesCame (bytes : List ℕ) (old new : HearingValue) : Type 0 where
  pub reports : List Reported
  pub dialogue : Hears bytes old.dialogue new.dialogue reports
  pub follows : new.follows ≡ true
  pub waiting : new.waiting ≡ old.waiting ++ reports

-- nothing changes if no connection is followed; out of memory, the connection is followed no more, and the errors that wait still wait
abbrev pub IsLost : HearingValue → HearingValue → ClientFault → Type 0
IsLost old new fault.NotNow = (old.follows ≡ false) × (new ≡ old)
IsLost old new fault.Memory = (old.follows ≡ true) × (new.follows ≡ false) × (new.waiting ≡ old.waiting)
IsLost old new (fault.Faulted cause) = ⊥

-- a call by which bytes go by
pub record Passes (Did : HearingValue → HearingValue → Type 0) (old new : HearingValue) (answer : Result (Unit {0}) ClientFault) : Type 0 where
  pub ok : OnOk answer (Did old new)
  pub can : OnOk answer (old.follows ≡ true)
  pub refused : IfErr answer (IsLost old new)

-- the number of the kind of the command that an error is about, 0 if none is known
abbrev pub kind_about : Option Sent → ℕ
kind_about None = 0
kind_about (Some sent) = kind_number sent.kind

-- how many touches were sent on the connection up to the one that an error is about, 0 if it is about none
abbrev pub touch_in : Kind → ℕ → ℕ
touch_in kind.PtMeas touches = touches
touch_in _ touches = 0

abbrev pub touch_about : Option Sent → ℕ
touch_about None = 0
touch_about (Some sent) = touch_in sent.kind sent.touches

-- no error waits: nothing changes
pub record TakesNone (room_old room_new : List ℕ) (old new : HearingValue) (heard : Heard) : Type 0 where
  pub number_is : heard.number ≡ 1
  pub zeros : (heard.command ≡ 0) × (heard.touch ≡ 0) × (heard.length ≡ 0)
  pub same_room : room_new ≡ room_old
  pub same : new ≡ old

-- this error is the first that waits: if its text fits, it is copied to the start of the room, and the error waits no more; otherwise nothing
-- changes
pub record TakesFirst (room_old room_new : List ℕ) (old new : HearingValue) (heard : Heard) (first : Reported) : Type 0 where
  pub number_is : heard.number ≡ 0
  pub command_is : heard.command ≡ kind_about first.about
  pub touch_is : heard.touch ≡ touch_about first.about
  pub count_is : heard.length ≡ length first.text
  pub front : heard.length ≤ length room_old → take heard.length room_new ≡ first.text
  pub beside : heard.length ≤ length room_old → drop heard.length room_new ≡ drop heard.length room_old
  pub taken : heard.length ≤ length room_old → new ≡ record old { waiting = drop 1 old.waiting }
  pub long : length room_old < heard.length → (room_new ≡ room_old) × (new ≡ old)

abbrev pub TakesError : List ℕ → List ℕ → HearingValue → HearingValue → Heard → Type 0
TakesError room_old room_new old new heard =
    MatchOption (slice_get old.waiting 0) (TakesNone room_old room_new old new heard) (TakesFirst room_old room_new old new heard)
