-- The open commands of a client, and what each mark does to them (this profile).
use Rattle.std.specs.Prelude.{ℕ, suc, Bool, true, false, ◌&&◌, ◌||◌, not, if◌then◌else◌, Option, Some, None, List, [], ◌∷◌, Result, Ok, Err}
use Rattle.dme_line.specs.declared.tags.Tag.{Tag}
use Rattle.dme_line.specs.declared.commands.Kind.{Kind}
use Rattle.dme_line.specs.declared.commands.Kind.TheVariants as kind
use Rattle.protocol_model.specs.Replies.{Mark, tag_is}
use Rattle.protocol_model.specs.declared.held.Datum.{Datum}
use Rattle.protocol_model.specs.declared.held.Datum.TheVariants as datum
use Rattle.protocol_model.specs.declared.held.Stage.{Stage}
use Rattle.protocol_model.specs.declared.states.Cause.{Cause}
use Rattle.protocol_model.specs.declared.states.Cause.TheVariants.{UnknownTag, OutOfOrder, NoData, SecondData}
use Rattle.protocol_model.specs.declared.held.OpenCommand.{OpenCommand}

-- an error was read
abbrev pub is_failed : Stage → Bool
is_failed Stage.Sent = false
is_failed Stage.Received = false
is_failed (Stage.Given d) = false
is_failed Stage.Failed = true

-- a touch asks for a point, and IsHomed whether the machine is homed; no other command asks for data
abbrev pub asks_data : Kind → Bool
asks_data kind.StartSession = false
asks_data kind.EndSession = false
asks_data kind.ClearAllErrors = false
asks_data kind.IsHomed = true
asks_data kind.Home = false
asks_data kind.OnPtMeasReport = false
asks_data kind.GoTo = false
asks_data kind.PtMeas = true
asks_data kind.ChangeTool = false
asks_data kind.SetCsyTransformation = false
asks_data kind.SetCoordSystem = false
asks_data kind.AbortE = false

-- data are those that a command of this kind asks for
abbrev pub fits : Kind → Datum → Bool
fits kind.PtMeas (datum.Point p) = true
fits kind.IsHomed (datum.Homed homed) = true
fits _ _ = false

-- what a mark does to a command: another stage, a failure, its end, its end as a counted one with its data, or nothing that may be
pub data Verdict : Type 0 where
  Becomes : Stage → Verdict
  Breaks : Verdict
  Closes : Verdict
  Counts : Option Datum → Verdict
  Refused : Cause → Verdict

-- received: once, and before all else
abbrev pub judged_ack : Stage → Verdict
judged_ack Stage.Sent = Becomes Stage.Received
judged_ack Stage.Received = Refused OutOfOrder
judged_ack (Stage.Given d) = Refused OutOfOrder
judged_ack Stage.Failed = Refused OutOfOrder

-- the first argument: at the front, and these are data that the command asks for
abbrev pub judged_given : Bool → Stage → Datum → Verdict
judged_given true Stage.Sent d = Refused OutOfOrder
judged_given true Stage.Received d = Becomes (Stage.Given d)
judged_given true (Stage.Given e) d = Refused SecondData
judged_given true Stage.Failed d = Refused OutOfOrder
judged_given false stage d = Refused OutOfOrder

-- an error: the first fails the command, a further one changes nothing
abbrev pub judged_error : Stage → Verdict
judged_error Stage.Sent = Breaks
judged_error Stage.Received = Breaks
judged_error (Stage.Given d) = Breaks
judged_error Stage.Failed = Becomes Stage.Failed

-- the first argument: at the front; the second: data is asked for
abbrev pub judged_done : Bool → Bool → Stage → Verdict
judged_done front asks Stage.Failed = Closes
judged_done true asks Stage.Sent = Refused OutOfOrder
judged_done true true Stage.Received = Refused NoData
judged_done true false Stage.Received = Counts None
judged_done true asks (Stage.Given d) = Counts (Some d)
judged_done false asks Stage.Sent = Refused OutOfOrder
judged_done false asks Stage.Received = Refused OutOfOrder
judged_done false asks (Stage.Given d) = Refused OutOfOrder

-- the table of marks against stages
abbrev pub judged : Bool → Kind → Stage → Mark → Verdict
judged front kind stage Mark.Ack = judged_ack stage
judged front kind stage (Mark.Given d) = judged_given (front && fits kind d) stage d
judged front kind stage Mark.Error = judged_error stage
judged front kind stage Mark.Done = judged_done front (asks_data kind) stage

-- what else a reply has changed than the open commands: nothing, a command failed, or one of this kind was counted, with its data
pub data Effect : Type 0 where
  Quiet : Effect
  Failure : Effect
  Count : Kind → Option Datum → Effect

-- the open commands after a reply, with its effect
abbrev pub Heard : Type 0
Heard = Result (List OpenCommand × Effect) Cause

-- the open commands after the command at their front was judged: it stays at another stage, or is gone
abbrev pub settled : OpenCommand → List OpenCommand → Verdict → Heard
settled h hs (Becomes stage) = Ok (record h { stage = stage } ∷ hs, Quiet)
settled h hs Breaks = Ok (record h { stage = Stage.Failed } ∷ hs, Failure)
settled h hs Closes = Ok (hs, Quiet)
settled h hs (Counts given) = Ok (hs, Count h.kind given)
settled h hs (Refused cause) = Err cause

-- an earlier command stays as it is
abbrev pub put_before : OpenCommand → Heard → Heard
put_before h (Ok (hs, effect)) = Ok (h ∷ hs, effect)
put_before h (Err cause) = Err cause

-- a mark goes to the first command of its tag; a command is at the front where the first argument holds and each earlier one has failed
abbrev pub heard_in : Bool → List OpenCommand → Tag → Mark → Heard
heard_in front [] t m = Err UnknownTag
heard_in front (h ∷ hs) t m =
    if tag_is h.tag t
    then settled h hs (judged front h.kind h.stage m)
    else put_before h (heard_in (front && is_failed h.stage) hs t m)

-- how many commands have neither failed nor ended
abbrev pub count_open : List OpenCommand → ℕ
count_open [] = 0
count_open (h ∷ hs) = if is_failed h.stage then count_open hs else suc (count_open hs)

-- the command that asks whether the machine is homed
abbrev pub asks_homed : Kind → Bool
asks_homed kind.IsHomed = true
asks_homed _ = false

-- an IsHomed has neither failed nor ended
abbrev pub is_asking : List OpenCommand → Bool
is_asking [] = false
is_asking (h ∷ hs) = (asks_homed h.kind && not (is_failed h.stage)) || is_asking hs

-- a command is open under this tag
abbrev pub is_held : Tag → List OpenCommand → Bool
is_held t [] = false
is_held t (h ∷ hs) = if tag_is h.tag t then true else is_held t hs
