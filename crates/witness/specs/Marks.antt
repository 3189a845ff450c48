-- What a mark does to a command (this profile).
use Rattle.std.specs.Prelude.{Bool, true, false, not, Some, None, Result, Ok, Err}
use Rattle.fixed_um.specs.declared.lengths.Point.{Point}
use Rattle.dme_line.specs.Kinds.{kind_of, is_event_kind}
use Rattle.dme_line.specs.declared.commands.Kind.{Kind}
use Rattle.dme_line.specs.declared.commands.Kind.TheVariants as kind
use Rattle.dme_line.specs.declared.homed.NotHomedText.{NotHomedText}
use Rattle.dme_line.specs.declared.points.NotPoint.{NotPoint}
use Rattle.protocol_model.specs.Open.{asks_data}
use Rattle.protocol_model.specs.declared.held.Datum.TheVariants as datum
use Rattle.witness.specs.Asking.{Signal, Ack, Given, Done, Error}
use Rattle.witness.specs.declared.lines.Heard.{Heard}
use Rattle.witness.specs.declared.lines.Heard.TheVariants as heard
use Rattle.witness.specs.declared.lines.Rule.TheVariants.{OutOfOrder, NoData, SecondData, OtherData}
use Rattle.witness.specs.declared.lines.SentCommand.{SentCommand}
use Rattle.witness.specs.declared.lines.SentCommand.TheVariants.{Known, Asking, Foreign}
use Rattle.witness.specs.declared.lines.Stage.{Stage}
use Rattle.witness.specs.declared.lines.Stage.TheVariants as stage
use Rattle.witness.specs.declared.lines.Step.{Step}
use Rattle.witness.specs.declared.lines.Step.TheVariants.{Stays, Comes, Fails, Breaks, Counts}

-- the data of a touch, and of an IsHomed, by what their text reads as
abbrev pub given_point : Result Point NotPoint → Heard
given_point (Ok p) = heard.Given (datum.Point p)
given_point (Err why) = heard.Unread

abbrev pub given_homed : Result Bool NotHomedText → Heard
given_homed (Ok homed) = heard.Given (datum.Homed homed)
given_homed (Err why) = heard.Unread

-- data for a command of this kind
abbrev pub given_for : Kind → Result Point NotPoint → Result Bool NotHomedText → Heard
given_for kind.PtMeas p homed = given_point p
given_for kind.IsHomed p homed = given_homed homed
given_for _ p homed = heard.Unread

-- data for what was asked
abbrev pub given_to : SentCommand → Result Point NotPoint → Result Bool NotHomedText → Heard
given_to (Known command) p homed = given_for (kind_of command) p homed
given_to Asking p homed = heard.Unread
given_to (Foreign line) p homed = heard.Unread

-- a mark for what was asked
abbrev pub heard_as : SentCommand → Signal → Heard
heard_as command Ack = heard.Received
heard_as command (Given p homed) = given_to command p homed
heard_as command Done = heard.Complete
heard_as command Error = heard.Failed

-- the table of marks against stages; the first argument: data are asked for
abbrev pub step : Bool → Stage → Heard → Step
step asks stage.Lost _ = Stays
step asks stage.Sent heard.Received = Comes stage.Received
step asks stage.Sent heard.Failed = Fails
step asks stage.Sent _ = Breaks OutOfOrder
step asks stage.Received heard.Received = Breaks OutOfOrder
step asks stage.Received (heard.Given d) = Comes (stage.Given d)
step asks stage.Received heard.Unread = Breaks OtherData
step true stage.Received heard.Complete = Breaks NoData
step false stage.Received heard.Complete = Counts None
step asks stage.Received heard.Failed = Fails
step asks (stage.Given e) heard.Received = Breaks OutOfOrder
step asks (stage.Given e) (heard.Given d) = Breaks SecondData
step asks (stage.Given e) heard.Unread = Breaks OtherData
step asks (stage.Given e) heard.Complete = Counts (Some e)
step asks (stage.Given e) heard.Failed = Fails

-- the stage after a step
abbrev pub stage_after : Stage → Step → Stage
stage_after s Stays = s
stage_after s (Comes t) = t
stage_after s Fails = stage.Lost
stage_after s (Breaks rule) = stage.Lost
stage_after s (Counts given) = s

-- of a line that is not a command of this profile it only counts whether a mark was read
abbrev pub marked : Stage → Stage
marked stage.Sent = stage.Received
marked s = s

-- the stage of what was asked after a mark
abbrev pub stage_with : SentCommand → Stage → Heard → Stage
stage_with (Known c) s h = stage_after s (step (asks_data (kind_of c)) s h)
stage_with Asking s h = marked s
stage_with (Foreign line) s h = marked s

-- whether a mark ends a command
abbrev pub is_end : Signal → Bool
is_end Done = true
is_end _ = false

-- whether it is that a command was received
abbrev pub is_received : Heard → Bool
is_received heard.Received = true
is_received _ = false

-- whether it is an error
abbrev pub is_error : Heard → Bool
is_error heard.Failed = true
is_error _ = false

-- whether it gives data, or ends a command
abbrev pub is_answer : Heard → Bool
is_answer heard.Received = false
is_answer (heard.Given d) = true
is_answer heard.Unread = true
is_answer heard.Complete = true
is_answer heard.Failed = false

-- a command that is processed in the order in which commands were sent: any but an AbortE and one that only asks
abbrev pub has_turn : SentCommand → Bool
has_turn (Known c) = not (is_event_kind (kind_of c))
has_turn Asking = false
has_turn (Foreign line) = true

-- a line that this profile does not know
abbrev pub is_foreign : SentCommand → Bool
is_foreign (Foreign line) = true
is_foreign _ = false
