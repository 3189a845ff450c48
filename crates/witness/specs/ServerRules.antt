-- The rules for a line of the server (this profile), judged by all lines of the client and the lines of the server above it, the nearest first.
use Rattle.std.specs.Prelude.{◌≡◌, ◌<◌, ℕ, ◌+◌, ◌==◌, Bool, true, false, ◌&&◌, ◌||◌, not, nat_lt, nat_le, if◌then◌else◌, List, [], ◌∷◌, length, Option, Some, None, slice_get}
use Rattle.dme_line.specs.declared.tags.Tag.{Tag}
use Rattle.dme_line.specs.declared.tags.Tag.TheVariants.{Std, Event}
use Rattle.dme_line.specs.declared.commands.Kind.{Kind}
use Rattle.dme_line.specs.declared.commands.Kind.TheVariants as kind
use Rattle.witness.specs.JudgedUses.{has_end, use_after, has_refused, stage_of, IsCourse}
use Rattle.witness.specs.declared.course.Course.{Course}
use Rattle.witness.specs.declared.judged_lines.Data.{Data}
use Rattle.witness.specs.declared.judged_lines.Data.TheVariants as data_is
use Rattle.witness.specs.declared.judged_lines.Heard.{Heard}
use Rattle.witness.specs.declared.judged_lines.Heard.TheVariants as heard
use Rattle.witness.specs.declared.judged_lines.Mark.TheVariants as mark
use Rattle.witness.specs.declared.judged_lines.Reply.{Reply}
use Rattle.witness.specs.declared.judged_lines.Reply.TheVariants as reply
use Rattle.witness.specs.declared.judged_lines.Sent.{Sent}
use Rattle.witness.specs.declared.judged_lines.Sent.TheVariants as sent
use Rattle.witness.specs.declared.rules.Asks.{Asks}
use Rattle.witness.specs.declared.rules.Asks.TheVariants as asks
use Rattle.witness.specs.declared.rules.Rule.{Rule}
use Rattle.witness.specs.declared.rules.Rule.TheVariants as rule
use Rattle.witness.specs.declared.judged_lines.Severity.TheVariants as severity
use Rattle.witness.specs.declared.rules.Sought.{Sought}
use Rattle.witness.specs.declared.rules.Sought.TheVariants as sought
use Rattle.witness.specs.declared.rules.Stage.{Stage}
use Rattle.witness.specs.declared.rules.Standing.{Standing}
use Rattle.witness.specs.declared.rules.Stage.TheVariants as stage

-- ---- what a command asks for

abbrev pub kind_asks : Kind → Asks
kind_asks kind.PtMeas = asks.Point
kind_asks kind.IsHomed = asks.Homed
kind_asks _ = asks.Nothing

-- of a line that is not a command of this profile it is not known
abbrev pub asks_of : Sent → Asks
asks_of sent.Untagged = asks.Anything
asks_of (sent.Command t k) = kind_asks k
asks_of (sent.Standard t) = asks.Anything
asks_of (sent.Unknown t) = asks.Anything
asks_of (sent.Unread t k) = asks.Anything

-- nor of a further use of a tag, once the server has refused a line without its tag: it may be the one that was refused
abbrev pub is_doubtful : List Heard → Tag → Bool
is_doubtful above t = has_end t above && has_refused above

abbrev pub asks_under : Bool → Sent → Asks
asks_under doubtful s = if doubtful then asks.Anything else asks_of s

-- ---- the order of commands

-- a command of this profile under a standard tag: such commands are carried out one after another
abbrev pub is_queued : Sent → Bool
is_queued (sent.Command (Std n) k) = true
is_queued _ = false

-- an AbortE, which ends once all commands above it have failed or ended
abbrev pub is_abort : Sent → Bool
is_abort (sent.Command (Event n) kind.AbortE) = true
is_abort _ = false

abbrev pub is_clear : Sent → Bool
is_clear (sent.Command t kind.ClearAllErrors) = true
is_clear _ = false

abbrev pub is_session_end : Sent → Bool
is_session_end (sent.Command t kind.EndSession) = true
is_session_end _ = false

-- a command has neither failed nor ended
abbrev pub is_open : Stage → Bool
is_open stage.Failed = false
is_open stage.Ended = false
is_open _ = true

abbrev pub is_ended : Stage → Bool
is_ended stage.Ended = true
is_ended _ = false

-- a line of the client is one of those that are looked for
abbrev pub is_sought : Sought → Sent → Stage → Bool
is_sought sought.Open line s = is_queued line && is_open s
is_sought sought.Unended line s = is_queued line && not (is_ended s)
is_sought sought.Clearing line s = is_clear line && is_open s

-- the place of the first of these lines that is, where the first of them is at a place; the place after the last, if none is
abbrev pub first_from : (ℕ → Sent → Bool) → ℕ → List Sent → ℕ
first_from p at [] = at
first_from p at (line ∷ lines) = if p at line then at else first_from p (at + 1) lines

abbrev pub is_sought_after : Sought → List Sent → List Heard → ℕ → Sent → Bool
is_sought_after w up above at line = is_sought w line (stage_of up above at)

abbrev pub front : Sought → List Sent → List Heard → ℕ
front w up above = first_from (is_sought_after w up above) 0 up

-- a command is in turn if no earlier one is open. This is not known once the server has refused a line without its tag
abbrev pub is_in_turn : List Sent → List Heard → ℕ → Sent → Bool
is_in_turn up above at line =
    not (is_queued line || is_abort line) || (has_refused above || not (nat_lt (front sought.Open up above) at))

-- ---- the error state

-- an error of severity 3 under a standard tag: from then on nothing is carried out but the command that runs
abbrev pub halts : Heard → Bool
halts (heard.Response (Std n) (reply.Error severity.Three)) = true
halts _ = false

-- such an error bars the command at a place: an earlier command was open, so that this one did not run, and each ClearAllErrors above it had failed
-- or ended
abbrev pub bars : List Sent → List Heard → Heard → ℕ → Bool
bars up above h at = halts h && (nat_lt (front sought.Open up above) at && nat_le at (front sought.Clearing up above))

-- one of these lines does
abbrev pub is_barred : List Sent → List Heard → ℕ → Bool
is_barred up [] at = false
is_barred up (h ∷ above) at = bars up above h at || is_barred up above at

-- ---- the table of marks against stages

abbrev pub in_turn_rule : Bool → Option Rule
in_turn_rule true = None
in_turn_rule false = Some rule.NotInTurn

-- data are those that are asked for
abbrev pub fits : Asks → Data → Bool
fits asks.Point data_is.Point = true
fits asks.Homed data_is.Homed = true
fits _ _ = false

-- data for a command that was received; the last argument: it is in turn
abbrev pub first_data_rule : Asks → Data → Bool → Option Rule
first_data_rule asks.Anything d turn = None
first_data_rule a d turn = if fits a d then in_turn_rule turn else Some rule.OtherData

-- data for a command that has data
abbrev pub second_data_rule : Asks → Data → Option Rule
second_data_rule asks.Anything d = None
second_data_rule a d = if fits a d then Some rule.SecondData else Some rule.OtherData

abbrev pub data_rule : Stage → Asks → Bool → Data → Option Rule
data_rule stage.Received a turn d = first_data_rule a d turn
data_rule stage.Given a turn d = second_data_rule a d
data_rule _ a turn d = Some rule.OutOfOrder

-- data are asked for
abbrev pub asks_data : Asks → Bool
asks_data asks.Point = true
asks_data asks.Homed = true
asks_data _ = false

-- the end of a command that has not failed; the arguments: it is in turn, an error bars it, an earlier command must have ended and has not
abbrev pub end_rule : Bool → Bool → Bool → Option Rule
end_rule false barred left = Some rule.NotInTurn
end_rule true true left = Some rule.NotCleared
end_rule true false true = Some rule.NoEnd
end_rule true false false = None

-- the last argument: the rule that the end of the command breaks
abbrev pub complete_rule : Stage → Asks → Option Rule → Option Rule
complete_rule stage.Received a ending = if asks_data a then Some rule.NoData else ending
complete_rule stage.Given a ending = ending
complete_rule stage.Failed a ending = None
complete_rule _ a ending = Some rule.OutOfOrder

abbrev pub received_rule : Stage → Option Rule
received_rule stage.Sent = None
received_rule _ = Some rule.OutOfOrder

-- a mark for a command: an error may come at any stage
abbrev pub mark_rule : Stage → Asks → Bool → Option Rule → Reply → Option Rule
mark_rule s a turn ending reply.Received = received_rule s
mark_rule s a turn ending (reply.Given d) = data_rule s a turn d
mark_rule s a turn ending reply.Complete = complete_rule s a ending
mark_rule s a turn ending (reply.Error w) = None

-- ---- the rules

-- under E0000 a server says what nobody asked for
abbrev pub unasked_rule : Tag → Option Rule
unasked_rule (Event n) = if n == 0 then None else Some rule.UnknownTag
unasked_rule (Std n) = Some rule.UnknownTag

-- the command at a place cannot be carried out, since an error bars it
abbrev pub is_halted : List Sent → List Heard → ℕ → Sent → Bool
is_halted up above at line = (is_queued line && not (is_clear line)) && (not (has_refused above) && is_barred up above at)

-- it ends a session, in which an earlier command has not ended
abbrev pub leaves_some : List Sent → List Heard → ℕ → Sent → Bool
leaves_some up above at line = is_session_end line && (not (has_refused above) && nat_lt (front sought.Unended up above) at)

abbrev pub ending_rule : List Sent → List Heard → ℕ → Sent → Option Rule
ending_rule up above at line = end_rule (is_in_turn up above at line) (is_halted up above at line) (leaves_some up above at line)

-- a mark for the command at a place
abbrev pub command_rule : List Sent → List Heard → Tag → Reply → ℕ → Sent → Option Rule
command_rule up above t r at line =
    mark_rule (stage_of up above at) (asks_under (is_doubtful above t) line) (is_in_turn up above at line) (ending_rule up above at line) r

abbrev pub line_rule : Option Sent → List Sent → List Heard → Tag → Reply → ℕ → Option Rule
line_rule None up above t r at = None
line_rule (Some line) up above t r at = command_rule up above t r at line

-- the line of the client at a place was not whole when the server's was, if it is known how many were
abbrev pub was_later : Option ℕ → ℕ → Bool
was_later None at = false
was_later (Some count) at = nat_le count at

-- likewise of the line of the server that follows these; the first argument: how many lines of the client were whole when each line of the server was, if
-- their order is known
abbrev pub is_early : List ℕ → List Heard → ℕ → Bool
is_early seen above at = was_later (slice_get seen (length above)) at

-- the first argument: the place of the command that a response answers
abbrev pub place_rule : Option ℕ → List ℕ → List Sent → List Heard → Tag → Reply → Option Rule
place_rule None seen up above t r = unasked_rule t
place_rule (Some at) seen up above t r =
    if is_early seen above at then Some rule.NotSent else line_rule (slice_get up at) up above t r at

-- the first of the rules that a line of the server breaks
abbrev pub server_rule : List ℕ → List Sent → List Heard → Heard → Option Rule
server_rule seen up above heard.Other = Some rule.NotResponse
server_rule seen up above (heard.Response t r) = place_rule (use_after mark.Complete up above t) seen up above t r

-- ---- what is kept of the lines above

-- the place before which errors bar what waits, after a line more; the first argument: it is such an error
abbrev pub reach_after : Bool → ℕ → ℕ → ℕ
reach_after true clearing reach = if nat_le reach clearing then clearing + 1 else reach
reach_after false clearing reach = reach

-- whether an error bars the first command that is open, which was another one or not
abbrev pub first_barred : ℕ → ℕ → ℕ → Bool → Bool
first_barred now before reach barred = if now == before then barred else nat_lt now reach

-- the first places of the lines that are looked for, whether an error bars the first command that is open, and the place before which errors bar all
-- that come after that command
pub record IsStanding (up : List Sent) (above : List Heard) (s : Standing) : Type 0 where
  pub waits : s.waiting ≡ front sought.Open up above
  pub unended : s.unended ≡ front sought.Unended up above
  pub clearing : s.clearing ≡ front sought.Clearing up above
  pub barred : s.barred ≡ is_barred up above s.waiting
  pub after : (at : ℕ) → s.waiting < at → is_barred up above at ≡ nat_lt at s.reach

-- what is kept of the lines above is right
pub record AreKnown (up : List Sent) (above : List Heard) (c : Course) (s : Standing) : Type 0 where
  pub course : IsCourse up above c
  pub standing : IsStanding up above s
