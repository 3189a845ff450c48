-- Lists of calls of a server from a new one, and the act that a call completes (this profile).
use Rattle.std.specs.Prelude.{◌≡◌, ℕ, nat_le, Bool, true, false, ◌&&◌, ◌||◌, not, if◌then◌else◌, Option, Some, None, is_none, List, [], ◌∷◌, ◌++◌}
use Rattle.std.specs.Prelude.{length}
use Rattle.fixed_um.specs.Points.{point_sum, point_difference}
use Rattle.fixed_um.specs.declared.lengths.Point.{Point}
use Rattle.dme_line.specs.declared.tags.Tag.{Tag}
use Rattle.dme_line.specs.declared.commands.Command.{Command}
use Rattle.dme_line.specs.declared.commands.Command.TheVariants as command
use Rattle.contact_ledger.specs.declared.acts.Act.{Act}
use Rattle.contact_ledger.specs.declared.acts.Act.TheVariants as act
use Rattle.protocol_model.specs.Replies.{Reply}
use Rattle.protocol_model.specs.Lines.{reply_bytes}
use Rattle.protocol_model.specs.Claims.{MadeContact}
use Rattle.protocol_model.specs.Server.{Server, offset, in_volume, frame_of, may_end, refusal}
use Rattle.protocol_model.specs.Ends.{ServerEnd, new_server_end, serving_accepted, serving_fed, serving_read, serving_turned}
use Rattle.protocol_model.specs.Ends.{serving_machined, serving_left, serving_restarted, serving_taken}
use Rattle.protocol_model.specs.declared.held.Datum.TheVariants as datum
use Rattle.protocol_model.specs.declared.lines.Line.{Line}
use Rattle.protocol_model.specs.declared.lines.Waiting.{Waiting}
use Rattle.protocol_model.specs.declared.machine.Outcome.{Outcome}
use Rattle.protocol_model.specs.declared.machine.Outcome.TheVariants as outcome
use Rattle.server_core.specs.Serving.{may_accept, may_feed, may_turn, ok_of, first_command, first_refusal}
use Rattle.server_core.specs.Acting.{IsCommanded}

-- ---- lists of calls

-- a call that may change a server, with what it is given: a connection's number, a piece of bytes, how what runs ended, how many bytes were
-- sent
pub data Call : Type 0 where
  Accept : ℕ → Call
  Feed : List ℕ → Call
  ReadOne : Call
  Turn : Call
  Machine : Outcome → Call
  Leave : Call
  Restart : Call
  Sent : ℕ → Call

-- whether a call is possible now; reading may also meet a framing fault, which is kept
abbrev pub possible : Call → ServerEnd → Bool
possible (Accept n) e = may_accept n e.server
possible (Feed bytes) e = may_feed e
possible ReadOne e = e.server.on
possible Turn e = may_turn e.server
possible (Machine ended) e = may_end e.server.running ended
possible Leave e = true
possible Restart e = true
possible (Sent count) e = nat_le count (length e.out)

-- what a call does
abbrev pub done_by : Call → ServerEnd → ServerEnd
done_by (Accept n) e = serving_accepted n e
done_by (Feed bytes) e = serving_fed bytes e
done_by ReadOne e = serving_read e
done_by Turn e = serving_turned e
done_by (Machine ended) e = serving_machined ended e
done_by Leave e = serving_left e
done_by Restart e = serving_restarted e
done_by (Sent count) e = serving_taken count e

-- a call that is not possible changes nothing
abbrev pub behind_call : Call → ServerEnd → ServerEnd
behind_call call e = if possible call e then done_by call e else e

-- calls, one after another
abbrev pub behind_calls : List Call → ServerEnd → ServerEnd
behind_calls [] e = e
behind_calls (call ∷ calls) e = behind_calls calls (behind_call call e)

-- a server with these tools after these calls, the first of them made of a new one
abbrev pub reached : List (List ℕ) → List Call → ServerEnd
reached tools calls = behind_calls calls (new_server_end tools)

-- the two calls that leave a connection
abbrev pub gives_up : Call → Bool
gives_up Leave = true
gives_up Restart = true
gives_up _ = false

-- ---- the act that a call completes

-- a command that is complete at its turn and an act: a choice of frame, and the question whether the machine is homed
abbrev pub acts_at_once : Option Command → Bool
acts_at_once (Some (command.SetCoordSystem system)) = true
acts_at_once (Some command.IsHomed) = true
acts_at_once _ = false

-- the calls that complete an act: the machine is done or has touched, where what runs can end so, and the turn of a choice of frame or of
-- IsHomed that is not refused
abbrev pub completes_act : Call → ServerEnd → Bool
completes_act Turn e = may_turn e.server && (is_none (first_refusal e.server) && acts_at_once (first_command e.server))
completes_act (Machine outcome.Done) e = may_end e.server.running outcome.Done
completes_act (Machine (outcome.Touched at)) e = may_end e.server.running (outcome.Touched at)
completes_act _ e = false

-- an act, the tag of its command, and the lines before the completion of that command
pub record Deed : Type 0 where
  pub tag : Tag
  pub act : Act
  pub lines : List Reply

-- an act whose command only ends
abbrev pub plain_deed : Tag → Act → Option Deed
plain_deed t a = Some (record { tag = t; act = a; lines = [] })

-- what was done when a command other than a touch is done
abbrev pub done_deed : Server → Tag → Command → Option Deed
done_deed s t command.Home = plain_deed t act.Homed
done_deed s t (command.ChangeTool name) = plain_deed t (act.Changed name)
done_deed s t (command.GoTo target) = plain_deed t (act.Moved target s.frame)
done_deed s t _ = None

-- what was done when a touch has met a surface: its contact, whose point is in the line before its end
abbrev pub touch_deed : Server → Tag → Command → Point → Option (List ℕ) → Option Deed
touch_deed s t (command.PtMeas target dir) at (Some tool) =
    let point : Point = point_difference at (offset s.frame) in
    Some (record { tag = t; act = act.Contact target dir tool s.frame point; lines = Reply.Given t (datum.Point point) ∷ [] })
touch_deed s t c at tool = None

-- what was done when what runs has ended
abbrev pub end_deed : Server → Outcome → Option Line → Option Deed
end_deed s outcome.Done (Some line) = done_deed s line.tag line.command
end_deed s (outcome.Touched at) (Some line) = touch_deed s line.tag line.command at s.tool
end_deed s _ _ = None

-- what is done at the turn of a choice of frame, and of IsHomed: whether the machine is homed then is in the line before its end
abbrev pub deed_at_once : Server → Tag → Option Command → Option Deed
deed_at_once s t (Some (command.SetCoordSystem system)) = plain_deed t (act.Framed (frame_of system s.stored))
deed_at_once s t (Some command.IsHomed) =
    Some (record { tag = t; act = act.HomedIs s.homed; lines = Reply.Given t (datum.Homed s.homed) ∷ [] })
deed_at_once s t _ = None

-- what is done at the turn of the first waiting command, unless it is refused
abbrev pub turn_deed : Server → List Waiting → Option Deed
turn_deed s [] = None
turn_deed s (w ∷ ws) = if is_none (refusal s w.reading) then deed_at_once s w.tag (ok_of w.reading) else None

-- the act that a call completes, if any
abbrev pub deed_of : Call → ServerEnd → Option Deed
deed_of Turn e = if may_turn e.server then turn_deed e.server e.server.waiting else None
deed_of (Machine ended) e = if may_end e.server.running ended then end_deed e.server ended e.server.running else None
deed_of _ e = None

-- one act is appended, on the present connection, the call answers its lines and the end of its command, nothing else, and nothing runs any
-- more
pub record HasActed (deed : Deed) (old new : ServerEnd) : Type 0 where
  pub ledger : new.server.ledger ≡ old.server.ledger ++ (old.server.last, deed.act) ∷ []
  pub said : new.out ≡ old.out ++ reply_bytes (deed.lines ++ Reply.Done deed.tag ∷ [])
  pub idle : new.server.running ≡ None

-- a deed is done, or the ledger is as it was
abbrev pub IsDone : Option Deed → ServerEnd → ServerEnd → Type 0
IsDone None old new = new.server.ledger ≡ old.server.ledger
IsDone (Some deed) old new = HasActed deed old new

-- a contact was made by a call of the machine as the running command asked, for a target that the machine can reach
pub record IsContactOf (e : ServerEnd) (call : Call) (made : MadeContact) : Type 0 where
  pub ended : Outcome
  pub is_end : call ≡ Machine ended
  pub commanded : IsCommanded e ended made
  pub target : in_volume (point_sum made.target (offset made.frame)) ≡ true

-- ---- homing

-- the command that homes the machine
abbrev pub is_home : Option Command → Bool
is_home (Some command.Home) = true
is_home _ = false

-- the turn of a Home that is not refused
abbrev pub begins_homing : Server → Bool
begins_homing s = may_turn s && (is_none (first_refusal s) && is_home (first_command s))

-- what runs is a Home
abbrev pub runs_home : Option Line → Bool
runs_home None = false
runs_home (Some line) = is_home (Some line.command)

-- whether the machine is homed after a call: it is homed once a Home is done; it is not homed once a Home begins that is not refused
-- nor after a restart, and each other call leaves it as it was
abbrev pub homed_behind : Call → ServerEnd → Bool
homed_behind Turn e = not (begins_homing e.server) && e.server.homed
homed_behind (Machine outcome.Done) e = runs_home e.server.running || e.server.homed
homed_behind Restart e = false
homed_behind _ e = e.server.homed

-- ---- acts in the error state

-- a server in the error state on which this command runs
pub record RunsInError (line : Line) (e : ServerEnd) : Type 0 where
  pub error : e.server.error ≡ true
  pub runs : e.server.running ≡ Some line

-- it is so now and after each of the calls
abbrev pub StaysInError : Line → List Call → ServerEnd → Type 0
StaysInError line [] e = RunsInError line e
StaysInError line (call ∷ calls) e = RunsInError line e × StaysInError line calls (behind_call call e)

-- a server not in the error state on which this command runs while 64 wait
pub record IsFull (line : Line) (e : ServerEnd) : Type 0 where
  pub calm : e.server.error ≡ false
  pub runs : e.server.running ≡ Some line
  pub full : length e.server.waiting ≡ 64

-- the command that runs after these calls ran already when the error state was entered, by a line that was read while 64 waited, and has
-- run in it since
pub record RanBefore (tools : List (List ℕ)) (calls : List Call) (line : Line) : Type 0 where
  pub before : List Call
  pub since : List Call
  pub parts : calls ≡ before ++ ReadOne ∷ since
  pub full : IsFull line (reached tools before)
  pub stays : StaysInError line since (behind_call ReadOne (reached tools before))

-- a call completes an act in the error state only as the end of a command that ran before the error
pub record IsEndOfEarlier (tools : List (List ℕ)) (calls : List Call) (call : Call) : Type 0 where
  pub ended : Outcome
  pub is_end : call ≡ Machine ended
  pub line : Line
  pub runs : (reached tools calls).server.running ≡ Some line
  pub ran : RanBefore tools calls line
