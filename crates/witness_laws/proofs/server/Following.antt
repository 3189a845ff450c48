-- What holds of a server and a witness that has read all lines of its connection, at the end of a command.
use Rattle.witness_laws.proofs.Names.{◌++◌, ◌∙◌, ◌∷◌, ◌≡◌, [], Act, acted, acts_done, acts_more, acts_on, after, all_fail, all_renewed, ap}
use Rattle.witness_laws.proofs.Names.{append-nil, AreReplies, arith, below, Bool, carried_out, Command, Datum, Dialogue, difference_on_wire}
use Rattle.witness_laws.proofs.Names.{Direction, done, Err, false, false≢true, fault_number, finished, Frame, frame_of as known_frame_of, framed}
use Rattle.witness_laws.proofs.Names.{has_outcome, Heard, in_error, in_volume, IsInVolume, IsOnWire, IsTag, IsWritableReply, kind_in, kind_of, Known}
use Rattle.witness_laws.proofs.Names.{List, Machine, MachineCsy, machined, Mark, may_end, Misread, moved, None, offset, Ok, opposite_in_volume}
use Rattle.witness_laws.proofs.Names.{Option, Outcome, Part, part_at, PartCsy, Point, point_difference, point_opposite, refl, refusal, Reply}
use Rattle.witness_laws.proofs.Names.{reply_text, reply_texts, Reported, reported_by, response_of, Result, SentCommand, server_line, server_lines}
use Rattle.witness_laws.proofs.Names.{server_turned, Some, Stage, stopped, subst, sym, Tag, taken, tool_of as known_tool_of, true, turned_to, Waiting}
use Rattle.witness_laws.proofs.Names.{waits_under, zero_point, ℕ}
use Rattle.protocol_model.specs.Server.{Server, Answer, answers, touched}
use Rattle.protocol_model.specs.declared.lines.Line.{Line}
use Rattle.protocol_model.proofs.whole_run.PlainServer.{volume_is}
use Rattle.witness.specs.Dialogues as effects
use Rattle.witness_laws.specs.Reports.{is_other, breaks_only, NamesNoOther, IsReportOf}
use Rattle.witness_laws.proofs.server.Knowing.{pending}
use Rattle.witness_laws.proofs.server.Selected.{Selected, selected, is_change, IsSo, IsSoTool, IsToolNamed, known_tool, known_frame, known_zero}
use Rattle.witness_laws.proofs.server.Completing.{completed, completed_so, stopped_so}
use Rattle.witness_laws.proofs.server.Places.{Shape, opened}
use Rattle.witness_laws.proofs.server.Hearing.{Tells, tells_more, tells_same, IsAt}
use Rattle.witness_laws.proofs.server.Replies.{fails_here, fails_first, ends_first, homed_given, point_given, says_failure, fails_heard}
use Rattle.witness_laws.proofs.server.Opening.{running_one, IsOpen, AreOpen, AreApart, free_first, all_fail_at, all_fail_heard, all_fail_said}
use Rattle.witness_laws.proofs.server.Answering.{heard_there, IsHeard, AreHeard}

-- ---- the invariant

-- the commands that are open at a server
abbrev pub open_at : Server → List Waiting
open_at s = running_one s.running ++ s.waiting

-- the commands that are open at a witness are those that run and wait at the server, under different tags; what it knows is so; it has
-- reported the acts of the connection; and what is selected lies in the volume
pub record Follows (P : Tag → Bool) (s : Server) (d : Dialogue) : Type 0 where
  pub uses : List Shape
  pub ours : AreOpen (open_at s) uses
  pub apart : AreApart (open_at s)
  pub at : IsAt P (selected s) (acts_on s.last s.ledger) uses d
  pub stored : IsInVolume s.stored
  pub frame : IsInVolume (offset s.frame)

-- so it does after an answer, whose lines it reads; each of them is for an open command, and can be written
pub record FollowsTo (P : Tag → Bool) (d : Dialogue) (a : Answer) : Type 0 where
  pub follows : Follows P a.server (server_lines d (reply_texts a.said))
  pub heard : AreHeard d (reply_texts a.said)
  pub said : AreReplies a.said

-- nothing is answered
silent : (P : Tag → Bool) (s : Server) (d : Dialogue) → Follows P s d → FollowsTo P d (answers s [])
silent P s d f = record { follows = f; heard = tt; said = tt }

-- a line, and then others
pub line_first : (P : Tag → Bool) (s : Server) (d : Dialogue) (r : Reply) (rs : List Reply) → IsHeard d.uses (response_of (reply_text r))
    → IsWritableReply r → FollowsTo P (after d (server_line (reply_text r))) (answers s rs) → FollowsTo P d (answers s (r ∷ rs))
line_first P s d r rs heard room f = record { follows = f.follows; heard = (heard, f.heard); said = (room, f.said) }

-- ---- the first of the open commands

-- this command is the first that is open, and these are the others
pub record IsFirst (P : Tag → Bool) (tag : Tag) (c : Command) (ws : List Waiting) (s : Selected) (acts : List Act) (d : Dialogue) : Type 0 where
  pub rest : List Shape
  pub at : IsAt P s acts (opened tag (SentCommand.Known c) Stage.Received ∷ rest) d
  pub first : IsOpen (record { tag = tag; reading = Ok c }) (SentCommand.Known c)
  pub under : waits_under tag ws ≡ false
  pub apart : AreApart ws
  pub others : AreOpen ws rest

pub is_first : (P : Tag → Bool) (tag : Tag) (c : Command) (ws : List Waiting) (s : Selected) (acts : List Act) (uses : List Shape) (d : Dialogue)
    → AreOpen (record { tag = tag; reading = Ok c } ∷ ws) uses → AreApart (record { tag = tag; reading = Ok c } ∷ ws) → IsAt P s acts uses d
    → IsFirst P tag c ws s acts d
is_first P tag c ws s acts uses d ours apart at =
    let same : ours.0 ≡ SentCommand.Known c = ours.3.asks in record {
      rest = ours.1;
      at = subst (λ (us : List Shape). IsAt P s acts us d)
          (ours.2 ∙ ap (λ (a : SentCommand). opened tag a Stage.Received ∷ ours.1) same) at;
      first = subst (IsOpen (record { tag = tag; reading = Ok c })) same ours.3;
      under = apart.0;
      apart = apart.1;
      others = ours.4;
    }

-- ---- reports

acts_one : (n : ℕ) (l : List (ℕ × Act)) (a : Act) → acts_on n (l ++ (n, a) ∷ []) ≡ acts_on n l ++ a ∷ []
acts_one n l a = acts_more n l ((n, a) ∷ []) ∙ ap (λ (k : List Act). acts_on n l ++ k) (acts_done n (a ∷ []))

-- what is reported is the act
record IsReported (P : Tag → Bool) (x : Reported) (a : Act) : Type 0 where
  act : is_other x ≡ false
  breaks : breaks_only P x ≡ true
  is : IsReportOf x a

tells_act : (P : Tag → Bool) (n : ℕ) (l : List (ℕ × Act)) (so_far : List Reported) (x : Reported) (a : Act) → Tells P so_far (acts_on n l)
    → IsReported P x a → Tells P (so_far ++ x ∷ []) (acts_on n (l ++ (n, a) ∷ []))
tells_act P n l so_far x a h one =
    subst (Tells P (so_far ++ x ∷ [])) (sym (acts_one n l a))
    (tells_more P so_far (acts_on n l) x a (IsReported.act one) (IsReported.breaks one) h (IsReported.is one))

did : (P : Tag → Bool) (a : Act) → IsReported P (Reported.Did a) a
did P a = record { act = refl; breaks = refl; is = refl }

moved_reported : (P : Tag → Bool) (p : Point) (known : Option Frame) (f : Frame) → NamesNoOther known f
    → IsReported P (moved p known) (Act.Moved p f)
moved_reported P p None f h = record { act = refl; breaks = refl; is = refl }
moved_reported P p (Some g) f h = record { act = refl; breaks = refl; is = ap (Act.Moved p) h }

part_reported : (P : Tag → Bool) (known : Option Point) (stored : Point) → NamesNoOther known stored
    → IsReported P (framed (part_at known)) (Act.Framed (Part stored))
part_reported P None stored h = record { act = refl; breaks = refl; is = tt }
part_reported P (Some p) stored h = record { act = refl; breaks = refl; is = ap (λ (q : Point). Act.Framed (Part q)) h }

abbrev name_or : List ℕ → Option (List ℕ) → List ℕ
name_or d None = d
name_or d (Some n) = n

touch_reported : (P : Tag → Bool) (p : Point) (d : Option Direction) (at : Point) (tool : List ℕ) (f : Frame) (head : Option (List ℕ))
    (n : Option (List ℕ)) (g : Option Frame) → head ≡ Some tool → IsToolNamed head n → NamesNoOther g f
    → IsReported P (effects.touched n g p d at) (Act.Contact p d tool f at)
touch_reported P p d at tool f head None g is known frame = record { act = refl; breaks = refl; is = (refl, refl, tt, frame, refl) }
touch_reported P p d at tool f head (Some m) None is known frame =
    record { act = refl; breaks = refl; is = (refl, refl, ap (name_or m) (sym known ∙ is), tt, refl) }
touch_reported P p d at tool f head (Some m) (Some g) is known frame = record {
  act = refl;
  breaks = refl;
  is = ap (λ (x : List ℕ). Act.Contact p d x g at) (ap (name_or m) (sym known ∙ is)) ∙ ap (λ (x : Frame). Act.Contact p d tool x at) frame;
}

-- ---- the end of the first command

-- a server on which nothing runs, and these wait
abbrev pub still : Server → List Waiting → Server
still s ws = record s { running = None; waiting = ws }

-- the first command ends, nothing runs after it, and the others are still open
ended : (P : Tag → Bool) (new : Server) (old : Selected) (acts : List Act) (tag : Tag) (c : Command) (at_stage : Stage) (ws : List Waiting)
    (rest : List Shape) (d : Dialogue) → IsTag tag → IsAt P old acts (opened tag (SentCommand.Known c) at_stage ∷ rest) d
    → ((n : ℕ) (k : Known) → IsSo old k
    → IsSo (selected (still new ws)) (all_renewed (Mark n Heard.Complete) (below (Some (pending n at_stage)) (SentCommand.Known c) k)))
    → ((k : Known) → IsSo old k
    → Tells P (d.reported ++ reported_by k tag (SentCommand.Known c) at_stage Heard.Complete) (acts_on new.last new.ledger))
    → AreOpen ws rest → AreApart ws → IsInVolume new.stored → IsInVolume (offset new.frame)
    → FollowsTo P d (answers (still new ws) (Reply.Done tag ∷ []))
ended P new old acts tag c at_stage ws rest d room at so tells others apart stored frame = record {
  follows = record {
    uses = rest;
    ours = others;
    apart = apart;
    at = ends_first P old (selected (still new ws)) acts (acts_on new.last new.ledger) tag c at_stage rest d room so tells at;
    stored = stored;
    frame = frame;
  };
  heard = (heard_there d (Reply.Done tag) [] (opened tag (SentCommand.Known c) at_stage) rest room refl at.shaped, tt);
  said = (room, tt);
}

-- ---- a command is carried out at its turn

-- a command that runs from now on
runs_now : (P : Tag → Bool) (new : Server) (tag : Tag) (c : Command) (ws : List Waiting) (old : Selected) (acts : List Act) (d : Dialogue)
    → (h : IsFirst P tag c ws old acts d)
    → IsAt P (selected (record new { running = Some (record { tag = tag; command = c }); waiting = ws })) (acts_on new.last new.ledger)
    (opened tag (SentCommand.Known c) Stage.Received ∷ h.rest) d
    → IsInVolume new.stored → IsInVolume (offset new.frame)
    → Follows P (record new { running = Some (record { tag = tag; command = c }); waiting = ws }) d
runs_now P new tag c ws old acts d h at stored frame = record {
  uses = opened tag (SentCommand.Known c) Stage.Received ∷ h.rest;
  ours = (SentCommand.Known c, h.rest, refl, h.first, h.others);
  apart = (h.under, h.apart);
  at = at;
  stored = stored;
  frame = frame;
}

some_none : {A : Type 0} (x : A) → Some x ≡ None → ⊥
some_none x e = cc

pub zero_in_volume : IsInVolume zero_point
zero_in_volume = record { x = omega arith; y = omega arith; z = omega arith }

-- one that is complete at once, with no act
plainly : (P : Tag → Bool) (new : Server) (old : Selected) (acts : List Act) (tag : Tag) (c : Command) (ws : List Waiting) (d : Dialogue)
    → (h : IsFirst P tag c ws old acts d) → acts ≡ acts_on new.last new.ledger
    → ((n : ℕ) (k : Known) → IsSo old k
    → IsSo (selected (still new ws)) (all_renewed (Mark n Heard.Complete) (below (Some (pending n Stage.Received)) (SentCommand.Known c) k)))
    → ((k : Known) → reported_by k tag (SentCommand.Known c) Stage.Received Heard.Complete ≡ []) → IsInVolume new.stored
    → IsInVolume (offset new.frame) → FollowsTo P d (answers (still new ws) (Reply.Done tag ∷ []))
plainly P new old acts tag c ws d h same so none stored frame =
    ended P new old acts tag c Stage.Received ws h.rest d h.first.room h.at so
    (λ k is. subst (λ l. Tells P (d.reported ++ l) (acts_on new.last new.ledger)) (sym (none k))
    (tells_same P d.reported (acts_on new.last new.ledger) (subst (Tells P d.reported) same h.at.tells)))
    h.others h.apart stored frame

-- a change of tool that runs from now on
changing_at : (P : Tag → Bool) (s : Server) (line : Line) (ws : List Waiting) (acts : List Act) (xs : List Shape) (d : Dialogue)
    → is_change line.command ≡ true → IsAt P (selected (still s ws)) acts xs d
    → IsAt P (selected (record s { tool = None; running = Some line; waiting = ws })) acts xs d
changing_at P s line ws acts xs d change h = record {
  view = h.view;
  so = record {
    tool = subst (λ b. IsSoTool b None (Known.tool h.view)) (sym change) tt;
    zero = h.so.zero;
    frame = h.so.frame;
  };
  within = h.within;
  shaped = h.shaped;
  rising = h.rising;
  clear = h.clear;
  counted = h.counted;
  tells = h.tells;
}

pub carried_follows : (P : Tag → Bool) (s : Server) (ws : List Waiting) (tag : Tag) (c : Command) (d : Dialogue)
    → IsFirst P tag c ws (selected (still s ws)) (acts_on s.last s.ledger) d → IsInVolume s.stored → IsInVolume (offset s.frame)
    → FollowsTo P d (carried_out (still s ws) tag c)
carried_follows P s ws tag Command.StartSession d h stored frame =
    plainly P (record s { session = true }) (selected (still s ws)) (acts_on s.last s.ledger) tag Command.StartSession ws d h refl
    (λ n k is. completed_so (selected (still s ws)) Command.StartSession n k refl is) (λ k. refl) stored frame
carried_follows P s ws tag Command.EndSession d h stored frame =
    plainly P (record s { session = false }) (selected (still s ws)) (acts_on s.last s.ledger) tag Command.EndSession ws d h refl
    (λ n k is. completed_so (selected (still s ws)) Command.EndSession n k refl is) (λ k. refl) stored frame
carried_follows P s ws tag Command.ClearAllErrors d h stored frame =
    plainly P s (selected (still s ws)) (acts_on s.last s.ledger) tag Command.ClearAllErrors ws d h refl
    (λ n k is. completed_so (selected (still s ws)) Command.ClearAllErrors n k refl is) (λ k. refl) stored frame
carried_follows P s ws tag Command.OnPtMeasReport d h stored frame =
    plainly P s (selected (still s ws)) (acts_on s.last s.ledger) tag Command.OnPtMeasReport ws d h refl
    (λ n k is. completed_so (selected (still s ws)) Command.OnPtMeasReport n k refl is) (λ k. refl) stored frame
carried_follows P s ws tag Command.IsHomed d h stored frame =
    line_first P (still (acted (Act.HomedIs s.homed) s) ws) d (Reply.Given tag (Datum.Homed s.homed)) (Reply.Done tag ∷ [])
    (heard_there d (Reply.Given tag (Datum.Homed s.homed)) [] (opened tag (SentCommand.Known Command.IsHomed) Stage.Received) h.rest (h.first.room, tt)
    refl h.at.shaped)
    (h.first.room, tt)
    (ended P (acted (Act.HomedIs s.homed) s) (selected (still s ws)) (acts_on s.last s.ledger) tag Command.IsHomed
    (Stage.Given (Datum.Homed s.homed)) ws h.rest (after d (server_line (reply_text (Reply.Given tag (Datum.Homed s.homed))))) h.first.room
    (homed_given P (selected (still s ws)) (acts_on s.last s.ledger) tag h.rest d s.homed h.first.room h.at)
    (λ n k is. completed_so (selected (still s ws)) Command.IsHomed n k refl is)
    (λ k is. tells_act P s.last s.ledger _ (Reported.Did (Act.HomedIs s.homed)) (Act.HomedIs s.homed)
    (homed_given P (selected (still s ws)) (acts_on s.last s.ledger) tag h.rest d s.homed h.first.room h.at).tells (did P (Act.HomedIs s.homed)))
    h.others h.apart stored frame)
carried_follows P s ws tag (Command.SetCsyTransformation p) d h stored frame =
    plainly P (record s { stored = point_opposite p }) (selected (still s ws)) (acts_on s.last s.ledger) tag (Command.SetCsyTransformation p) ws d
    h refl (λ n k is. completed_so (selected (still s ws)) (Command.SetCsyTransformation p) n k refl is) (λ k. refl)
    (opposite_in_volume p h.first.fit) frame
carried_follows P s ws tag (Command.SetCoordSystem MachineCsy) d h stored frame =
    ended P (acted (Act.Framed Machine) (record s { frame = Machine })) (selected (still s ws)) (acts_on s.last s.ledger) tag
    (Command.SetCoordSystem MachineCsy) Stage.Received ws h.rest d h.first.room h.at
    (λ n k is. completed_so (selected (still s ws)) (Command.SetCoordSystem MachineCsy) n k refl is)
    (λ k is. tells_act P s.last s.ledger d.reported (Reported.Did (Act.Framed Machine)) (Act.Framed Machine) h.at.tells (did P (Act.Framed Machine)))
    h.others h.apart stored zero_in_volume
carried_follows P s ws tag (Command.SetCoordSystem PartCsy) d h stored frame =
    ended P (acted (Act.Framed (Part s.stored)) (record s { frame = Part s.stored })) (selected (still s ws)) (acts_on s.last s.ledger) tag
    (Command.SetCoordSystem PartCsy) Stage.Received ws h.rest d h.first.room h.at
    (λ n k is. completed_so (selected (still s ws)) (Command.SetCoordSystem PartCsy) n k refl is)
    (λ k is. tells_act P s.last s.ledger d.reported (framed (part_at (done (Known.zero k)))) (Act.Framed (Part s.stored)) h.at.tells
    (part_reported P (done (Known.zero k)) s.stored (known_zero (Known.zero k) s.stored is.zero)))
    h.others h.apart stored stored
carried_follows P s ws tag Command.Home d h stored frame =
    silent P _ d (runs_now P (record s { homed = false }) tag Command.Home ws _ _ d h h.at stored frame)
carried_follows P s ws tag (Command.ChangeTool n) d h stored frame =
    silent P _ d (runs_now P (record s { tool = None }) tag (Command.ChangeTool n) ws _ _ d h
    (changing_at P s (record { tag = tag; command = Command.ChangeTool n }) ws (acts_on s.last s.ledger) _ d refl h.at) stored frame)
carried_follows P s ws tag (Command.GoTo p) d h stored frame =
    silent P _ d (runs_now P s tag (Command.GoTo p) ws _ _ d h h.at stored frame)
carried_follows P s ws tag (Command.PtMeas p dir) d h stored frame =
    silent P _ d (runs_now P s tag (Command.PtMeas p dir) ws _ _ d h h.at stored frame)
carried_follows P s ws tag Command.AbortE d h stored frame = absurd (false≢true (sym h.first.plain))

-- ---- what runs ends

-- a server on which this command runs, and these wait
abbrev pub busy : Server → Tag → Command → List Waiting → Server
busy s tag c ws = record s { running = Some (record { tag = tag; command = c }); waiting = ws }

-- the first that is open is what runs
pub runs_first : (P : Tag → Bool) (s : Server) (tag : Tag) (c : Command) (d : Dialogue) → Follows P (busy s tag c s.waiting) d
    → IsFirst P tag c s.waiting (selected (busy s tag c s.waiting)) (acts_on s.last s.ledger) d
runs_first P s tag c d h =
    is_first P tag c s.waiting (selected (busy s tag c s.waiting)) (acts_on s.last s.ledger) h.uses d h.ours h.apart h.at

-- it is done, with its act
done_follows : (P : Tag → Bool) (s new : Server) (tag : Tag) (c : Command) (d : Dialogue) → Follows P (busy s tag c s.waiting) d
    → completed c (selected (busy s tag c s.waiting)) ≡ selected (still new s.waiting)
    → ((k : Known) → IsSo (selected (busy s tag c s.waiting)) k
    → Tells P (d.reported ++ reported_by k tag (SentCommand.Known c) Stage.Received Heard.Complete) (acts_on new.last new.ledger))
    → IsInVolume new.stored → IsInVolume (offset new.frame)
    → FollowsTo P d (answers (still new s.waiting) (Reply.Done tag ∷ []))
done_follows P s new tag c d f same tells stored frame =
    let h = runs_first P s tag c d f in
    ended P new (selected (busy s tag c s.waiting)) (acts_on s.last s.ledger) tag c Stage.Received s.waiting h.rest d h.first.room h.at
    (λ n k is. subst (λ x. IsSo x (all_renewed (Mark n Heard.Complete) (below (Some (pending n Stage.Received)) (SentCommand.Known c) k))) same
    (completed_so (selected (busy s tag c s.waiting)) c n k refl is))
    tells h.others h.apart stored frame

pub finished_follows : (P : Tag → Bool) (s : Server) (tag : Tag) (c : Command) (d : Dialogue) → Follows P (busy s tag c s.waiting) d
    → FollowsTo P d (finished (busy s tag c s.waiting) tag c)
finished_follows P s tag Command.Home d f =
    done_follows P s (acted Act.Homed (record s { homed = true })) tag Command.Home d f refl
    (λ k is. tells_act P s.last s.ledger d.reported (Reported.Did Act.Homed) Act.Homed f.at.tells (did P Act.Homed)) f.stored f.frame
finished_follows P s tag (Command.ChangeTool n) d f =
    done_follows P s (acted (Act.Changed n) (record s { tool = Some n })) tag (Command.ChangeTool n) d f refl
    (λ k is. tells_act P s.last s.ledger d.reported (Reported.Did (Act.Changed n)) (Act.Changed n) f.at.tells (did P (Act.Changed n))) f.stored
    f.frame
finished_follows P s tag (Command.GoTo p) d f =
    done_follows P s (acted (Act.Moved p s.frame) s) tag (Command.GoTo p) d f refl
    (λ k is. tells_act P s.last s.ledger d.reported (moved p (known_frame_of k)) (Act.Moved p s.frame) f.at.tells
    (moved_reported P p (known_frame_of k) s.frame (known_frame (selected (busy s tag (Command.GoTo p) s.waiting)) k is))) f.stored f.frame
finished_follows P s tag Command.StartSession d f = silent P _ d f
finished_follows P s tag Command.EndSession d f = silent P _ d f
finished_follows P s tag Command.ClearAllErrors d f = silent P _ d f
finished_follows P s tag Command.IsHomed d f = silent P _ d f
finished_follows P s tag Command.OnPtMeasReport d f = silent P _ d f
finished_follows P s tag (Command.PtMeas p dir) d f = silent P _ d f
finished_follows P s tag (Command.SetCsyTransformation p) d f = silent P _ d f
finished_follows P s tag (Command.SetCoordSystem system) d f = silent P _ d f
finished_follows P s tag Command.AbortE d f = silent P _ d f

touch_follows : (P : Tag → Bool) (s : Server) (tag : Tag) (p : Point) (dir : Option Direction) (at : Point) (tool : Option (List ℕ)) (d : Dialogue)
    → s.tool ≡ tool → in_volume at ≡ true → Follows P (busy s tag (Command.PtMeas p dir) s.waiting) d
    → FollowsTo P d (touched (busy s tag (Command.PtMeas p dir) s.waiting) tag (Command.PtMeas p dir) at tool)
touch_follows P s tag p dir at None d head within f = silent P _ d f
touch_follows P s tag p dir at (Some tool) d head within f =
    let h = runs_first P s tag (Command.PtMeas p dir) d f in
    let old : Selected = selected (busy s tag (Command.PtMeas p dir) s.waiting) in
    let point : Point = point_difference at (offset s.frame) in
    let a : Act = Act.Contact p dir tool s.frame point in
    let wire : IsOnWire point = difference_on_wire at (offset s.frame) (volume_is at within) f.frame in
    let given = point_given P old (acts_on s.last s.ledger) tag p dir h.rest d point h.first.room wire h.at in
    line_first P (still (acted a s) s.waiting) d (Reply.Given tag (Datum.Point point)) (Reply.Done tag ∷ [])
    (heard_there d (Reply.Given tag (Datum.Point point)) [] (opened tag (SentCommand.Known (Command.PtMeas p dir)) Stage.Received) h.rest
    (h.first.room, wire) refl h.at.shaped)
    (h.first.room, wire)
    (ended P (acted a s) old (acts_on s.last s.ledger) tag (Command.PtMeas p dir) (Stage.Given (Datum.Point point)) s.waiting h.rest _
    h.first.room given (λ n k is. completed_so old (Command.PtMeas p dir) n k refl is)
    (λ k is. tells_act P s.last s.ledger _ (effects.touched (known_tool_of k) (known_frame_of k) p dir point) a given.tells
    (touch_reported P p dir point tool s.frame s.tool (known_tool_of k) (known_frame_of k) head (known_tool old k refl is) (known_frame old k is)))
    h.others h.apart f.stored f.frame)

-- a touch that the machine can end so
pub touched_follows : (P : Tag → Bool) (s : Server) (tag : Tag) (c : Command) (at : Point) (tool : Option (List ℕ)) (d : Dialogue) → s.tool ≡ tool
    → has_outcome c (Outcome.Touched at) ≡ true → Follows P (busy s tag c s.waiting) d
    → FollowsTo P d (touched (busy s tag c s.waiting) tag c at tool)
touched_follows P s tag (Command.PtMeas p dir) at tool d head may f = touch_follows P s tag p dir at tool d head may f
touched_follows P s tag Command.StartSession at tool d head may f = silent P _ d f
touched_follows P s tag Command.EndSession at tool d head may f = silent P _ d f
touched_follows P s tag Command.ClearAllErrors at tool d head may f = silent P _ d f
touched_follows P s tag Command.IsHomed at tool d head may f = silent P _ d f
touched_follows P s tag Command.Home at tool d head may f = silent P _ d f
touched_follows P s tag Command.OnPtMeasReport at tool d head may f = silent P _ d f
touched_follows P s tag (Command.GoTo p) at tool d head may f = silent P _ d f
touched_follows P s tag (Command.ChangeTool n) at tool d head may f = silent P _ d f
touched_follows P s tag (Command.SetCsyTransformation p) at tool d head may f = silent P _ d f
touched_follows P s tag (Command.SetCoordSystem system) at tool d head may f = silent P _ d f
touched_follows P s tag Command.AbortE at tool d head may f = silent P _ d f

-- ---- a failure

-- nothing is open after these failed
pub none_open : (P : Tag → Bool) (new : Server) (d : Dialogue) → IsAt P (selected (still new [])) (acts_on new.last new.ledger) [] d
    → IsInVolume new.stored → IsInVolume (offset new.frame) → Follows P (still new []) d
none_open P new d at stored frame = record { uses = []; ours = refl; apart = tt; at = at; stored = stored; frame = frame }

-- what waits fails after the first command
others_fail : (P : Tag → Bool) (s : Selected) (acts : List Act) (ws : List Waiting) (rest : List Shape) (d : Dialogue) → AreOpen ws rest
    → IsAt P s acts rest d → IsAt P s acts [] (server_lines d (reply_texts (all_fail 9007 ws)))
others_fail P s acts ws rest d others at =
    all_fail_at P s acts 9007 ws rest [] [] d others (free_first ws)
    (subst (λ (us : List Shape). IsAt P s acts us d) (sym (append-nil rest)) at)

others_heard : (P : Tag → Bool) (s : Selected) (acts : List Act) (ws : List Waiting) (rest : List Shape) (d : Dialogue) → AreOpen ws rest
    → IsAt P s acts rest d → AreHeard d (reply_texts (all_fail 9007 ws))
others_heard P s acts ws rest d others at =
    all_fail_heard P s acts 9007 ws rest [] [] d others (free_first ws)
    (subst (λ (us : List Shape). IsAt P s acts us d) (sym (append-nil rest)) at)

pub stopped_follows : (P : Tag → Bool) (s : Server) (tag : Tag) (c : Command) (number : ℕ) (d : Dialogue) → Follows P (busy s tag c s.waiting) d
    → FollowsTo P d (stopped (busy s tag c s.waiting) (record { tag = tag; command = c }) number)
stopped_follows P s tag c number d f =
    let h = runs_first P s tag c d f in
    let old : Selected = selected (busy s tag c s.waiting) in
    let new : Selected = selected (still s []) in
    let acts : List Act = acts_on s.last s.ledger in
    let two = fails_heard P old acts [] tag (SentCommand.Known c) h.rest d number (Some (kind_of c)) h.first.room tt h.at in
    let at : IsAt P new acts h.rest (says_failure d tag number (Some (kind_of c))) =
    fails_first P old new acts tag c h.rest d number (Some (kind_of c)) h.first.room (λ n k is. stopped_so old c n k refl is) h.at in
    record {
      follows = none_open P (in_error s) _ (others_fail P new acts s.waiting h.rest _ h.others at) f.stored f.frame;
      heard = (two.0, (two.1, others_heard P new acts s.waiting h.rest _ h.others at));
      said = (h.first.room, (h.first.room, all_fail_said 9007 s.waiting h.rest h.others));
    }

-- what runs ends so
pub machined_follows : (P : Tag → Bool) (s : Server) (ended : Outcome) (running : Option Line) (d : Dialogue) → may_end running ended ≡ true
    → Follows P (record s { running = running }) d → FollowsTo P d (machined (record s { running = running }) ended running)
machined_follows P s ended None d may f = absurd (false≢true may)
machined_follows P s Outcome.Done (Some line) d may f = finished_follows P s line.tag line.command d f
machined_follows P s (Outcome.Touched at) (Some line) d may f = touched_follows P s line.tag line.command at s.tool d refl may f
machined_follows P s Outcome.Missed (Some line) d may f = stopped_follows P s line.tag line.command 9014 d f
machined_follows P s Outcome.Fault (Some line) d may f = stopped_follows P s line.tag line.command 9015 d f

-- ---- a turn

taken_follows : (P : Tag → Bool) (s : Server) (tag : Tag) (reading : Result Command Misread) (ws : List Waiting) (number : Option ℕ) (d : Dialogue)
    → refusal (still s (record { tag = tag; reading = reading } ∷ ws)) reading ≡ number
    → Follows P (still s (record { tag = tag; reading = reading } ∷ ws)) d
    → FollowsTo P d (taken (still s (record { tag = tag; reading = reading } ∷ ws)) (record { tag = tag; reading = reading }) ws number)
taken_follows P s tag reading ws (Some number) d refused f =
    let now : Selected = selected (still s []) in
    let acts : List Act = acts_on s.last s.ledger in
    let first : IsAt P now acts (opened tag f.ours.0 Stage.Received ∷ f.ours.1) d =
    subst (λ (us : List Shape). IsAt P now acts us d) f.ours.2 f.at in
    let two = fails_heard P now acts [] tag f.ours.0 f.ours.1 d number (kind_in reading) f.ours.3.room tt first in
    let at : IsAt P now acts f.ours.1 (says_failure d tag number (kind_in reading)) =
    fails_here P now acts [] tag f.ours.0 f.ours.1 d number (kind_in reading) f.ours.3.room tt first in
    record {
      follows = none_open P (in_error s) _ (others_fail P now acts ws f.ours.1 _ f.ours.4 at) f.stored f.frame;
      heard = (two.0, (two.1, others_heard P now acts ws f.ours.1 _ f.ours.4 at));
      said = (f.ours.3.room, (f.ours.3.room, all_fail_said 9007 ws f.ours.1 f.ours.4));
    }
taken_follows P s tag (Ok c) ws None d passed f =
    carried_follows P s ws tag c d (is_first P tag c ws (selected (still s ws)) (acts_on s.last s.ledger) f.uses d f.ours f.apart f.at) f.stored
    f.frame
taken_follows P s tag (Err why) ws None d passed f = absurd (some_none (fault_number why) passed)

turned_by : (P : Tag → Bool) (s : Server) (ws : List Waiting) (d : Dialogue) → Follows P (still s ws) d
    → FollowsTo P d (turned_to (still s ws) ws)
turned_by P s [] d f = silent P _ d f
turned_by P s (w ∷ ws) d f =
    taken_follows P s w.tag w.reading ws (refusal (still s (w ∷ ws)) w.reading) d refl f

-- the first that waits is processed
pub turned_follows : (P : Tag → Bool) (s : Server) (d : Dialogue) → s.running ≡ None → Follows P s d → FollowsTo P d (server_turned s)
turned_follows P s d idle f =
    subst (λ (r : Option Line). FollowsTo P d (server_turned (record s { running = r }))) (sym idle)
    (turned_by P s s.waiting d (subst (λ (r : Option Line). Follows P (record s { running = r }) d) idle f))
