-- What a witness knows and has reported after the lines of a server for a command.
use Rattle.witness_laws.proofs.Names.{◌&&◌, ◌++◌, ◌==◌, ◌∙◌, ◌∷◌, ◌≡◌, [], Ack, Act, after, all_renewed, and_false, ap, at, below, Bool, Client}
use Rattle.witness_laws.proofs.Names.{Command, cond, Datum, Dialogue, Direction, eq-eqb, Error, Event, false, Fault, faulting, first_under, Given}
use Rattle.witness_laws.proofs.Names.{given_homed, given_point, has_turn, Heard, heard_as, heard_at, heard_under, hearing, homed_of, homed_read}
use Rattle.witness_laws.proofs.Names.{if_false, if_true, inl, inr, is_end, is_out_of_turn, IsOnWire, IsTag, Kind, Known, length, List, list_any, map}
use Rattle.witness_laws.proofs.Names.{map-append, Mark, nothing, NotInTurn, Option, Point, point_of, point_read, Progress, refl, renewed, Reply}
use Rattle.witness_laws.proofs.Names.{reply_text, Reported, reported_by, response_of, SentCommand, server_line, Signal, Some, Stage, Std, subst, suc}
use Rattle.witness_laws.proofs.Names.{sym, Tag, take, true, unless_refused, Use, use_renewed, waits, with_mark, written_point, ℕ}
use Rattle.dme_line.specs.Homed.{written_homed}
use Rattle.witness.specs.Asking.{Done}
use Rattle.witness_laws.proofs.server.Knowing.{within_itself, within_renewed, answer_within, Becomes, below_renewed, below_lost, pending, IsStep}
use Rattle.witness_laws.proofs.server.Selected.{Selected, IsSo}
use Rattle.witness_laws.proofs.server.Completing.{loses}
use Rattle.witness_laws.proofs.server.Places.{Shape, opened, used, HaveOthers, renews, shaped_renewed, Split, split, said_is, heard_here, marked, own}
use Rattle.witness_laws.proofs.server.Hearing.{Tells, tells_other, tells_same, IsAt, faulting_at, stays_at, ends_at, stops_at, done_at, known_first, counted_at}
use Rattle.witness_laws.proofs.server.Hearing.{none_shaped}
use Rattle.witness_laws.proofs.server.Answering.{heard_there, IsHeard}

-- ---- turns

never : (a b : Bool) → (a && (b && false)) ≡ false
never a b = ap (λ c. a && c) (and_false b) ∙ and_false a

-- a mark that is no fault
in_turn : (d : Dialogue) (at : ℕ) (u : Use) (h : Heard) (ends : Bool) → is_out_of_turn d.uses at u h ≡ false
    → heard_at d at u h ends ≡ hearing d at u h ends
in_turn d at u h ends e =
    if_false (is_out_of_turn d.uses at u h) (hearing (faulting d (Reported.Broken NotInTurn u.tag)) at (use_renewed (all_renewed Fault) u) h ends)
    (hearing d at u h ends) e

-- no mark for the first command is
first_turn : (d : Dialogue) (b : List Use) (u : Use) (h : Heard) → b ≡ [] → is_out_of_turn d.uses (length b) u h ≡ false
first_turn d b u h e =
    ap (λ (l : List Use). is_out_of_turn d.uses (length l) u h) e ∙ and_false (has_turn u.command)

-- ---- received

begins : (n : ℕ) → Becomes (renewed (Mark n Heard.Received) (pending n Stage.Sent)) (pending n Stage.Received)
begins n =
    inr (if_true (n == n) (with_mark (pending n Stage.Sent) Progress.Sent Heard.Received) (unless_refused (pending n Stage.Sent) n Heard.Received)
    (eq-eqb n n refl))

received_step : (tag : Tag) (asked : SentCommand) (n : ℕ) (k : Known)
    → IsStep (Mark n Heard.Received) (used (opened tag asked Stage.Sent) n k) (own (opened tag asked Stage.Sent) n k Heard.Received)
received_step tag (SentCommand.Known c) n k = record {
  waiting = λ e. refl;
  known = λ e. within_itself (all_renewed (Mark n Heard.Received) k);
  next = λ e. below_renewed (Mark n Heard.Received) (pending n Stage.Sent) (pending n Stage.Received) (SentCommand.Known c) e (begins n);
}
received_step tag SentCommand.Asking n k = record {
  waiting = λ e. refl;
  known = λ e. within_itself (all_renewed (Mark n Heard.Received) k);
  next = λ e. within_itself (all_renewed (Mark n Heard.Received) e);
}
received_step tag (SentCommand.Foreign line) n k = record {
  waiting = λ e. refl;
  known = λ e. within_itself (all_renewed (Mark n Heard.Received) k);
  next = λ e. below_renewed (Mark n Heard.Received) (pending n Stage.Sent) (pending n Stage.Received) (SentCommand.Foreign line) e (begins n);
}

received_shape : (tag : Tag) (asked : SentCommand) → marked (opened tag asked Stage.Sent) Heard.Received ≡ opened tag asked Stage.Received
received_shape tag (SentCommand.Known c) = refl
received_shape tag SentCommand.Asking = refl
received_shape tag (SentCommand.Foreign line) = refl

received_tells : (P : Tag → Bool) (so_far : List Reported) (acts : List Act) (k : Known) (tag : Tag) (asked : SentCommand) → Tells P so_far acts
    → Tells P (so_far ++ reported_by k tag asked Stage.Sent Heard.Received) acts
received_tells P so_far acts k tag (SentCommand.Known c) h = tells_same P so_far acts h
received_tells P so_far acts k tag SentCommand.Asking h = tells_same P so_far acts h
received_tells P so_far acts k (Std n) (SentCommand.Foreign line) h = tells_other P so_far acts (Reported.Other Client line) refl refl h
received_tells P so_far acts k (Event n) (SentCommand.Foreign line) h = tells_same P so_far acts h

-- a command is received
pub receives : (P : Tag → Bool) (s : Selected) (acts : List Act) (before : List Shape) (tag : Tag) (asked : SentCommand) (after_it : List Shape)
    (d : Dialogue) → IsTag tag → HaveOthers tag before → IsAt P s acts (before ++ opened tag asked Stage.Sent ∷ after_it) d
    → IsAt P s acts (before ++ opened tag asked Stage.Received ∷ after_it) (after d (server_line (reply_text (Reply.Ack tag))))
receives P s acts before tag asked after_it d room others h =
    let x : Shape = opened tag asked Stage.Sent in
    let p : Split before x after_it d.uses = split before x after_it d.uses h.shaped in
    let u : Use = used x p.n p.k in
    subst (IsAt P s acts (before ++ opened tag asked Stage.Received ∷ after_it))
    (sym (said_is d (Reply.Ack tag) room
    ∙ (heard_here d (reply_text (Reply.Ack tag)) before x after_it Ack others p
    ∙ in_turn d (length p.b) u Heard.Received false (never (has_turn asked) (list_any waits (take (length p.b) d.uses))))))
    (subst (λ y. IsAt P s acts (before ++ y ∷ after_it) (hearing d (length p.b) u Heard.Received false)) (received_shape tag asked)
    (stays_at P s acts before x after_it d Heard.Received h p (received_step tag asked p.n p.k)
    (received_tells P d.reported acts _ tag asked h.tells)))

-- ---- failed

-- a command after an error
abbrev pub failed : Tag → SentCommand → Shape
failed tag asked = marked (opened tag asked Stage.Received) Heard.Failed

failed_step : (tag : Tag) (asked : SentCommand) (n : ℕ) (k : Known)
    → IsStep (Mark n Heard.Failed) (used (opened tag asked Stage.Received) n k) (own (opened tag asked Stage.Received) n k Heard.Failed)
failed_step tag asked n k = record {
  waiting = λ e. refl;
  known = λ e. within_itself (all_renewed (Mark n Heard.Failed) k);
  next = λ e. below_lost (Mark n Heard.Failed) (pending n Stage.Received) asked e (loses n);
}

failed_tells : (P : Tag → Bool) (so_far : List Reported) (acts : List Act) (k : Known) (tag : Tag) (asked : SentCommand) → Tells P so_far acts
    → Tells P (so_far ++ reported_by k tag asked Stage.Received Heard.Failed) acts
failed_tells P so_far acts k tag (SentCommand.Known c) h = tells_same P so_far acts h
failed_tells P so_far acts k tag SentCommand.Asking h = tells_same P so_far acts h
failed_tells P so_far acts k (Std n) (SentCommand.Foreign line) h = tells_same P so_far acts h
failed_tells P so_far acts k (Event n) (SentCommand.Foreign line) h = tells_same P so_far acts h

err_stays : (P : Tag → Bool) (s : Selected) (acts : List Act) (before : List Shape) (tag : Tag) (asked : SentCommand) (after_it : List Shape)
    (d : Dialogue) → (h : IsAt P s acts (before ++ opened tag asked Stage.Received ∷ after_it) d)
    → (p : Split before (opened tag asked Stage.Received) after_it d.uses)
    → IsAt P s acts (before ++ failed tag asked ∷ after_it)
    (hearing d (length p.b) (used (opened tag asked Stage.Received) p.n p.k) Heard.Failed false)
err_stays P s acts before tag asked after_it d h p =
    stays_at P s acts before (opened tag asked Stage.Received) after_it d Heard.Failed h p (failed_step tag asked p.n p.k)
    (failed_tells P d.reported acts _ tag asked h.tells)

-- the same command at a witness after a fault
abbrev fault_split : (before : List Shape) (x : Shape) (after_it : List Shape) (us : List Use) → Split before x after_it us
    → Split before x after_it (renews Fault us)
fault_split before x after_it us p = record {
  b = renews Fault p.b;
  a = renews Fault p.a;
  n = p.n;
  k = all_renewed Fault p.k;
  parts = ap (renews Fault) p.parts ∙ map-append (use_renewed (all_renewed Fault)) p.b (used x p.n p.k ∷ p.a);
  front = shaped_renewed (all_renewed Fault) before p.b p.front;
  back = shaped_renewed (all_renewed Fault) after_it p.a p.back;
}

same_length : (f : Use → Use) (us : List Use) → length (map f us) ≡ length us
same_length f [] = refl
same_length f (u ∷ us) = ap suc (same_length f us)

-- an error of a line that is not known may come before its turn
foreign_err : (b : Bool) (P : Tag → Bool) (s : Selected) (acts : List Act) (before : List Shape) (tag : Tag) (line : List ℕ)
    (after_it : List Shape) (d : Dialogue) → (h : IsAt P s acts (before ++ opened tag (SentCommand.Foreign line) Stage.Received ∷ after_it) d)
    → (p : Split before (opened tag (SentCommand.Foreign line) Stage.Received) after_it d.uses)
    → IsAt P s acts (before ++ failed tag (SentCommand.Foreign line) ∷ after_it)
    (cond b
    (hearing (faulting d (Reported.Broken NotInTurn tag)) (length p.b)
    (use_renewed (all_renewed Fault) (used (opened tag (SentCommand.Foreign line) Stage.Received) p.n p.k)) Heard.Failed false)
    (hearing d (length p.b) (used (opened tag (SentCommand.Foreign line) Stage.Received) p.n p.k) Heard.Failed false))
foreign_err true P s acts before tag line after_it d h p =
    let x : Shape = opened tag (SentCommand.Foreign line) Stage.Received in
    let e : Dialogue = faulting d (Reported.Broken NotInTurn tag) in
    let q : Split before x after_it e.uses = fault_split before x after_it d.uses p in
    subst (λ (i : ℕ). IsAt P s acts (before ++ failed tag (SentCommand.Foreign line) ∷ after_it) (hearing e i (used x q.n q.k) Heard.Failed false))
    (same_length (use_renewed (all_renewed Fault)) p.b)
    (err_stays P s acts before tag (SentCommand.Foreign line) after_it e
    (faulting_at P s acts (before ++ x ∷ after_it) d (Reported.Broken NotInTurn tag) refl (counted_at P before x after_it h.counted refl) h) q)
foreign_err false P s acts before tag line after_it d h p = err_stays P s acts before tag (SentCommand.Foreign line) after_it d h p

err_at : (P : Tag → Bool) (s : Selected) (acts : List Act) (before : List Shape) (tag : Tag) (asked : SentCommand) (after_it : List Shape)
    (d : Dialogue) → (h : IsAt P s acts (before ++ opened tag asked Stage.Received ∷ after_it) d)
    → (p : Split before (opened tag asked Stage.Received) after_it d.uses)
    → IsAt P s acts (before ++ failed tag asked ∷ after_it)
    (heard_at d (length p.b) (used (opened tag asked Stage.Received) p.n p.k) Heard.Failed false)
err_at P s acts before tag (SentCommand.Known c) after_it d h p =
    let u : Use = used (opened tag (SentCommand.Known c) Stage.Received) p.n p.k in
    subst (IsAt P s acts (before ++ failed tag (SentCommand.Known c) ∷ after_it))
    (sym (in_turn d (length p.b) u Heard.Failed false (never (has_turn (SentCommand.Known c)) (list_any waits (take (length p.b) d.uses)))))
    (err_stays P s acts before tag (SentCommand.Known c) after_it d h p)
err_at P s acts before tag SentCommand.Asking after_it d h p = err_stays P s acts before tag SentCommand.Asking after_it d h p
err_at P s acts before tag (SentCommand.Foreign line) after_it d h p =
    foreign_err (is_out_of_turn d.uses (length p.b) (used (opened tag (SentCommand.Foreign line) Stage.Received) p.n p.k) Heard.Failed) P s acts before
    tag line after_it d h p

-- an error of a command
pub errs : (P : Tag → Bool) (s : Selected) (acts : List Act) (before : List Shape) (tag : Tag) (asked : SentCommand) (after_it : List Shape)
    (d : Dialogue) (code : ℕ) (name : Option Kind) → IsTag tag → HaveOthers tag before
    → IsAt P s acts (before ++ opened tag asked Stage.Received ∷ after_it) d
    → IsAt P s acts (before ++ failed tag asked ∷ after_it) (after d (server_line (reply_text (Reply.Error tag code name))))
errs P s acts before tag asked after_it d code name room others h =
    let x : Shape = opened tag asked Stage.Received in
    let p : Split before x after_it d.uses = split before x after_it d.uses h.shaped in
    subst (IsAt P s acts (before ++ failed tag asked ∷ after_it))
    (sym (said_is d (Reply.Error tag code name) room
    ∙ heard_here d (reply_text (Reply.Error tag code name)) before x after_it Error others p))
    (err_at P s acts before tag asked after_it d h p)

end_tells : (P : Tag → Bool) (so_far : List Reported) (acts : List Act) (k : Known) (tag : Tag) (asked : SentCommand) → Tells P so_far acts
    → Tells P (so_far ++ reported_by k tag asked (Shape.stage (failed tag asked)) Heard.Complete) acts
end_tells P so_far acts k tag (SentCommand.Known c) h = tells_same P so_far acts h
end_tells P so_far acts k tag SentCommand.Asking h = tells_same P so_far acts h
end_tells P so_far acts k (Std n) (SentCommand.Foreign line) h = tells_same P so_far acts h
end_tells P so_far acts k (Event n) (SentCommand.Foreign line) h = tells_same P so_far acts h

-- the end of a command that has failed
pub ends_failed : (P : Tag → Bool) (s : Selected) (acts : List Act) (before : List Shape) (tag : Tag) (asked : SentCommand)
    (after_it : List Shape) (d : Dialogue) → IsTag tag → HaveOthers tag before → IsAt P s acts (before ++ failed tag asked ∷ after_it) d
    → IsAt P s acts (before ++ after_it) (after d (server_line (reply_text (Reply.Done tag))))
ends_failed P s acts before tag asked after_it d room others h =
    let x : Shape = failed tag asked in
    let p : Split before x after_it d.uses = split before x after_it d.uses h.shaped in
    let u : Use = used x p.n p.k in
    subst (IsAt P s acts (before ++ after_it))
    (sym (said_is d (Reply.Done tag) room
    ∙ (heard_here d (reply_text (Reply.Done tag)) before x after_it Done others p
    ∙ in_turn d (length p.b) u Heard.Complete true (never (has_turn asked) (list_any waits (take (length p.b) d.uses))))))
    (ends_at P s acts before x after_it d Heard.Complete h p refl (end_tells P d.reported acts _ tag asked h.tells))

-- the lines of a failure
abbrev pub says_failure : Dialogue → Tag → ℕ → Option Kind → Dialogue
says_failure d tag code name =
    after (after d (server_line (reply_text (Reply.Error tag code name)))) (server_line (reply_text (Reply.Done tag)))

-- a command fails: it is open no more
pub fails_here : (P : Tag → Bool) (s : Selected) (acts : List Act) (before : List Shape) (tag : Tag) (asked : SentCommand)
    (after_it : List Shape) (d : Dialogue) (code : ℕ) (name : Option Kind) → IsTag tag → HaveOthers tag before
    → IsAt P s acts (before ++ opened tag asked Stage.Received ∷ after_it) d
    → IsAt P s acts (before ++ after_it) (says_failure d tag code name)
fails_here P s acts before tag asked after_it d code name room others h =
    ends_failed P s acts before tag asked after_it (after d (server_line (reply_text (Reply.Error tag code name)))) room others
    (errs P s acts before tag asked after_it d code name room others h)

-- both lines of a failure are for the command
pub fails_heard : (P : Tag → Bool) (s : Selected) (acts : List Act) (before : List Shape) (tag : Tag) (asked : SentCommand)
    (after_it : List Shape) (d : Dialogue) (code : ℕ) (name : Option Kind) → IsTag tag → HaveOthers tag before
    → IsAt P s acts (before ++ opened tag asked Stage.Received ∷ after_it) d
    → IsHeard d.uses (response_of (reply_text (Reply.Error tag code name)))
    × IsHeard (after d (server_line (reply_text (Reply.Error tag code name)))).uses (response_of (reply_text (Reply.Done tag)))
fails_heard P s acts before tag asked after_it d code name room others h = (
  heard_there d (Reply.Error tag code name) before (opened tag asked Stage.Received) after_it room refl h.shaped,
  heard_there (after d (server_line (reply_text (Reply.Error tag code name)))) (Reply.Done tag) before (failed tag asked) after_it room refl
      (errs P s acts before tag asked after_it d code name room others h).shaped,
)

-- ---- the first of the open commands

first_split : (x : Shape) (after_it : List Shape) (us : List Use) → (p : Split [] x after_it us) → p.b ≡ []
first_split x after_it us p = none_shaped p.b p.front

-- what runs fails
pub stops : (P : Tag → Bool) (s new : Selected) (acts : List Act) (tag : Tag) (c : Command) (after_it : List Shape) (d : Dialogue) (code : ℕ)
    (name : Option Kind) → IsTag tag
    → ((n : ℕ) (k : Known) → IsSo s k
    → IsSo new (all_renewed (Mark n Heard.Failed) (below (Some (pending n Stage.Received)) (SentCommand.Known c) k)))
    → IsAt P s acts (opened tag (SentCommand.Known c) Stage.Received ∷ after_it) d
    → IsAt P new acts (failed tag (SentCommand.Known c) ∷ after_it) (after d (server_line (reply_text (Reply.Error tag code name))))
stops P s new acts tag c after_it d code name room so h =
    let x : Shape = opened tag (SentCommand.Known c) Stage.Received in
    let p : Split [] x after_it d.uses = split [] x after_it d.uses h.shaped in
    let u : Use = used x p.n p.k in
    subst (IsAt P new acts (failed tag (SentCommand.Known c) ∷ after_it))
    (sym (said_is d (Reply.Error tag code name) room
    ∙ (heard_here d (reply_text (Reply.Error tag code name)) [] x after_it Error tt p
    ∙ in_turn d (length p.b) u Heard.Failed false (first_turn d p.b u Heard.Failed (first_split x after_it d.uses p)))))
    (stops_at P s new acts tag c after_it d h p so (failed_tells P d.reported acts nothing tag (SentCommand.Known c) h.tells))

pub fails_first : (P : Tag → Bool) (s new : Selected) (acts : List Act) (tag : Tag) (c : Command) (after_it : List Shape) (d : Dialogue) (code : ℕ)
    (name : Option Kind) → IsTag tag
    → ((n : ℕ) (k : Known) → IsSo s k
    → IsSo new (all_renewed (Mark n Heard.Failed) (below (Some (pending n Stage.Received)) (SentCommand.Known c) k)))
    → IsAt P s acts (opened tag (SentCommand.Known c) Stage.Received ∷ after_it) d
    → IsAt P new acts after_it (says_failure d tag code name)
fails_first P s new acts tag c after_it d code name room so h =
    ends_failed P new acts [] tag (SentCommand.Known c) after_it (after d (server_line (reply_text (Reply.Error tag code name)))) room tt
    (stops P s new acts tag c after_it d code name room so h)

-- it is done, with what is reported
pub ends_first : (P : Tag → Bool) (s new : Selected) (acts done : List Act) (tag : Tag) (c : Command) (at_stage : Stage) (after_it : List Shape)
    (d : Dialogue) → IsTag tag
    → ((n : ℕ) (k : Known) → IsSo s k → IsSo new (all_renewed (Mark n Heard.Complete) (below (Some (pending n at_stage)) (SentCommand.Known c) k)))
    → ((k : Known) → IsSo s k → Tells P (d.reported ++ reported_by k tag (SentCommand.Known c) at_stage Heard.Complete) done)
    → IsAt P s acts (opened tag (SentCommand.Known c) at_stage ∷ after_it) d
    → IsAt P new done after_it (after d (server_line (reply_text (Reply.Done tag))))
ends_first P s new acts done tag c at_stage after_it d room so tells h =
    let x : Shape = opened tag (SentCommand.Known c) at_stage in
    let p : Split [] x after_it d.uses = split [] x after_it d.uses h.shaped in
    let u : Use = used x p.n p.k in
    subst (IsAt P new done after_it)
    (sym (said_is d (Reply.Done tag) room
    ∙ (heard_here d (reply_text (Reply.Done tag)) [] x after_it Done tt p
    ∙ in_turn d (length p.b) u Heard.Complete true (first_turn d p.b u Heard.Complete (first_split x after_it d.uses p)))))
    (done_at P s new acts done tag c at_stage after_it d h p so
    (tells _ (known_first P s acts x after_it d Heard.Complete h p (first_split x after_it d.uses p) refl)))

-- ---- its data

given_becomes : (n : ℕ) (e : Datum)
    → Becomes (renewed (Mark n (Heard.Given e)) (pending n Stage.Received)) (pending n (Stage.Given e))
given_becomes n e =
    inl (if_true (n == n) (with_mark (pending n Stage.Received) Progress.Begun (Heard.Given e))
    (unless_refused (pending n Stage.Received) n (Heard.Given e)) (eq-eqb n n refl))

given_step : (tag : Tag) (c : Command) (n : ℕ) (k : Known) (e : Datum)
    → IsStep (Mark n (Heard.Given e)) (used (opened tag (SentCommand.Known c) Stage.Received) n k)
    (own (opened tag (SentCommand.Known c) Stage.Received) n k (Heard.Given e))
given_step tag c n k e = record {
  waiting = λ o. refl;
  known = λ o. within_renewed (Mark n (Heard.Given e)) _ k (answer_within k);
  next = λ l. below_renewed (Mark n (Heard.Given e)) (pending n Stage.Received) (pending n (Stage.Given e)) (SentCommand.Known c) l (given_becomes n e);
}

-- data of the first command, as they are heard
gives : (P : Tag → Bool) (s : Selected) (acts : List Act) (tag : Tag) (c : Command) (after_it : List Shape) (d : Dialogue) (reply : Reply)
    (signal : Signal) (e : Datum) → after d (server_line (reply_text reply))
    ≡ heard_under d (reply_text reply) tag signal (first_under tag d.uses)
    → heard_as (SentCommand.Known c) signal ≡ Heard.Given e → is_end signal ≡ false
    → IsAt P s acts (opened tag (SentCommand.Known c) Stage.Received ∷ after_it) d
    → IsAt P s acts (opened tag (SentCommand.Known c) (Stage.Given e) ∷ after_it) (after d (server_line (reply_text reply)))
gives P s acts tag c after_it d reply signal e is heard_is ends h =
    let x : Shape = opened tag (SentCommand.Known c) Stage.Received in
    let p : Split [] x after_it d.uses = split [] x after_it d.uses h.shaped in
    let u : Use = used x p.n p.k in
    subst (IsAt P s acts (opened tag (SentCommand.Known c) (Stage.Given e) ∷ after_it))
    (sym (is
    ∙ (heard_here d (reply_text reply) [] x after_it signal tt p
    ∙ (ap (λ g. heard_at d (length p.b) u g (is_end signal)) heard_is
    ∙ (ap (heard_at d (length p.b) u (Heard.Given e)) ends
    ∙ in_turn d (length p.b) u (Heard.Given e) false (first_turn d p.b u (Heard.Given e) (first_split x after_it d.uses p)))))))
    (stays_at P s acts [] x after_it d (Heard.Given e) h p (given_step tag c p.n p.k e) (tells_same P d.reported acts h.tells))

pub homed_given : (P : Tag → Bool) (s : Selected) (acts : List Act) (tag : Tag) (after_it : List Shape) (d : Dialogue) (homed : Bool) → IsTag tag
    → IsAt P s acts (opened tag (SentCommand.Known Command.IsHomed) Stage.Received ∷ after_it) d
    → IsAt P s acts (opened tag (SentCommand.Known Command.IsHomed) (Stage.Given (Datum.Homed homed)) ∷ after_it)
    (after d (server_line (reply_text (Reply.Given tag (Datum.Homed homed)))))
homed_given P s acts tag after_it d homed room h =
    gives P s acts tag Command.IsHomed after_it d (Reply.Given tag (Datum.Homed homed))
    (Given (point_of (written_homed homed)) (homed_of (written_homed homed))) (Datum.Homed homed)
    (said_is d (Reply.Given tag (Datum.Homed homed)) (room, tt)) (ap given_homed (homed_read homed)) refl h

pub point_given : (P : Tag → Bool) (s : Selected) (acts : List Act) (tag : Tag) (p : Point) (dir : Option Direction) (after_it : List Shape)
    (d : Dialogue) (at : Point) → IsTag tag → IsOnWire at
    → IsAt P s acts (opened tag (SentCommand.Known (Command.PtMeas p dir)) Stage.Received ∷ after_it) d
    → IsAt P s acts (opened tag (SentCommand.Known (Command.PtMeas p dir)) (Stage.Given (Datum.Point at)) ∷ after_it)
    (after d (server_line (reply_text (Reply.Given tag (Datum.Point at)))))
point_given P s acts tag p dir after_it d at room wire h =
    gives P s acts tag (Command.PtMeas p dir) after_it d (Reply.Given tag (Datum.Point at))
    (Given (point_of (written_point at)) (homed_of (written_point at))) (Datum.Point at)
    (said_is d (Reply.Given tag (Datum.Point at)) (room, wire)) (ap given_point (point_read at wire)) refl h
