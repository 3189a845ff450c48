-- What a witness reports after every list of calls of a client.
use Rattle.witness_laws.proofs.Names.{◌&&◌, ◌++◌, ◌+◌, ◌==◌, ◌||◌, ◌∙◌, ◌∷◌, ◌≡◌, ◌≤◌, [], Ack, all_renewed, and_parts, answered, ap, append-nil, append_assoc}
use Rattle.witness_laws.proofs.Names.{AreCounted, arith, asks_data, at_once, below_command, Bool, Cause, client_connected, client_hears, client_left}
use Rattle.witness_laws.proofs.Names.{client_lines, client_restarted, client_resumed, client_sent, ClientEnd, Command, command_read, command_texts}
use Rattle.witness_laws.proofs.Names.{cond, count_open, Datum, Dialogue, due, Err, false, false≢true, Fault, faulting, Feature, foreign_event}
use Rattle.witness_laws.proofs.Names.{FramingFault, Front, front_read, Given, given_under, HasNoAbort, HaveArguments, heard_as, heard_event, heard_in}
use Rattle.witness_laws.proofs.Names.{heard_on, heard_standard, heard_under, held_now, held_under, homed_of, is_end, is_event_kind, is_held}
use Rattle.witness_laws.proofs.Names.{is_report, is_some, IsWritable, Kind, kind_of, Known, last_under, later, length, Line, line_read, LineFault}
use Rattle.witness_laws.proofs.Names.{List, list_any, map, may_abort, ne_eqb, new_client_end, next_number, next_of, None, not, not-true, nothing}
use Rattle.witness_laws.proofs.Names.{NotHomedText, NotPoint, NotResponse, Ok, OpenCommand, Option, plan, plan_arguments, plan_no_abort, Planned}
use Rattle.witness_laws.proofs.Names.{Point, point_of, Progress, refl, Reported, Response, response_of, response_read, Result, said_all, sending}
use Rattle.witness_laws.proofs.Names.{sending_after, sends_abort, sends_next, sent, server_answered, server_front, Signal, signal_of, silence, Some}
use Rattle.witness_laws.proofs.Names.{Stage, standard_kind, Start, State, subst, suc, sym, Table, Tag, tag_is, tag_is-true, Tally, true, Use}
use Rattle.witness_laws.proofs.Names.{use_renewed, waits, with_event, written_command, zero, ℕ}
use Rattle.dme_line.specs.declared.responses.Mark.{Mark as Marked}
use Rattle.protocol_model.specs.Replies.{Mark}
use Rattle.protocol_model.specs.Open.{Heard as Heardings}
use Rattle.protocol_model.specs.Client.{Client, faulted, client_read}
use Rattle.protocol_model.specs.Ends.{given_point, given_homed, given_for}
use Rattle.protocol_model.proofs.table.NextNumber.{drawn_free, drawn_within}
use Rattle.witness.specs.Asking.{Done}
use Rattle.witness.specs.declared.lines.SentCommand.TheVariants.{Known as Sends}
use Rattle.dmis_program.specs.Meaning.{Meaning}
use Rattle.dmis_program.specs.Programs.{IsProgram}
use Rattle.client_core.specs.Calls.{Call, Connected, Send, Feed, ReadOne, Abort, Resume, Leave, Restart, Sent, possible, done_by, behind_call, behind_calls}
use Rattle.client_core.specs.Calls.{client_behind, Plans, plans_begun}
use Rattle.client_core.specs.Clients.{are_ours, is_faulted, may_read}
use Rattle.client_core.proofs.Fits.{both}
use Rattle.client_core.proofs.Fronts.{live_kinds, IsAskedLast}
use Rattle.client_core.proofs.Fronts as fronts
use Rattle.client_core.proofs.Runs.{Holds, behind_holds, IsOnPlan, on_unless_off, due_running, resumed_state}
use Rattle.witness.specs.Asking as asking
use Rattle.witness.specs.Marks as marks
use Rattle.witness_laws.specs.Acts.{all_done, BeginsWith, Claims, BeginsToClaim}
use Rattle.witness_laws.specs.Lines.{witnessed_by, witnessed_call, witnessed, is_unasked, unasked_front, unasked_by, unasked_call}
use Rattle.witness_laws.specs.Lines as lines
use Rattle.witness_laws.specs.Lines.{IsOurClient}
use Rattle.witness_laws.specs.Lines.IsOurClient.{our_client}
use Rattle.witness_laws.proofs.client.Cuts.{entry, picks, picks_in, picks_out, picks_more, has_tag}
use Rattle.witness_laws.proofs.client.Knowing.{Selected, none_selected, selected_after, plan_agrees}
use Rattle.witness_laws.proofs.client.Marks.{heard_of, ends}
use Rattle.witness_laws.proofs.client.Agreeing.{is_standard, is_event, IsOurs, AreOurs, live, live_in, live_out, live_more, renewed_ours, picks_renewed}
use Rattle.witness_laws.proofs.client.Agreeing.{live_renewed, live_none, event_rests, standard_waits, live_are, no_kinds, not_held, commands_of, selected_past}
use Rattle.witness_laws.proofs.client.Agreeing.{selected_all, selected_join, selected_renewed, past_none, past_one, KnowsIf, AreKnown, known_join, known_moved}
use Rattle.witness_laws.proofs.client.Agreeing.{none_known, none_past, IsNext, AgreesOn}
use Rattle.witness_laws.proofs.client.Claiming.{Begins, begins_all, begins_with, begins_to_claim, claims_same}
use Rattle.witness_laws.proofs.client.Growing.{Grows, grows_not, answer_grows, begins_still, begins_after}
use Rattle.witness_laws.proofs.client.Holding.{progress_sent, IsFine, fine_more, Holds as HoldsFor, none_held, holds_moved, holds_stays, holds_below, fault_moves}
use Rattle.witness_laws.proofs.client.Steps.{standard_agrees, event_agrees}
use Rattle.witness_laws.proofs.orders.Marks.{nowhere}
use Rattle.witness_laws.proofs.orders.Counts.{renewed_counted, bound, none_above, one_counted, each_more}

-- ---- what holds at any time

-- what is reported begins with what is counted; on a connection, until it is Faulted, the two agree
pub record IsSeen (lossy : Bool) (c : Client) (d : Dialogue) : Type 0 where
  pub begins : Begins lossy c.table.tally.counted d.reported
  pub agrees : c.on ≡ true → is_faulted c.state ≡ false → AgreesOn lossy c.table d

fault_seen : (lossy : Bool) (cause : Cause) (c : Client) (d e : Dialogue) → IsSeen lossy c d → Grows d e → IsSeen lossy (faulted cause c) e
fault_seen lossy cause c d e h g = record {
  begins = begins_still lossy c.table.tally.counted d e (IsSeen.begins h) g;
  agrees = λ on fine. absurd (false≢true (sym fine));
}

-- a client that is on a connection and not Faulted, and what holds of its plan
record IsReading (lossy : Bool) (c : Client) (d : Dialogue) : Type 0 where
  seen : IsSeen lossy c d
  agrees : AgreesOn lossy c.table d
  plan_is : (plans : Plans) × IsOnPlan c.program c.table.standard c.table.tally plans

now_seen : (lossy : Bool) (c : Client) (d : Dialogue) → AgreesOn lossy c.table d → IsSeen lossy c d
now_seen lossy c d a = record {
  begins = begins_all lossy c.table.tally.counted d.reported (AgreesOn.exact a) (AgreesOn.claims a);
  agrees = λ on fine. a;
}

-- ---- a line that belongs to no command

next_faulted : (lossy : Bool) (d : Dialogue) (y : Tally) (report : Reported) → IsNext lossy d y → IsNext true (faulting d report) y
next_faulted lossy d y report n = record {
  base = IsNext.base n;
  commands = ap (λ (l : List Command). l ++ commands_of y.unsent) (live_renewed (all_renewed Fault) d.uses) ∙ IsNext.commands n;
  agrees = IsNext.agrees n;
  known = known_moved lossy true d.uses now (all_renewed Fault) (IsNext.base n) d.uses moved (IsNext.known n);
  last = subst (λ (v : Selected). HoldsFor true now d.lines v (all_renewed Fault d.known))
      (sym (selected_renewed (all_renewed Fault) (IsNext.base n) d.uses))
      (moved d.lines (selected_all (IsNext.base n) d.uses) d.known (IsNext.last n));
}
  where
    now : List Use
    now = map (use_renewed (all_renewed Fault)) d.uses

    moved : (top : ℕ) (v : Selected) (k : Known) → HoldsFor lossy d.uses top v k
        → HoldsFor true (map (use_renewed (all_renewed Fault)) d.uses) top v (all_renewed Fault k)
    moved top v k = holds_moved lossy true d.uses (map (use_renewed (all_renewed Fault)) d.uses) top Fault v k
        (fault_moves lossy d.uses top)

unasked_agrees : (lossy : Bool) (b : Table) (d : Dialogue) (line : List ℕ) → AgreesOn lossy b d
    → AgreesOn true b (faulting d (Reported.Unasked line))
unasked_agrees lossy b d line a = record {
  ours = renewed_ours (all_renewed Fault) d.uses (AgreesOn.ours a);
  rising = renewed_counted (all_renewed Fault) 0 d.uses d.lines (AgreesOn.rising a);
  straight = AgreesOn.straight a;
  events = AgreesOn.events a;
  standard = picks_renewed is_standard (all_renewed Fault) d.uses ∙ AgreesOn.standard a;
  event = picks_renewed is_event (all_renewed Fault) d.uses ∙ AgreesOn.event a;
  exact = λ e. absurd (false≢true (sym e));
  claims = claims_same b.tally.counted d.reported (Reported.Unasked line ∷ []) (AgreesOn.claims a) refl;
  arguments = AgreesOn.arguments a;
  no_abort = AgreesOn.no_abort a;
  calm = λ calm. next_faulted lossy d b.tally (Reported.Unasked line) (AgreesOn.calm a calm);
}

-- no use is under the event tag of number 0, and no report by event is
none_zero : (us : List Use) → AreOurs us → list_any (has_tag (Tag.Event 0)) us ≡ false
none_zero [] h = refl
none_zero (u ∷ us) h = ap (λ (b : Bool). b || list_any (has_tag (Tag.Event 0)) us) (IsOurs.some h.0) ∙ none_zero us h.1

no_report : (signal : Signal) (events : List ℕ) → list_any (λ (m : ℕ). m == 0) events ≡ false → is_report (Tag.Event 0) signal events ≡ false
no_report Ack events none = refl
no_report (Given p homed) events none = none
no_report Done events none = refl
no_report asking.Error events none = refl

zero_is : (lossy : Bool) (b : Table) (d : Dialogue) (line : List ℕ) (signal : Signal) → AgreesOn lossy b d
    → server_answered d line (Some (Tag.Event 0, signal)) ≡ faulting d (Reported.Unasked line)
zero_is lossy b d line signal a =
    ap (heard_under d line (Tag.Event 0) signal) (nowhere (has_tag (Tag.Event 0)) d.uses (none_zero d.uses (AgreesOn.ours a)))
    ∙ ap (λ (x : Bool). cond x d (faulting d (Reported.Unasked line))) (no_report signal d.events (AgreesOn.events a))

zero_seen : (lossy : Bool) (c : Client) (d : Dialogue) (line : List ℕ) (x : Tag) (signal : Signal) → tag_is x (Tag.Event 0) ≡ true
    → AgreesOn lossy c.table d → IsSeen true c (server_answered d line (Some (x, signal)))
zero_seen lossy c d line x signal same a =
    subst (λ (y : Tag). IsSeen true c (server_answered d line (Some (y, signal)))) (sym (tag_is-true x (Tag.Event 0) same))
    (subst (IsSeen true c) (sym (zero_is lossy c.table d line signal a))
    (now_seen true c (faulting d (Reported.Unasked line)) (unasked_agrees lossy c.table d line a)))

zero_read : (c : Client) (x : Tag) (m : Marked) → tag_is x (Tag.Event 0) ≡ true → response_read c x m ≡ c
zero_read c x Marked.Ack same = ap (λ (b : Bool). cond b c (client_hears c x Mark.Ack (heard_on c.program.features c.table x Mark.Ack))) same
zero_read c x Marked.Done same = ap (λ (b : Bool). cond b c (client_hears c x Mark.Done (heard_on c.program.features c.table x Mark.Done))) same
zero_read c x (Marked.Error text) same =
    ap (λ (b : Bool). cond b c (client_hears c x Mark.Error (heard_on c.program.features c.table x Mark.Error))) same
zero_read c x (Marked.Given text) same = ap (λ (b : Bool). cond b c (given_under c x text (held_under x c))) same

-- ---- what is read

-- what is read of the line as a mark of the command that is held under its tag
record ReadsUnder (x : Tag) (c : Client) (signal : Signal) (m : Mark) : Type 0 where
  heard : (k : Command) → held_under x c ≡ Some (kind_of k) → heard_as (Sends k) signal ≡ heard_of m
  ended : is_end signal ≡ ends m

asked_last_of : (lossy : Bool) (c : Client) (d : Dialogue) → IsReading lossy c d → c.table.tally.failed ≡ false
    → IsAskedLast (live_kinds c.table.standard)
asked_last_of lossy c d r calm =
    let on : IsOnPlan c.program c.table.standard c.table.tally (IsReading.plan_is r).0 = (IsReading.plan_is r).1 in
    let last = on.calm calm in last.asked_last

standard_hears : (lossy : Bool) (c : Client) (d : Dialogue) (line : List ℕ) (n : ℕ) (signal : Signal) (m : Mark) → IsReading lossy c d
    → ReadsUnder (Tag.Std n) c signal m → (r : Heardings) → heard_in (not c.table.tally.failed) c.table.standard (Tag.Std n) m ≡ r
    → IsSeen lossy (client_hears c (Tag.Std n) m (heard_standard c.program.features c.table r))
    (server_answered d line (Some (Tag.Std n, signal)))
standard_hears lossy c d line n signal m h reads (Ok (hs, e)) is =
    let on : IsOnPlan c.program c.table.standard c.table.tally (IsReading.plan_is h).0 = (IsReading.plan_is h).1 in
    now_seen lossy (client_hears c (Tag.Std n) m (heard_standard c.program.features c.table (Ok (hs, e)))) _
    (standard_agrees lossy c.program.features c.table d line n m signal hs e is
    (record { heard = ReadsUnder.heard reads; ended = ReadsUnder.ended reads }) on.filled (asked_last_of lossy c d h) (IsReading.agrees h))
standard_hears lossy c d line n signal m h reads (Err cause) is = fault_seen lossy cause c d _ (IsReading.seen h)
    (answer_grows d line (Some (Tag.Std n, signal)))

event_hears : (lossy : Bool) (c : Client) (d : Dialogue) (line : List ℕ) (n : ℕ) (signal : Signal) (m : Mark) → IsReading lossy c d
    → ReadsUnder (Tag.Event n) c signal m → (r : Heardings) → heard_in true c.table.event (Tag.Event n) m ≡ r
    → IsSeen lossy (client_hears c (Tag.Event n) m (heard_event c.table r)) (server_answered d line (Some (Tag.Event n, signal)))
event_hears lossy c d line n signal m h reads (Ok (hs, e)) is =
    now_seen lossy (client_hears c (Tag.Event n) m (heard_event c.table (Ok (hs, e)))) _
    (event_agrees lossy c.table d line n m signal hs e is (record { heard = ReadsUnder.heard reads; ended = ReadsUnder.ended reads })
    (IsReading.agrees h))
event_hears lossy c d line n signal m h reads (Err cause) is = fault_seen lossy cause c d _ (IsReading.seen h)
    (answer_grows d line (Some (Tag.Event n, signal)))

reply_seen : (lossy : Bool) (c : Client) (d : Dialogue) (line : List ℕ) (x : Tag) (signal : Signal) (m : Mark) → IsReading lossy c d
    → tag_is x (Tag.Event 0) ≡ false → ReadsUnder x c signal m → IsSeen lossy (client_read c x m) (server_answered d line (Some (x, signal)))
reply_seen lossy c d line (Tag.Std n) signal m h other reads = standard_hears lossy c d line n signal m h reads
    (heard_in (not c.table.tally.failed) c.table.standard (Tag.Std n) m) refl
reply_seen lossy c d line (Tag.Event n) signal m h other reads =
    subst (λ (b : Bool). IsSeen lossy (cond b c (client_hears c (Tag.Event n) m
    (heard_event c.table (heard_in true c.table.event (Tag.Event n) m)))) (server_answered d line (Some (Tag.Event n, signal)))) (sym other)
    (event_hears lossy c d line n signal m h reads (heard_in true c.table.event (Tag.Event n) m) refl)

same_kind : (k l : Kind) → ◌≡◌ {A = Option Kind} (Some k) (Some l) → l ≡ k
same_kind k l e = cc

point_seen : (lossy : Bool) (c : Client) (d : Dialogue) (line : List ℕ) (x : Tag) (homed : Result Bool NotHomedText) → IsReading lossy c d
    → tag_is x (Tag.Event 0) ≡ false → held_under x c ≡ Some Kind.PtMeas → (r : Result Point NotPoint)
    → IsSeen lossy (given_point c x r) (server_answered d line (Some (x, Given r homed)))
point_seen lossy c d line x homed h other held (Ok p) =
    reply_seen lossy c d line x (Given (Ok p) homed) (Mark.Given (Datum.Point p)) h other (record {
      heard = λ k e. ap (λ (j : Kind). marks.given_for j (Ok p) homed) (same_kind Kind.PtMeas (kind_of k) (sym held ∙ e));
      ended = refl;
    })
point_seen lossy c d line x homed h other held (Err why) = fault_seen lossy Cause.NotResponse c d _ (IsReading.seen h)
    (answer_grows d line (Some (x, Given (Err why) homed)))

homed_seen : (lossy : Bool) (c : Client) (d : Dialogue) (line : List ℕ) (x : Tag) (p : Result Point NotPoint) → IsReading lossy c d
    → tag_is x (Tag.Event 0) ≡ false → held_under x c ≡ Some Kind.IsHomed → (r : Result Bool NotHomedText)
    → IsSeen lossy (given_homed c x r) (server_answered d line (Some (x, Given p r)))
homed_seen lossy c d line x p h other held (Ok homed) =
    reply_seen lossy c d line x (Given p (Ok homed)) (Mark.Given (Datum.Homed homed)) h other (record {
      heard = λ k e. ap (λ (j : Kind). marks.given_for j p (Ok homed)) (same_kind Kind.IsHomed (kind_of k) (sym held ∙ e));
      ended = refl;
    })
homed_seen lossy c d line x p h other held (Err why) = fault_seen lossy Cause.NotResponse c d _ (IsReading.seen h)
    (answer_grows d line (Some (x, Given p (Err why))))

-- data that the command does not ask for
stray_seen : (lossy : Bool) (cause : Cause) (c : Client) (d : Dialogue) (line : List ℕ) (x : Tag) (text : List ℕ) → IsReading lossy c d
    → IsSeen lossy (faulted cause c) (server_answered d line (Some (x, signal_of (Marked.Given text))))
stray_seen lossy cause c d line x text h = fault_seen lossy cause c d _ (IsReading.seen h)
    (answer_grows d line (Some (x, signal_of (Marked.Given text))))

data_seen : (lossy : Bool) (c : Client) (d : Dialogue) (line : List ℕ) (x : Tag) (text : List ℕ) → IsReading lossy c d
    → tag_is x (Tag.Event 0) ≡ false → (k : Kind) → held_under x c ≡ Some k
    → IsSeen lossy (given_for c x text k) (server_answered d line (Some (x, signal_of (Marked.Given text))))
data_seen lossy c d line x text h other Kind.PtMeas held = point_seen lossy c d line x (homed_of text) h other held (point_of text)
data_seen lossy c d line x text h other Kind.IsHomed held = homed_seen lossy c d line x (point_of text) h other held (homed_of text)
data_seen lossy c d line x text h other Kind.StartSession held = stray_seen lossy Cause.OutOfOrder c d line x text h
data_seen lossy c d line x text h other Kind.EndSession held = stray_seen lossy Cause.OutOfOrder c d line x text h
data_seen lossy c d line x text h other Kind.ClearAllErrors held = stray_seen lossy Cause.OutOfOrder c d line x text h
data_seen lossy c d line x text h other Kind.Home held = stray_seen lossy Cause.OutOfOrder c d line x text h
data_seen lossy c d line x text h other Kind.OnPtMeasReport held = stray_seen lossy Cause.OutOfOrder c d line x text h
data_seen lossy c d line x text h other Kind.GoTo held = stray_seen lossy Cause.OutOfOrder c d line x text h
data_seen lossy c d line x text h other Kind.ChangeTool held = stray_seen lossy Cause.OutOfOrder c d line x text h
data_seen lossy c d line x text h other Kind.SetCsyTransformation held = stray_seen lossy Cause.OutOfOrder c d line x text h
data_seen lossy c d line x text h other Kind.SetCoordSystem held = stray_seen lossy Cause.OutOfOrder c d line x text h
data_seen lossy c d line x text h other Kind.AbortE held = stray_seen lossy Cause.OutOfOrder c d line x text h

given_seen : (lossy : Bool) (c : Client) (d : Dialogue) (line : List ℕ) (x : Tag) (text : List ℕ) → IsReading lossy c d
    → tag_is x (Tag.Event 0) ≡ false → (held : Option Kind) → held_under x c ≡ held
    → IsSeen lossy (given_under c x text held) (server_answered d line (Some (x, signal_of (Marked.Given text))))
given_seen lossy c d line x text h other None is = stray_seen lossy Cause.UnknownTag c d line x text h
given_seen lossy c d line x text h other (Some k) is = data_seen lossy c d line x text h other k is

response_seen : (lossy : Bool) (c : Client) (d : Dialogue) (line : List ℕ) (x : Tag) (m : Marked) → IsReading lossy c d
    → tag_is x (Tag.Event 0) ≡ false → IsSeen lossy (response_read c x m) (server_answered d line (Some (x, signal_of m)))
response_seen lossy c d line x Marked.Ack h other =
    reply_seen lossy c d line x (signal_of Marked.Ack) Mark.Ack h other (record { heard = λ k e. refl; ended = refl })
response_seen lossy c d line x Marked.Done h other =
    reply_seen lossy c d line x (signal_of Marked.Done) Mark.Done h other (record { heard = λ k e. refl; ended = refl })
response_seen lossy c d line x (Marked.Error text) h other =
    reply_seen lossy c d line x (signal_of (Marked.Error text)) Mark.Error h other (record { heard = λ k e. refl; ended = refl })
response_seen lossy c d line x (Marked.Given text) h other =
    subst (λ (b : Bool). IsSeen lossy (cond b c (given_under c x text (held_under x c)))
    (server_answered d line (Some (x, signal_of (Marked.Given text))))) (sym other)
    (given_seen lossy c d line x text h other (held_under x c) refl)

or_true : (b : Bool) → (b || true) ≡ true
or_true true = refl
or_true false = refl

or_false : (b : Bool) → (b || false) ≡ b
or_false true = refl
or_false false = refl

line_seen : (lossy : Bool) (c : Client) (d : Dialogue) (line : List ℕ) → IsReading lossy c d → (r : Result Response NotResponse)
    → IsSeen (lossy || is_unasked r) (line_read c r) (server_answered d line (answered r))
line_seen lossy c d line h (Err why) =
    subst (λ (b : Bool). IsSeen b (faulted Cause.NotResponse c) (server_answered d line None)) (sym (or_false lossy))
    (fault_seen lossy Cause.NotResponse c d _ (IsReading.seen h) (answer_grows d line None))
line_seen lossy c d line h (Ok r) = go (tag_is r.tag (Tag.Event 0)) refl
  where
    go : (b : Bool) → tag_is r.tag (Tag.Event 0) ≡ b
        → IsSeen (lossy || b) (response_read c r.tag r.mark) (server_answered d line (Some (r.tag, signal_of r.mark)))
    go true same =
        subst (λ (b : Bool). IsSeen b (response_read c r.tag r.mark) (server_answered d line (Some (r.tag, signal_of r.mark)))) (sym (or_true lossy))
        (subst (λ (x : Client). IsSeen true x (server_answered d line (Some (r.tag, signal_of r.mark)))) (sym (zero_read c r.tag r.mark same))
        (zero_seen lossy c d line r.tag (signal_of r.mark) same (IsReading.agrees h)))
    go false other =
        subst (λ (b : Bool). IsSeen b (response_read c r.tag r.mark) (server_answered d line (Some (r.tag, signal_of r.mark)))) (sym (or_false lossy))
        (response_seen lossy c d line r.tag r.mark h other)

front_seen : (lossy : Bool) (c : Client) (d : Dialogue) → IsReading lossy c d → (f : Front)
    → IsSeen (unasked_front lossy f) (front_read c f) (server_front d f)
front_seen lossy c d h (Ok None) = IsReading.seen h
front_seen lossy c d h (Ok (Some (line, rest))) = line_seen lossy c d line h (response_of line)
front_seen lossy c d h (Err FramingFault.LineTooLong) = fault_seen lossy Cause.LineTooLong c d d (IsReading.seen h) (grows_not d d refl)
front_seen lossy c d h (Err FramingFault.BadByte) = fault_seen lossy Cause.BadByte c d d (IsReading.seen h) (grows_not d d refl)

-- ---- what is written

-- a use of a command that was just sent
abbrev pub used : Dialogue → Tag → Command → Use
used d x c = record {
  tag = x;
  command = Sends c;
  line = d.lines;
  stage = Stage.Sent;
  has_failed = false;
  rival = None;
  known = d.known;
}

pub not_foreign : (x : Tag) (c : Command) → foreign_event x (Sends c) ≡ false
not_foreign (Tag.Std n) c = refl
not_foreign (Tag.Event n) c = refl

none_under : (x : Tag) (us : List Use) → list_any (has_tag x) us ≡ false → last_under x us None ≡ None
none_under x [] free = refl
none_under x (u ∷ us) free = go (tag_is u.tag x) refl free (none_under x us)
  where
    go : (b : Bool) → tag_is u.tag x ≡ b → (b || list_any (has_tag x) us) ≡ false
        → (list_any (has_tag x) us ≡ false → last_under x us None ≡ None) → last_under x us (later x u None) ≡ None
    go true is none deeper = absurd (false≢true (sym none))
    go false is none deeper =
        ap (λ (b : Bool). last_under x us (cond b (Some (u.line, u.has_failed)) None)) is ∙ deeper none

-- a witness that reads the line of a command
pub written_is : (d : Dialogue) (x : Tag) (c : Command) → IsWritable x c → list_any (has_tag x) d.uses ≡ false
    → client_lines d (command_texts (record { tag = x; command = c } ∷ [])) ≡ sending_after d x (Sends c) None
written_is d x c w free =
    ap (λ (r : Result (Tag × Command) LineFault). client_sent d (written_command x c) (sent (written_command x c) r)) (command_read x c w)
    ∙ (ap (λ (b : Bool). cond b (sending (at_once d (written_command x c)) x (Sends c)) (sending d x (Sends c))) (not_foreign x c)
    ∙ ap (sending_after d x (Sends c)) (none_under x d.uses free))

picks_last : (test : Tag → Bool) (us : List Use) (u : Use) → test u.tag ≡ true → picks test (us ++ u ∷ []) ≡ picks test us ++ entry u ∷ []
picks_last test us u is = picks_more test us (u ∷ []) ∙ ap (λ (l : List OpenCommand). picks test us ++ l) (picks_in test u [] is)

picks_still : (test : Tag → Bool) (us : List Use) (u : Use) → test u.tag ≡ false → picks test (us ++ u ∷ []) ≡ picks test us
picks_still test us u is = picks_more test us (u ∷ [])
    ∙ (ap (λ (l : List OpenCommand). picks test us ++ l) (picks_out test u [] is) ∙ append-nil (picks test us))

sent_ours : (d : Dialogue) (x : Tag) (c : Command) → is_event_kind (kind_of c) ≡ is_event x → tag_is x (Tag.Event 0) ≡ false
    → IsOurs (used d x c)
sent_ours d x c sort some = record { command = c; sends = refl; alone = refl; lost = refl; sort = sort; some = some }

still_straight : (ordered crossed : Bool) → crossed ≡ false → (crossed || (ordered && false)) ≡ false
still_straight true crossed e = ap (λ (b : Bool). b || false) e
still_straight false crossed e = ap (λ (b : Bool). b || false) e

-- what is known of each stays as more is sent
known_stays : (lossy : Bool) (us : List Use) (u : Use) (v : Selected) (from : ℕ) (ws : List Use) → AreCounted from ws u.line
    → AreKnown lossy us v ws → AreKnown lossy (us ++ u ∷ []) v ws
known_stays lossy us u v from [] rising h = tt
known_stays lossy us u v from (w ∷ ws) rising h =
    (go (waits w) h.0, known_stays lossy us u (selected_past v w) (suc w.line) ws rising.1 h.1)
  where
    high : suc w.line ≤ u.line
    high = bound (suc w.line) ws u.line rising.1

    go : (b : Bool) → KnowsIf b lossy us v w → KnowsIf b lossy (us ++ u ∷ []) v w
    go true g = holds_stays lossy us (us ++ u ∷ []) w.line w.line v w.known
        (λ s fine. fine_more us u w.line w.line s (let near = bound (suc w.line) ws u.line rising.1 in omega (arith, near)) (omega arith) fine) g
    go false g = tt

next_stays : (lossy : Bool) (d : Dialogue) (u : Use) (top : ℕ) (v : Selected) (k : Known) → u.line ≡ d.lines → d.lines ≤ top
    → HoldsFor lossy d.uses d.lines v k → HoldsFor lossy (d.uses ++ u ∷ []) top v k
next_stays lossy d u top v k is high h = holds_stays lossy d.uses (d.uses ++ u ∷ []) d.lines top v k
    (λ s fine. fine_more d.uses u d.lines top s (omega (arith, is)) high fine) h

sent_fine : (d : Dialogue) (x : Tag) (c : Command) → AreCounted 0 d.uses d.lines → waits (used d x c) ≡ true → asks_data (kind_of c) ≡ false
    → IsFine (d.uses ++ used d x c ∷ []) (d.lines + 1) (record { line = d.lines; rival = None; progress = Progress.Sent })
sent_fine d x c rising waiting plain = record {
  alone = refl;
  below = omega arith;
  reached = progress_sent d.uses (used d x c) d.lines (none_above 0 d.uses d.lines rising) refl
      ∙ (ap (λ (b : Bool). cond (b && not (asks_data (kind_of c))) (Some Progress.Sent) None) waiting
      ∙ ap (λ (b : Bool). cond (not b) (Some Progress.Sent) None) plain);
}

-- a command of the plan is sent
next_sent : (lossy : Bool) (d : Dialogue) (y : Tally) (x : Tag) (q : Planned) (qs : List Planned) → AreCounted 0 d.uses d.lines
    → waits (used d x q.command) ≡ true → y.unsent ≡ q ∷ qs → IsNext lossy d y
    → IsNext lossy (sending_after d x (Sends q.command) None) (record y { unsent = qs })
next_sent lossy d y x q qs rising waiting is n = record {
  base = IsNext.base n;
  commands = ap (λ (l : List Command). l ++ commands_of qs)
      (live_more d.uses (u ∷ []) ∙ ap (λ (l : List Command). live d.uses ++ l) (live_in u [] waiting))
      ∙ (append_assoc (live d.uses) (q.command ∷ []) (commands_of qs)
      ∙ (ap (λ (l : List Planned). live d.uses ++ commands_of l) (sym is) ∙ IsNext.commands n));
  agrees = IsNext.agrees n;
  known = known_join lossy all (IsNext.base n) d.uses (u ∷ []) (known_stays lossy d.uses u (IsNext.base n) 0 d.uses rising (IsNext.known n)) (
    subst (λ (b : Bool). KnowsIf b lossy all there u) (sym waiting)
        (next_stays lossy d u d.lines there d.known refl (omega arith) (IsNext.last n)),
    tt,
  );
  last = subst (λ (v : Selected). HoldsFor lossy all (d.lines + 1) v (below_it d.known)) (sym selected_is)
      (holds_below lossy d.uses all d.lines (d.lines + 1) (record { line = d.lines; rival = None; progress = Progress.Sent }) there d.known
      (λ s fine. fine_more d.uses u d.lines (d.lines + 1) s (omega arith) (omega arith) fine) (IsNext.last n) q.command
      (sent_fine d x q.command rising waiting));
}
  where
    u : Use
    u = used d x q.command

    all : List Use
    all = d.uses ++ used d x q.command ∷ []

    there : Selected
    there = selected_all (IsNext.base n) d.uses

    below_it : Known → Known
    below_it k = below_command (Some (record { line = d.lines; rival = None; progress = Progress.Sent })) q.command k

    selected_is : selected_all (IsNext.base n) (d.uses ++ used d x q.command ∷ []) ≡ selected_after (selected_all (IsNext.base n) d.uses) q.command
    selected_is = selected_join (IsNext.base n) d.uses (used d x q.command ∷ [])
        ∙ past_one (selected_all (IsNext.base n) d.uses) (used d x q.command) waiting

sent_agrees : (lossy : Bool) (b : Table) (d : Dialogue) (n : ℕ) (q : Planned) (qs : List Planned) → AgreesOn lossy b d
    → b.tally.unsent ≡ q ∷ qs → is_event_kind (kind_of q.command) ≡ false
    → AgreesOn lossy (record b {
      standard = b.standard ++ held_now (Tag.Std n) (kind_of q.command) ∷ [];
      tally = record (b.tally) { unsent = qs };
    }) (sending_after d (Tag.Std n) (Sends q.command) None)
sent_agrees lossy b d n q qs a is sort =
    let u : Use = used d (Tag.Std n) q.command in
    let one : IsOurs u = sent_ours d (Tag.Std n) q.command sort refl in
    let waiting : waits u ≡ true = standard_waits u one refl in
    let arguments : HaveArguments (q ∷ qs) = subst HaveArguments is (AgreesOn.arguments a) in
    let no_abort : HasNoAbort (q ∷ qs) = subst HasNoAbort is (AgreesOn.no_abort a) in
    record {
      ours = each_more IsOurs d.uses (u ∷ []) (AgreesOn.ours a) (one, tt);
      rising = one_counted 0 d.uses u (AgreesOn.rising a);
      straight = still_straight d.ordered d.crossed (AgreesOn.straight a);
      events = AgreesOn.events a;
      standard = picks_last is_standard d.uses u refl ∙ ap (λ (l : List OpenCommand). l ++ entry u ∷ []) (AgreesOn.standard a);
      event = picks_still is_event d.uses u refl ∙ AgreesOn.event a;
      exact = AgreesOn.exact a;
      claims = AgreesOn.claims a;
      arguments = arguments.1;
      no_abort = no_abort.1;
      calm = λ calm. next_sent lossy d b.tally (Tag.Std n) q qs (AgreesOn.rising a) waiting is (AgreesOn.calm a calm);
    }

-- an abort is sent
next_aborted : (lossy : Bool) (d : Dialogue) (y : Tally) (x : Tag) → AreCounted 0 d.uses d.lines → waits (used d x Command.AbortE) ≡ false
    → IsNext lossy d y → IsNext lossy (sending_after d x (Sends Command.AbortE) None) y
next_aborted lossy d y x rising rests n = record {
  base = IsNext.base n;
  commands = ap (λ (l : List Command). l ++ commands_of y.unsent)
      (live_more d.uses (u ∷ []) ∙ (ap (λ (l : List Command). live d.uses ++ l) (live_out u [] rests) ∙ append-nil (live d.uses)))
      ∙ IsNext.commands n;
  agrees = IsNext.agrees n;
  known = known_join lossy all (IsNext.base n) d.uses (u ∷ []) (known_stays lossy d.uses u (IsNext.base n) 0 d.uses rising (IsNext.known n))
      (subst (λ (b : Bool). KnowsIf b lossy all there u) (sym rests) tt, tt);
  last = subst (λ (v : Selected). HoldsFor lossy all (d.lines + 1) v d.known)
      (sym (selected_join (IsNext.base n) d.uses (u ∷ []) ∙ past_none there u rests))
      (next_stays lossy d u (d.lines + 1) there d.known refl (omega arith) (IsNext.last n));
}
  where
    u : Use
    u = used d x Command.AbortE

    all : List Use
    all = d.uses ++ used d x Command.AbortE ∷ []

    there : Selected
    there = selected_all (IsNext.base n) d.uses

other_number : (n : ℕ) → tag_is (Tag.Event n) (Tag.Event 0) ≡ false → (n == 0) ≡ false
other_number n e = e

any_last : (events : List ℕ) (n : ℕ) → list_any (λ (m : ℕ). m == 0) events ≡ false → (n == 0) ≡ false
    → list_any (λ (m : ℕ). m == 0) (events ++ n ∷ []) ≡ false
any_last [] n none other = ap (λ (b : Bool). b || false) other
any_last (m ∷ events) n none other = go (m == 0) none (any_last events n)
  where
    go : (b : Bool) → (b || list_any (λ (m : ℕ). m == 0) events) ≡ false
        → (list_any (λ (m : ℕ). m == 0) events ≡ false → (n == 0) ≡ false → list_any (λ (m : ℕ). m == 0) (events ++ n ∷ []) ≡ false)
        → (b || list_any (λ (m : ℕ). m == 0) (events ++ n ∷ [])) ≡ false
    go true e deeper = absurd (false≢true (sym e))
    go false e deeper = deeper e other

event_more : (events : List ℕ) (n : ℕ) → list_any (λ (m : ℕ). m == 0) events ≡ false → (n == 0) ≡ false
    → list_any (λ (m : ℕ). m == 0) (with_event (Tag.Event n) events) ≡ false
event_more events n none other = go (list_any (λ (m : ℕ). m == n) events)
  where
    go : (b : Bool) → list_any (λ (m : ℕ). m == 0) (cond b events (events ++ n ∷ [])) ≡ false
    go true = none
    go false = any_last events n none other

aborted_agrees : (lossy : Bool) (b : Table) (d : Dialogue) (n : ℕ) → AgreesOn lossy b d → tag_is (Tag.Event n) (Tag.Event 0) ≡ false
    → AgreesOn lossy (record b { event = b.event ++ held_now (Tag.Event n) Kind.AbortE ∷ [] })
    (sending_after d (Tag.Event n) (Sends Command.AbortE) None)
aborted_agrees lossy b d n a some =
    let u : Use = used d (Tag.Event n) Command.AbortE in
    let one : IsOurs u = sent_ours d (Tag.Event n) Command.AbortE refl some in
    record {
      ours = each_more IsOurs d.uses (u ∷ []) (AgreesOn.ours a) (one, tt);
      rising = one_counted 0 d.uses u (AgreesOn.rising a);
      straight = still_straight d.ordered d.crossed (AgreesOn.straight a);
      events = event_more d.events n (AgreesOn.events a) some;
      standard = picks_still is_standard d.uses u refl ∙ AgreesOn.standard a;
      event = picks_last is_event d.uses u refl ∙ ap (λ (l : List OpenCommand). l ++ entry u ∷ []) (AgreesOn.event a);
      exact = AgreesOn.exact a;
      claims = AgreesOn.claims a;
      arguments = AgreesOn.arguments a;
      no_abort = AgreesOn.no_abort a;
      calm = λ calm. next_aborted lossy d b.tally (Tag.Event n) (AgreesOn.rising a) (event_rests u one refl) (AgreesOn.calm a calm);
    }

not_zero : (n : ℕ) → 1 ≤ n → tag_is (Tag.Event n) (Tag.Event 0) ≡ false
not_zero zero some = absurd (omega (arith, some))
not_zero (suc n) some = ne_eqb (suc n) 0 (λ e. omega (arith, e))

-- a command can be written under a tag, and no other is open under that
pub record IsDrawn (d : Dialogue) (x : Tag) (c : Command) : Type 0 where
  pub writable : IsWritable x c
  pub free : list_any (has_tag x) d.uses ≡ false

pub sent_drawn : (lossy : Bool) (c : Client) (d : Dialogue) → AgreesOn lossy c.table d → (q : Planned) (qs : List Planned)
    → c.table.tally.unsent ≡ q ∷ qs → (n : ℕ) → next_number Tag.Std c.table.standard c.drawn ≡ Some n → IsDrawn d (Tag.Std n) q.command
sent_drawn lossy c d a q qs is n drawn =
    let arguments : HaveArguments (q ∷ qs) = subst HaveArguments is (AgreesOn.arguments a) in
    let no_abort : HasNoAbort (q ∷ qs) = subst HasNoAbort is (AgreesOn.no_abort a) in
    let within = drawn_within Tag.Std c.table.standard c.drawn n drawn in
    record {
      writable = record {
        tagged = record { numbered = (within.0, omega (arith, within.1)); sort = standard_kind q.command no_abort.0 };
        arguments = arguments.0;
      };
      free = not_held is_standard (Tag.Std n) d.uses refl
          (ap (is_held (Tag.Std n)) (AgreesOn.standard a) ∙ drawn_free Tag.Std c.table.standard c.drawn n drawn);
    }

pub aborted_drawn : (lossy : Bool) (c : Client) (d : Dialogue) → AgreesOn lossy c.table d → (n : ℕ)
    → next_number Tag.Event c.table.event c.event_drawn ≡ Some n → IsDrawn d (Tag.Event n) Command.AbortE
aborted_drawn lossy c d a n drawn =
    let within = drawn_within Tag.Event c.table.event c.event_drawn n drawn in
    record {
      writable = record { tagged = record { numbered = (within.0, within.1); sort = refl }; arguments = tt };
      free = not_held is_event (Tag.Event n) d.uses refl
          (ap (is_held (Tag.Event n)) (AgreesOn.event a) ∙ drawn_free Tag.Event c.table.event c.event_drawn n drawn);
    }

sends_seen : (lossy : Bool) (c : Client) (d : Dialogue) → IsSeen lossy c d → AgreesOn lossy c.table d → (l : List Planned)
    → c.table.tally.unsent ≡ l → (number : Option ℕ) → next_number Tag.Std c.table.standard c.drawn ≡ number
    → IsSeen lossy (sends_next c l number).client (client_lines d (command_texts (sends_next c l number).lines))
sends_seen lossy c d h a [] is number drawn = h
sends_seen lossy c d h a (q ∷ qs) is None drawn = fault_seen lossy Cause.TagsSpent c d d h (grows_not d d refl)
sends_seen lossy c d h a (q ∷ qs) is (Some n) drawn =
    let no_abort : HasNoAbort (q ∷ qs) = subst HasNoAbort is (AgreesOn.no_abort a) in
    let k : IsDrawn d (Tag.Std n) q.command = sent_drawn lossy c d a q qs is n drawn in
    subst (IsSeen lossy (sends_next c (q ∷ qs) (Some n)).client) (sym (written_is d (Tag.Std n) q.command (IsDrawn.writable k) (IsDrawn.free k)))
    (now_seen lossy (sends_next c (q ∷ qs) (Some n)).client _
    (sent_agrees lossy c.table d n q qs a is (sym (standard_kind q.command no_abort.0))))

aborts_seen : (lossy : Bool) (c : Client) (d : Dialogue) → IsSeen lossy c d → AgreesOn lossy c.table d → (number : Option ℕ)
    → next_number Tag.Event c.table.event c.event_drawn ≡ number
    → IsSeen lossy (sends_abort c number).client (client_lines d (command_texts (sends_abort c number).lines))
aborts_seen lossy c d h a None drawn = fault_seen lossy Cause.TagsSpent c d d h (grows_not d d refl)
aborts_seen lossy c d h a (Some n) drawn =
    let within = drawn_within Tag.Event c.table.event c.event_drawn n drawn in
    let k : IsDrawn d (Tag.Event n) Command.AbortE = aborted_drawn lossy c d a n drawn in
    subst (IsSeen lossy (sends_abort c (Some n)).client) (sym (written_is d (Tag.Event n) Command.AbortE (IsDrawn.writable k) (IsDrawn.free k)))
    (now_seen lossy (sends_abort c (Some n)).client _ (aborted_agrees lossy c.table d n a (not_zero n within.0)))

-- ---- plans are begun

pub connected_seen : (ordered : Bool) (n : ℕ) (c : Client) → IsProgram c.program → IsSeen false (client_connected n c) (silence ordered)
connected_seen ordered n c program = now_seen false (client_connected n c) (silence ordered) (record {
  ours = tt;
  rising = omega arith;
  straight = refl;
  events = refl;
  standard = refl;
  event = refl;
  exact = λ e. refl;
  claims = tt;
  arguments = plan_arguments c.program (length c.table.tally.features) Start.NewConnection program;
  no_abort = plan_no_abort c.program (length c.table.tally.features) Start.NewConnection;
  calm = λ calm. record {
    base = none_selected;
    commands = refl;
    agrees = plan_agrees c.program (length c.table.tally.features) Start.NewConnection program;
    known = tt;
    last = none_held false [] 0 nothing;
  };
})

resumed_seen : (lossy : Bool) (c : Client) (d : Dialogue) → IsProgram c.program → count_open c.table.standard ≡ 0 → AgreesOn lossy c.table d
    → IsSeen lossy (client_resumed c) d
resumed_seen lossy c d program none a =
    let empty : live d.uses ≡ [] = no_kinds (live d.uses)
    (sym (live_are d.uses (AgreesOn.ours a)) ∙ (ap live_kinds (AgreesOn.standard a) ∙ fronts.none_live c.table.standard none)) in
    let rest : list_any waits d.uses ≡ false = live_none d.uses empty in
    let steps : List Planned = plan c.program (length c.table.tally.features) Start.SameConnection in
    now_seen lossy (client_resumed c) d (record {
      ours = AgreesOn.ours a;
      rising = AgreesOn.rising a;
      straight = AgreesOn.straight a;
      events = AgreesOn.events a;
      standard = AgreesOn.standard a;
      event = AgreesOn.event a;
      exact = AgreesOn.exact a;
      claims = AgreesOn.claims a;
      arguments = plan_arguments c.program (length c.table.tally.features) Start.SameConnection program;
      no_abort = plan_no_abort c.program (length c.table.tally.features) Start.SameConnection;
      calm = λ calm. record {
        base = none_selected;
        commands = ap (λ (l : List Command). l ++ commands_of steps) empty;
        agrees = plan_agrees c.program (length c.table.tally.features) Start.SameConnection program;
        known = none_known lossy d.uses none_selected d.uses rest;
        last = subst (λ (v : Selected). HoldsFor lossy d.uses d.lines v d.known) (sym (none_past none_selected d.uses rest))
            (none_held lossy d.uses d.lines d.known);
      };
    })

left_seen : (lossy : Bool) (c : Client) (d : Dialogue) → IsSeen lossy c d → IsSeen lossy (client_left c) d
left_seen lossy c d h = record { begins = IsSeen.begins h; agrees = λ on. absurd (false≢true on) }

none_begun : (ordered lossy : Bool) → Begins lossy [] (silence ordered).reported
none_begun ordered lossy = begins_all lossy [] [] (λ e. refl) tt

restarted_seen : (ordered : Bool) (k : ℕ) (c : Client) → IsSeen false (client_restarted k c) (silence ordered)
restarted_seen ordered k c = record { begins = none_begun ordered false; agrees = λ on. absurd (false≢true on) }

-- ---- calls

with_state : (p : Meaning) (plans : Plans) (c : Client) (s : State) → c.state ≡ s → Holds p c plans → Holds p (record c { state = s }) plans
with_state p plans c s is h = subst (λ (x : State). Holds p (record c { state = x }) plans) is h

-- in these states a client is on a connection
running_on : (p : Meaning) (plans : Plans) (c : Client) → c.state ≡ State.Running → Holds p c plans → c.on ≡ true
running_on p plans c is h = on_unless_off c (λ off.
    let g : Holds p (record c { state = State.Running }) plans = with_state p plans c State.Running is h in g.off off)

failing_on : (p : Meaning) (plans : Plans) (c : Client) → c.state ≡ State.Failing → Holds p c plans → c.on ≡ true
failing_on p plans c is h = on_unless_off c (λ off.
    let g : Holds p (record c { state = State.Failing }) plans = with_state p plans c State.Failing is h in g.off off)

halted_on : (p : Meaning) (plans : Plans) (c : Client) → c.state ≡ State.Halted → Holds p c plans → c.on ≡ true
halted_on p plans c is h = on_unless_off c (λ off.
    let g : Holds p (record c { state = State.Halted }) plans = with_state p plans c State.Halted is h in g.off off)

halted_rests : (p : Meaning) (plans : Plans) (c : Client) → c.state ≡ State.Halted → Holds p c plans → count_open c.table.standard ≡ 0
halted_rests p plans c is h =
    let g : Holds p (record c { state = State.Halted }) plans = with_state p plans c State.Halted is h in g.rests

-- a client that sends agrees with the witness, and one that may abort
pub sending_agrees : (lossy : Bool) (p : Meaning) (plans : Plans) (c : Client) (d : Dialogue) → Holds p c plans → is_some (due c) ≡ true
    → IsSeen lossy c d → AgreesOn lossy c.table d
sending_agrees lossy p plans c d h may s = let running : c.state ≡ State.Running = (due_running c may).running
    in IsSeen.agrees s (running_on p plans c running h) (ap is_faulted running)

pub aborting_agrees : (lossy : Bool) (p : Meaning) (plans : Plans) (c : Client) (d : Dialogue) → Holds p c plans → may_abort c.state ≡ true
    → IsSeen lossy c d → AgreesOn lossy c.table d
aborting_agrees lossy p plans c d h may s = go c.state refl may
  where
    go : (x : State) → c.state ≡ x → may_abort x ≡ true → AgreesOn lossy c.table d
    go State.Running is ok = IsSeen.agrees s (running_on p plans c is h) (ap is_faulted is)
    go State.Failing is ok = IsSeen.agrees s (failing_on p plans c is h) (ap is_faulted is)
    go State.Apart is ok = absurd (false≢true ok)
    go State.Aborting is ok = absurd (false≢true ok)
    go State.Halted is ok = absurd (false≢true ok)
    go State.Done is ok = absurd (false≢true ok)
    go State.Faulted is ok = absurd (false≢true ok)

reading : (lossy : Bool) (p : Meaning) (plans : Plans) (c : Client) (d : Dialogue) → Holds p c plans → may_read c ≡ true → IsSeen lossy c d
    → IsReading lossy c d
reading lossy p plans c d h may s =
    let able = both c.on (not (is_faulted c.state)) may in
    record {
      seen = s;
      agrees = IsSeen.agrees s able.0 (not-true (is_faulted c.state) able.1);
      plan_is = (plans, h.live able.0);
    }

-- each call that is possible
pub done_seen : (lossy : Bool) (p : Meaning) (plans : Plans) (call : Call) (e : ClientEnd) (d : Dialogue) → Holds p e.client plans
    → possible call e ≡ true → IsSeen lossy e.client d
    → IsSeen (unasked_by call e lossy) (done_by call e).client (witnessed_by call e d)
done_seen lossy p plans (Connected n) e d h may s = connected_seen d.ordered n e.client h.program
done_seen lossy p plans Send e d h may s = sends_seen lossy e.client d s (sending_agrees lossy p plans e.client d h may s)
    e.client.table.tally.unsent refl (next_number Tag.Std e.client.table.standard e.client.drawn) refl
done_seen lossy p plans (Feed bytes) e d h may s = s
done_seen lossy p plans ReadOne e d h may s =
    front_seen lossy e.client d (reading lossy p plans e.client d h may s) (next_of e.input.rest)
done_seen lossy p plans Abort e d h may s = aborts_seen lossy e.client d s (aborting_agrees lossy p plans e.client d h may s)
    (next_number Tag.Event e.client.table.event e.client.event_drawn) refl
done_seen lossy p plans Resume e d h may s =
    let halted : e.client.state ≡ State.Halted = resumed_state e.client e.client.state may in
    resumed_seen lossy e.client d h.program (halted_rests p plans e.client halted h)
    (IsSeen.agrees s (halted_on p plans e.client halted h) (ap is_faulted halted))
done_seen lossy p plans Leave e d h may s = left_seen lossy e.client d s
done_seen lossy p plans (Restart k) e d h may s = restarted_seen d.ordered k e.client
done_seen lossy p plans (Sent k) e d h may s = s

call_seen : (lossy : Bool) (p : Meaning) (plans : Plans) (call : Call) (e : ClientEnd) (d : Dialogue) → Holds p e.client plans
    → IsSeen lossy e.client d → IsSeen (unasked_call call e lossy) (behind_call call e).client (witnessed_call call e d)
call_seen lossy p plans call e d h s = go (possible call e) refl
  where
    go : (b : Bool) → possible call e ≡ b
        → IsSeen (cond b (unasked_by call e lossy) lossy) (cond b (done_by call e) e).client (cond b (witnessed_by call e d) d)
    go true may = done_seen lossy p plans call e d h may s
    go false never = s

-- ---- calls, from a client that was never on a connection

calls_more : (calls : List Call) (call : Call) (e : ClientEnd)
    → behind_calls (calls ++ call ∷ []) e ≡ behind_call call (behind_calls calls e)
calls_more [] call e = refl
calls_more (x ∷ calls) call e = calls_more calls call (behind_call x e)

-- calls led to it
pub record IsBehind (p : Meaning) (kept : List Feature) (window : ℕ) (e : ClientEnd) : Type 0 where
  pub calls : List Call
  pub is : e ≡ behind_calls calls (new_client_end p kept window)

pub behind_one_more : (p : Meaning) (kept : List Feature) (window : ℕ) (call : Call) (e : ClientEnd) → IsBehind p kept window e
    → IsBehind p kept window (behind_call call e)
behind_one_more p kept window call e b = record {
  calls = IsBehind.calls b ++ call ∷ [];
  is = ap (behind_call call) (IsBehind.is b) ∙ sym (calls_more (IsBehind.calls b) call (new_client_end p kept window));
}

behind_seen : (lossy : Bool) (p : Meaning) (kept : List Feature) (window : ℕ) → IsProgram p → are_ours p.features kept ≡ true
    → (calls : List Call) (e : ClientEnd) (d : Dialogue) → IsBehind p kept window e → IsSeen lossy e.client d
    → IsSeen (lines.unasked calls e lossy) (behind_calls calls e).client (witnessed calls e d)
behind_seen lossy p kept window program ours [] e d b s = s
behind_seen lossy p kept window program ours (call ∷ calls) e d b s =
    let h : Holds p e.client (plans_begun (IsBehind.calls b) p kept window) =
    subst (λ (x : ClientEnd). Holds p x.client (plans_begun (IsBehind.calls b) p kept window)) (sym (IsBehind.is b))
    (behind_holds p kept window (IsBehind.calls b) program ours) in
    behind_seen (unasked_call call e lossy) p kept window program ours calls (behind_call call e) (witnessed_call call e d)
    (behind_one_more p kept window call e b) (call_seen lossy p (plans_begun (IsBehind.calls b) p kept window) call e d h s)

new_seen : (ordered : Bool) (p : Meaning) (kept : List Feature) (window : ℕ)
    → IsSeen false (new_client_end p kept window).client (silence ordered)
new_seen ordered p kept window = record { begins = none_begun ordered false; agrees = λ on. absurd (false≢true on) }

calls_seen : (ordered : Bool) (p : Meaning) (kept : List Feature) (window : ℕ) (calls : List Call) → IsProgram p
    → are_ours p.features kept ≡ true
    → IsSeen (lines.unasked calls (new_client_end p kept window) false) (client_behind calls p kept window)
    (witnessed calls (new_client_end p kept window) (silence ordered))
calls_seen ordered p kept window calls program ours =
    behind_seen false p kept window program ours calls (new_client_end p kept window) (silence ordered) (record { calls = []; is = refl })
    (new_seen ordered p kept window)

-- ---- the law

pub told_is_counted : (ordered : Bool) (e : ClientEnd) (calls : List Call) → IsOurClient e → may_read (behind_calls calls e).client ≡ true
    → lines.unasked calls e false ≡ false → (witnessed calls e (silence ordered)).reported ≡ all_done (lines.counted_by (behind_calls calls e))
told_is_counted ordered _ calls (our_client p kept window program ours) may none =
    let on = and_parts _ _ may in
    AgreesOn.exact (IsSeen.agrees (calls_seen ordered p kept window calls program ours) on.0 (not-true _ on.1)) none

pub told_is_claimed : (ordered : Bool) (e : ClientEnd) (calls : List Call) → IsOurClient e → may_read (behind_calls calls e).client ≡ true
    → Claims (lines.counted_by (behind_calls calls e)) (witnessed calls e (silence ordered)).reported
told_is_claimed ordered _ calls (our_client p kept window program ours) may =
    let on = and_parts _ _ may in
    AgreesOn.claims (IsSeen.agrees (calls_seen ordered p kept window calls program ours) on.0 (not-true _ on.1))

begun : (ordered : Bool) (p : Meaning) (kept : List Feature) (window : ℕ) (calls : List Call) (unread : List Line) → IsProgram p
    → are_ours p.features kept ≡ true
    → Begins (lines.unasked calls (new_client_end p kept window) false) (client_behind calls p kept window).table.tally.counted
    (said_all (witnessed calls (new_client_end p kept window) (silence ordered)) unread).reported
begun ordered p kept window calls unread program ours =
    begins_after (lines.unasked calls (new_client_end p kept window) false) (client_behind calls p kept window).table.tally.counted
    (witnessed calls (new_client_end p kept window) (silence ordered)) unread
    (IsSeen.begins (calls_seen ordered p kept window calls program ours))

pub told_begins : (ordered : Bool) (e : ClientEnd) (calls : List Call) (unread : List Line) → IsOurClient e
    → lines.unasked calls e false ≡ false
    → BeginsWith (lines.counted_by (behind_calls calls e)) (said_all (witnessed calls e (silence ordered)) unread).reported
told_begins ordered _ calls unread (our_client p kept window program ours) none =
    begins_with (client_behind calls p kept window).table.tally.counted
    (said_all (witnessed calls (new_client_end p kept window) (silence ordered)) unread).reported
    (subst (λ (b : Bool). Begins b (client_behind calls p kept window).table.tally.counted
    (said_all (witnessed calls (new_client_end p kept window) (silence ordered)) unread).reported) none
    (begun ordered p kept window calls unread program ours))

pub told_begins_to_claim : (ordered : Bool) (e : ClientEnd) (calls : List Call) (unread : List Line) → IsOurClient e
    → BeginsToClaim (lines.counted_by (behind_calls calls e)) (said_all (witnessed calls e (silence ordered)) unread).reported
told_begins_to_claim ordered _ calls unread (our_client p kept window program ours) =
    begins_to_claim (lines.unasked calls (new_client_end p kept window) false) (client_behind calls p kept window).table.tally.counted
    (said_all (witnessed calls (new_client_end p kept window) (silence ordered)) unread).reported
    (begun ordered p kept window calls unread program ours)
