-- What a witness does at a mark of a command that a client sent, next to what the client does.
use Rattle.witness_laws.proofs.Names.{◌&&◌, ◌++◌, ◌==◌, ◌||◌, ◌∙◌, ◌∷◌, ◌≡◌, [], act_of, after_mark, all_renewed, and_parts, answered_known, ap}
use Rattle.witness_laws.proofs.Names.{asks_data, at_use, Becomes, Bool, Closes, Command, cond, Counts, Datum, Dialogue, eq-eqb, false, false≢true}
use Rattle.witness_laws.proofs.Names.{faulting, fits, has_turn, Heard, heard_as, heard_at, heard_under, hearing, is_answer, is_end, is_error}
use Rattle.witness_laws.proofs.Names.{is_foreign, is_out_of_turn, is_rival, judged, judged_done, judged_given, Kind, kind_of, Known, left_over}
use Rattle.witness_laws.proofs.Names.{length, length-map, List, list_any, map, map-append, None, not, NotInTurn, Option, or_parts, position, Progress}
use Rattle.witness_laws.proofs.Names.{refl, Refused, remove, Renewal, report_of, Reported, reported_by, SentCommand, server_answered, Signal}
use Rattle.witness_laws.proofs.Names.{slice_get, Some, Stage, stage_after, Step, step, subst, sym, Tag, tag_is, take, true, unknowing, unless_crossed}
use Rattle.witness_laws.proofs.Names.{Use, use_heard, use_renewed, Verdict, waits, without_rival, ℕ}
use Rattle.protocol_model.specs.Replies.{Mark}
use Rattle.protocol_model.specs.Open.{Breaks}
use Rattle.protocol_model.specs.declared.held.Stage.{Stage as OpenStage}
use Rattle.witness.specs.declared.lines.SentCommand.TheVariants.{Known as Sends}
use Rattle.witness_laws.proofs.client.Agreeing.{IsOurs, AreOurs, is_lost}
use Rattle.witness_laws.proofs.client.Cuts.{stage_by, has_tag, taken}
use Rattle.witness_laws.proofs.client.Holding.{by_stage, Carries}
use Rattle.witness_laws.proofs.orders.Marks.{place, get_there, removed_there}
use Rattle.witness_laws.proofs.orders.Counts.{line_is}

-- ---- the uses after a mark

-- what is known of the others, and the use itself
abbrev pub marked : ℕ → Heard → Known → Known
marked line h k = all_renewed (Renewal.Mark line h) k

abbrev pub others : ℕ → Heard → List Use → List Use
others line h us = map (use_renewed (marked line h)) us

abbrev pub own : Heard → Use → Use
own h u = use_renewed (marked u.line h) (after_mark (use_renewed (answered_known h) u) h)

no_rival : (line : ℕ) (h : Heard) (u : Use) → u.rival ≡ None → without_rival line h u ≡ u
no_rival line h u alone = ap (λ (r : Option ℕ). cond (is_rival line r && is_error h) (unknowing u) u) alone

own_heard : (h : Heard) (u : Use) → u.rival ≡ None → use_heard u.line h u ≡ own h u
own_heard h u alone =
    ap (λ (b : Bool). use_renewed (marked u.line h) (cond b (after_mark (use_renewed (answered_known h) (without_rival u.line h u)) h)
    (without_rival u.line h u))) (eq-eqb u.line u.line refl)
    ∙ ap (λ (v : Use). use_renewed (marked u.line h) (after_mark (use_renewed (answered_known h) v) h)) (no_rival u.line h u alone)

other_heard : (line : ℕ) (h : Heard) (u : Use) → u.rival ≡ None → (u.line == line) ≡ false
    → use_heard line h u ≡ use_renewed (marked line h) u
other_heard line h u alone other =
    ap (λ (b : Bool). use_renewed (marked line h) (cond b (after_mark (use_renewed (answered_known h) (without_rival line h u)) h)
    (without_rival line h u))) other
    ∙ ap (use_renewed (marked line h)) (no_rival line h u alone)

all_heard : (line : ℕ) (h : Heard) (us : List Use) → AreOurs us → list_any (line_is line) us ≡ false
    → map (use_heard line h) us ≡ others line h us
all_heard line h [] ours none = refl
all_heard line h (u ∷ us) (one, ours) none =
    let parts = or_parts (u.line == line) (list_any (line_is line) us) none in
    ap (λ (v : Use). v ∷ map (use_heard line h) us) (other_heard line h u (IsOurs.alone one) parts.0)
    ∙ ap (λ (vs : List Use). use_renewed (marked line h) u ∷ vs) (all_heard line h us ours parts.1)

-- the uses around one, after a mark of it
abbrev pub uses_after : List Use → Use → List Use → Heard → Bool → List Use
uses_after before u after h true = others u.line h before ++ others u.line h after
uses_after before u after h false = others u.line h before ++ own h u ∷ others u.line h after

left_around : (before : List Use) (u : Use) (after : List Use) (n : ℕ) (ended : Bool) (h : Heard) → n ≡ length (others u.line h before)
    → left_over (others u.line h before ++ own h u ∷ others u.line h after) n ended ≡ uses_after before u after h ended
left_around before u after n true h is =
    ap (remove (others u.line h before ++ own h u ∷ others u.line h after)) is
    ∙ removed_there (others u.line h before) (own h u) (others u.line h after)
left_around before u after n false h is = refl

uses_are : (uses before : List Use) (u : Use) (after : List Use) (h : Heard) (ended : Bool) → uses ≡ before ++ u ∷ after
    → AreOurs before → AreOurs after → u.rival ≡ None → list_any (line_is u.line) before ≡ false → list_any (line_is u.line) after ≡ false
    → left_over (map (use_heard u.line h) uses) (length before) ended ≡ uses_after before u after h ended
uses_are uses before u after h ended parts ours_before ours_after alone none_before none_after =
    ap (λ (l : List Use). left_over (map (use_heard u.line h) l) (length before) ended) parts
    ∙ (ap (λ (l : List Use). left_over l (length before) ended) (map-append (use_heard u.line h) before (u ∷ after)
    ∙ (ap (λ (l : List Use). l ++ map (use_heard u.line h) (u ∷ after)) (all_heard u.line h before ours_before none_before)
    ∙ (ap (λ (v : Use). others u.line h before ++ v ∷ map (use_heard u.line h) after) (own_heard h u alone)
    ∙ ap (λ (l : List Use). others u.line h before ++ own h u ∷ l) (all_heard u.line h after ours_after none_after))))
    ∙ left_around before u after (length before) ended h (sym (length-map before (use_renewed (marked u.line h)))))

-- ---- the mark is in turn

-- if it is an answer to what has not failed, the use waits for none
abbrev pub IsInTurn : List Use → Use → Heard → Type 0
IsInTurn before u h = is_answer h ≡ true → u.has_failed ≡ false → (has_turn u.command && list_any waits before) ≡ false

in_turn : (turn wait answer failed error : Bool) → (answer ≡ true → failed ≡ false → (turn && wait) ≡ false)
    → (turn && (wait && ((answer && not failed) || (error && false)))) ≡ false
in_turn false wait answer failed error h = refl
in_turn true false answer failed error h = refl
in_turn true true true false error h = absurd (false≢true (sym (h refl refl)))
in_turn true true true true true h = refl
in_turn true true true true false h = refl
in_turn true true false failed true h = refl
in_turn true true false failed false h = refl

turn_kept : (uses before : List Use) (u : Use) (after : List Use) (c : Command) (h : Heard) → uses ≡ before ++ u ∷ after
    → u.command ≡ Sends c → IsInTurn before u h → is_out_of_turn uses (length before) u h ≡ false
turn_kept uses before u after c h parts sends turn =
    ap (λ (l : List Use). has_turn u.command && (list_any waits (take (length before) l)
    && ((is_answer h && not u.has_failed) || (is_error h && is_foreign u.command)))) parts
    ∙ (ap (λ (l : List Use). has_turn u.command && (list_any waits l
    && ((is_answer h && not u.has_failed) || (is_error h && is_foreign u.command)))) (taken before u after)
    ∙ (ap (λ (a : SentCommand). has_turn u.command && (list_any waits before
    && ((is_answer h && not u.has_failed) || (is_error h && is_foreign a)))) sends
    ∙ in_turn (has_turn u.command) (list_any waits before) (is_answer h) u.has_failed (is_error h) turn))

-- ---- a mark for the first use of its tag

-- what a witness becomes, if the mark reports this
abbrev pub marked_as : Dialogue → List Use → Use → List Use → Heard → Bool → List Reported → Dialogue
marked_as d before u after h ended reports = record {
  ordered = d.ordered;
  lines = d.lines;
  uses = uses_after before u after h ended;
  events = d.events;
  crossed = d.crossed;
  known = marked u.line h d.known;
  reported = d.reported ++ reports;
}

-- what is reported of it
abbrev pub reports_of : Use → Heard → Command → List Reported
reports_of u h c = report_of (own h u).known u.tag c (step (asks_data (kind_of c)) u.stage h)

hearing_is : (d : Dialogue) (before : List Use) (u : Use) (after : List Use) (h : Heard) (ended : Bool) (c : Command)
    → d.uses ≡ before ++ u ∷ after → AreOurs before → AreOurs after → u.rival ≡ None → u.command ≡ Sends c
    → list_any (line_is u.line) before ≡ false → list_any (line_is u.line) after ≡ false → d.crossed ≡ false
    → hearing d (length before) u h ended ≡ marked_as d before u after h ended (reports_of u h c)
hearing_is d before u after h ended c parts ours_before ours_after alone sends none_before none_after straight =
    ap (λ (l : List Use). record {
      ordered = d.ordered;
      lines = d.lines;
      uses = l;
      events = d.events;
      crossed = d.crossed;
      known = marked u.line h d.known;
      reported = d.reported ++ reported_by (unless_crossed d.crossed (use_heard u.line h u).known) u.tag u.command u.stage h;
    }) (uses_are d.uses before u after h ended parts ours_before ours_after alone none_before none_after)
    ∙ (ap (λ (b : Bool). marked_as d before u after h ended
    (reported_by (unless_crossed b (use_heard u.line h u).known) u.tag u.command u.stage h)) straight
    ∙ (ap (λ (v : Use). marked_as d before u after h ended (reported_by v.known u.tag u.command u.stage h)) (own_heard h u alone)
    ∙ ap (λ (a : SentCommand). marked_as d before u after h ended (reported_by (own h u).known u.tag a u.stage h)) sends))

pub heard_first : (d : Dialogue) (line : List ℕ) (tag : Tag) (signal : Signal) (h : Heard) (before : List Use) (u : Use) (after : List Use)
    (c : Command) → d.uses ≡ before ++ u ∷ after → list_any (has_tag tag) before ≡ false → tag_is u.tag tag ≡ true
    → AreOurs before → AreOurs after → u.rival ≡ None → u.command ≡ Sends c
    → list_any (line_is u.line) before ≡ false → list_any (line_is u.line) after ≡ false → d.crossed ≡ false
    → heard_as u.command signal ≡ h → IsInTurn before u h
    → server_answered d line (Some (tag, signal)) ≡ marked_as d before u after h (is_end signal) (reports_of u h c)
heard_first d line tag signal h before u after c parts none here ours_before ours_after alone sends none_before none_after straight is turn =
    ap (heard_under d line tag signal) (ap (position (has_tag tag)) parts ∙ place (has_tag tag) before u after none here)
    ∙ (ap (at_use d (length before) signal) (ap (λ (l : List Use). slice_get l (length before)) parts ∙ get_there before u after)
    ∙ (ap (λ (x : Heard). heard_at d (length before) u x (is_end signal)) is
    ∙ (ap (λ (b : Bool). cond b (hearing (faulting d (Reported.Broken NotInTurn u.tag)) (length before) (use_renewed (all_renewed Renewal.Fault) u) h (is_end signal))
    (hearing d (length before) u h (is_end signal))) (turn_kept d.uses before u after c h parts sends turn)
    ∙ hearing_is d before u after h (is_end signal) c parts ours_before ours_after alone sends none_before none_after straight)))

-- ---- the two tables of marks

-- what a client hears, as a witness hears it
abbrev pub heard_of : Mark → Heard
heard_of Mark.Ack = Heard.Received
heard_of (Mark.Given d) = Heard.Given d
heard_of Mark.Done = Heard.Complete
heard_of Mark.Error = Heard.Failed

-- whether it ends a command
abbrev pub ends : Mark → Bool
ends Mark.Ack = false
ends (Mark.Given d) = false
ends Mark.Done = true
ends Mark.Error = false

-- what a mark makes of a change
abbrev pub Carried : Bool → Stage → Heard → Stage → Type 0
Carried asks s h later = (waits : Bool) → Carries (cond (waits && not asks) (by_stage s) None) h (cond (waits && not asks) (by_stage later) None)

abbrev pub CarriedOut : Bool → Stage → Heard → Type 0
CarriedOut asks s h = (waits : Bool) → Carries (cond (waits && not asks) (by_stage s) None) h (Some Progress.Done)

-- the stage is as the client's, and failed if an error came
abbrev pub IsStaged : Stage → Mark → Step → OpenStage → Type 0
IsStaged s m st next =
    (stage_by (stage_after s st) ≡ next) × ((is_lost s || is_error (heard_of m)) ≡ is_lost (stage_after s st))

-- nothing is reported
abbrev pub IsQuiet : Command → Step → Type 0
IsQuiet c st = (k : Known) (tag : Tag) → report_of k tag c st ≡ []

-- what a witness does where a client does this: the same to the stage; it reports only what the client counts
abbrev pub Follows : Command → Stage → Mark → Step → Verdict → Type 0
Follows c s m st (Becomes next) =
    (ends m ≡ false) × IsStaged s m st next × IsQuiet c st × Carried (asks_data (kind_of c)) s (heard_of m) (stage_after s st)
Follows c s m st Breaks = (ends m ≡ false) × IsStaged s m st OpenStage.Failed × IsQuiet c st
Follows c s m st Closes = (ends m ≡ true) × IsQuiet c st × CarriedOut (asks_data (kind_of c)) s (heard_of m)
Follows c s m st (Counts given) =
    (ends m ≡ true) × ((k : Known) (tag : Tag) → report_of k tag c st ≡ act_of k c given) × CarriedOut (asks_data (kind_of c)) s (heard_of m)
Follows c s m st (Refused cause) = Unit {0}

nothing_carried : (b : Bool) (h : Heard) (later : Option Progress) → Carries (cond b None None) h later
nothing_carried true h later s p is = absurd (cc)
nothing_carried false h later s p is = absurd (cc)

not_asked : (b : Bool) → (b && not true) ≡ false
not_asked true = refl
not_asked false = refl

asked_carried : (asks b : Bool) (s later : Stage) (h : Heard) → asks ≡ true
    → Carries (cond (b && not asks) (by_stage s) None) h (cond (b && not asks) (by_stage later) None)
asked_carried asks b s later h is =
    subst (λ (x : Bool). Carries (cond (b && not x) (by_stage s) None) h (cond (b && not x) (by_stage later) None)) (sym is)
    (subst (λ (x : Bool). Carries (cond x (by_stage s) None) h (cond x (by_stage later) None)) (sym (not_asked b))
    (nothing_carried false h None))

sent_carried : (b : Bool) → Carries (cond b (Some Progress.Sent) None) Heard.Received (cond b (Some Progress.Begun) None)
sent_carried true s p is =
    let same : p ≡ Progress.Sent = cc in
    rw same (record { progress = Progress.Begun; is = refl; reached = refl })
sent_carried false s p is = absurd (cc)

begun_out : (b : Bool) → Carries (cond b (Some Progress.Begun) None) Heard.Complete (Some Progress.Done)
begun_out true s p is =
    let same : p ≡ Progress.Begun = cc in
    rw same (record { progress = Progress.Done; is = refl; reached = refl })
begun_out false s p is = absurd (cc)

fits_asks : (k : Kind) (d : Datum) → fits k d ≡ true → asks_data k ≡ true
fits_asks Kind.PtMeas d e = refl
fits_asks Kind.IsHomed d e = refl
fits_asks Kind.StartSession d e = absurd (false≢true e)
fits_asks Kind.EndSession d e = absurd (false≢true e)
fits_asks Kind.ClearAllErrors d e = absurd (false≢true e)
fits_asks Kind.Home d e = absurd (false≢true e)
fits_asks Kind.OnPtMeasReport d e = absurd (false≢true e)
fits_asks Kind.GoTo d e = absurd (false≢true e)
fits_asks Kind.ChangeTool d e = absurd (false≢true e)
fits_asks Kind.SetCsyTransformation d e = absurd (false≢true e)
fits_asks Kind.SetCoordSystem d e = absurd (false≢true e)
fits_asks Kind.AbortE d e = absurd (false≢true e)

given_follows : (b asks : Bool) (c : Command) (s : Stage) (d : Datum) → asks_data (kind_of c) ≡ asks → (b ≡ true → asks ≡ true)
    → Follows c s (Mark.Given d) (step asks s (Heard.Given d)) (judged_given b (stage_by s) d)
given_follows false asks c s d same lets = tt
given_follows true asks c Stage.Sent d same lets = tt
given_follows true asks c Stage.Received d same lets = (
  refl,
  (refl, refl),
  (λ k tag. refl),
  λ b. asked_carried (asks_data (kind_of c)) b Stage.Received (Stage.Given d) (Heard.Given d) (same ∙ lets refl),
)
given_follows true asks c (Stage.Given e) d same lets = tt
given_follows true asks c Stage.Lost d same lets = tt

-- the table
pub follows : (front : Bool) (c : Command) (s : Stage) (m : Mark)
    → Follows c s m (step (asks_data (kind_of c)) s (heard_of m)) (judged front (kind_of c) (stage_by s) m)
follows front c s (Mark.Given d) = given_follows (front && fits (kind_of c) d) (asks_data (kind_of c)) c s d refl
    (λ e. fits_asks (kind_of c) d (and_parts front (fits (kind_of c) d) e).1)
follows front c Stage.Sent Mark.Ack = (refl, (refl, refl), (λ k tag. refl), λ b. sent_carried (b && not (asks_data (kind_of c))))
follows front c Stage.Received Mark.Ack = tt
follows front c (Stage.Given e) Mark.Ack = tt
follows front c Stage.Lost Mark.Ack = tt
follows front c Stage.Sent Mark.Error = (refl, (refl, refl), λ k tag. refl)
follows front c Stage.Received Mark.Error = (refl, (refl, refl), λ k tag. refl)
follows front c (Stage.Given e) Mark.Error = (refl, (refl, refl), λ k tag. refl)
follows front c Stage.Lost Mark.Error =
    (refl, (refl, refl), (λ k tag. refl), λ b. nothing_carried (b && not (asks_data (kind_of c))) Heard.Failed _)
follows front c s Mark.Done = go front (asks_data (kind_of c)) s refl
  where
    go : (f asks : Bool) (s : Stage) → asks_data (kind_of c) ≡ asks
        → Follows c s Mark.Done (step asks s Heard.Complete) (judged_done f asks (stage_by s))
    go f asks Stage.Lost same =
        (refl, (λ k tag. refl), λ b. nothing_carried (b && not (asks_data (kind_of c))) Heard.Complete (Some Progress.Done))
    go true true Stage.Sent same = tt
    go true false Stage.Sent same = tt
    go true true Stage.Received same = tt
    go true false Stage.Received same = (refl, (λ k tag. refl), λ b. begun_out (b && not (asks_data (kind_of c))))
    go true true (Stage.Given e) same =
        (refl, (λ k tag. refl), λ b. nothing_carried (b && not (asks_data (kind_of c))) Heard.Complete (Some Progress.Done))
    go true false (Stage.Given e) same =
        (refl, (λ k tag. refl), λ b. nothing_carried (b && not (asks_data (kind_of c))) Heard.Complete (Some Progress.Done))
    go false asks Stage.Sent same = tt
    go false asks Stage.Received same = tt
    go false asks (Stage.Given e) same = tt

-- an answer to what has not failed is expected at the front only
abbrev pub IsTaken : Verdict → Type 0
IsTaken (Becomes next) = Unit {0}
IsTaken Breaks = Unit {0}
IsTaken Closes = Unit {0}
IsTaken (Counts given) = Unit {0}
IsTaken (Refused cause) = ⊥

pub needs_front : (front : Bool) (k : Kind) (s : Stage) (m : Mark) → is_answer (heard_of m) ≡ true → is_lost s ≡ false
    → IsTaken (judged front k (stage_by s) m) → front ≡ true
needs_front true k s m answer calm taken = refl
needs_front false k s Mark.Ack answer calm taken = absurd (false≢true answer)
needs_front false k s Mark.Error answer calm taken = absurd (false≢true answer)
needs_front false k s (Mark.Given d) answer calm taken = absurd (taken)
needs_front false k Stage.Sent Mark.Done answer calm taken = absurd (taken)
needs_front false k Stage.Received Mark.Done answer calm taken = absurd (taken)
needs_front false k (Stage.Given e) Mark.Done answer calm taken = absurd (taken)
needs_front false k Stage.Lost Mark.Done answer calm taken = absurd (false≢true (sym calm))
