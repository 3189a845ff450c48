-- What each expected mark does, next to what a witness does at it.
use Rattle.witness_laws.proofs.Names.{◌&&◌, ◌++◌, ◌||◌, ◌∙◌, ◌∷◌, ◌≡◌, [], Act, act_of, all_renewed, and_false, and_parts, ap, AreCounted, AreFilled}
use Rattle.witness_laws.proofs.Names.{asks_data, Becomes, begins_session, Bool, Cause, Closes, Command, cond, counted_next, Counts, Datum, Dialogue}
use Rattle.witness_laws.proofs.Names.{Effect, Err, false, false≢true, fits, has_turn, HasNoAbort, HaveArguments, Heard, heard_as, heard_in, held_kind}
use Rattle.witness_laws.proofs.Names.{is_end, is_event_kind, IsGiven, judged, judged_given, Kind, kind_of, Known, List, list_any, map, map-append}
use Rattle.witness_laws.proofs.Names.{measured, None, not, not-true, OpenCommand, Option, passed_no_abort, passed_over, passes, Planned, Progress}
use Rattle.witness_laws.proofs.Names.{put_before, refl, Refused, Renewal, report_of, Reported, same_two, SentCommand, server_answered, settled}
use Rattle.witness_laws.proofs.Names.{Signal, Some, Stage, stage_after, staged, Step, step, subst, suc, sym, Table, tabled, Tag, tallied, Tally}
use Rattle.witness_laws.proofs.Names.{tells_homed, true, two, Use, Verdict, waits, ℕ}
use Rattle.protocol_model.specs.Replies.{Mark}
use Rattle.protocol_model.specs.Open.{Heard as Heardings, Breaks}
use Rattle.protocol_model.specs.Client.{act_of as act_for}
use Rattle.protocol_model.specs.declared.held.Stage.{Stage as OpenStage}
use Rattle.protocol_model.proofs.invariant.Touching.{Keeps, measured_keeps}
use Rattle.witness.specs.declared.lines.SentCommand.TheVariants.{Known as Sends}
use Rattle.dmis_program.specs.declared.features.Wanted.{Wanted}
use Rattle.client_core.proofs.Fronts.{live_kinds, Fronted, fronted, IsAskedLast}
use Rattle.client_core.proofs.Homing.{told_asks}
use Rattle.witness_laws.specs.Acts.{all_done, Claims}
use Rattle.witness_laws.proofs.client.Agreeing.{is_standard, is_event, is_lost, IsOurs, AreOurs, ours_front, command_in, live, live_in, live_more, none_live}
use Rattle.witness_laws.proofs.client.Agreeing.{event_rests, standard_waits, sorts, failed_rests, failed_wait, live_are, same_failed, no_kinds, commands_of}
use Rattle.witness_laws.proofs.client.Agreeing.{passed_commands, IsNext, AgreesOn}
use Rattle.witness_laws.proofs.client.Claiming.{claims_more, claims_same}
use Rattle.witness_laws.proofs.client.Cuts.{kind_by, stage_by, entry, picks, picks_more, all_failed, put_all, put_fine, IsCut, cut}
use Rattle.witness_laws.proofs.client.Holding.{so_far, by_stage, Holds, front_done, holds_moved, holds_fits, answer_moves, aside_moves, Carries}
use Rattle.witness_laws.proofs.client.Knowing.{Selected, selected_after, Fits, Tells, TellsAs, Agrees, passed_agrees}
use Rattle.witness_laws.proofs.client.Marks.{own, uses_after, marked_as, reports_of, heard_first, heard_of, ends, Follows, follows, IsInTurn, IsQuiet, Carried}
use Rattle.witness_laws.proofs.client.Marks.{CarriedOut, IsTaken, needs_front}
use Rattle.witness_laws.proofs.client.Replying.{picks_kept, picks_gone, picks_other, live_gone, Around, around, own_stage, own_ours, marked_agrees, quiet_exact}
use Rattle.witness_laws.proofs.client.Replying.{rest_carries, next_kept, next_closed, IsCounted, next_counted, becomes_alike, same_waits, closed_failed}
use Rattle.witness_laws.proofs.client.Replying.{counted_calm, counted_front}
use Rattle.witness_laws.proofs.orders.Counts.{none_before, none_after, each_more}

not_event : (u : Use) → is_standard u.tag ≡ true → is_event u.tag ≡ false
not_event u is = sorts u.tag ∙ ap not is

not_standard : (u : Use) → is_event u.tag ≡ true → is_standard u.tag ≡ false
not_standard u is = go u.tag is
  where
    go : (t : Tag) → is_event t ≡ true → is_standard t ≡ false
    go (Tag.Std n) e = absurd (false≢true e)
    go (Tag.Event n) e = refl

-- ---- a use is at another stage, or is gone uncounted

-- the entry of a use after its mark
own_entry : (u : Use) (h : Heard) (s : OpenStage) → stage_by (own h u).stage ≡ s → entry (own h u) ≡ staged (entry u) s
own_entry u h s is = ap (λ (x : OpenStage). staged (entry u) x) is

kept_in : (test : Tag → Bool) (before : List Use) (u : Use) (after : List Use) (h : Heard) (s : OpenStage) (hs : List OpenCommand)
    → test u.tag ≡ true → stage_by (own h u).stage ≡ s → picks test before ++ staged (entry u) s ∷ picks test after ≡ hs
    → picks test (uses_after before u after h false) ≡ hs
kept_in test before u after h s hs is stage_is same = picks_kept test before u after h is
    ∙ (ap (λ (x : OpenCommand). picks test before ++ x ∷ picks test after) (own_entry u h s stage_is) ∙ same)

kept_out : (lossy : Bool) (b : Table) (d : Dialogue) (test : Tag → Bool) (before : List Use) (u : Use) (after : List Use) (h : Heard)
    (ended : Bool) (hs : List OpenCommand) → d.uses ≡ before ++ u ∷ after → test u.tag ≡ false → picks test d.uses ≡ hs
    → picks test (uses_after before u after h ended) ≡ hs
kept_out lossy b d test before u after h ended hs parts is same =
    picks_other test before u after h ended is ∙ (ap (picks test) (sym parts) ∙ same)

-- a tally in which nothing is counted, and what then agrees
quiet_agrees : (lossy : Bool) (b : Table) (d : Dialogue) (before : List Use) (u : Use) (after : List Use) (h : Heard) (ended : Bool)
    (standard event : List OpenCommand) (failed : Bool) → Around lossy b d before u after → (ended ≡ false → IsOurs (own h u))
    → picks is_standard (uses_after before u after h ended) ≡ standard → picks is_event (uses_after before u after h ended) ≡ event
    → (failed ≡ false → IsNext lossy (marked_as d before u after h ended []) (record (b.tally) { failed = failed }))
    → AgreesOn lossy (tabled standard event (record (b.tally) { failed = failed })) (marked_as d before u after h ended [])
quiet_agrees lossy b d before u after h ended standard event failed a one standard_is event_is calm =
    let g : AgreesOn lossy b d = Around.agrees a in
    marked_agrees lossy b d before u after h ended [] standard event (record (b.tally) { failed = failed }) a one standard_is event_is
    (quiet_exact lossy (all_done b.tally.counted) d.reported (AgreesOn.exact g))
    (claims_same b.tally.counted d.reported [] (AgreesOn.claims g) refl)
    (AgreesOn.arguments g) (AgreesOn.no_abort g) calm

-- ---- a command is counted

abbrev first_command : List Command → Command → Command
first_command [] d = d
first_command (c ∷ cs) d = c

abbrev other_commands : List Command → List Command
other_commands [] = []
other_commands (c ∷ cs) = cs

no_more : (c : Command) (cs : List Command) → c ∷ cs ≡ [] → ⊥
no_more c cs e = cc

passed_next : (over : Bool) (lives : List Command) (unsent rest : List Planned) → lives ++ commands_of unsent ≡ commands_of rest
    → (over ≡ true → lives ≡ []) → lives ++ commands_of (passed_over over unsent) ≡ commands_of (passed_over over rest)
passed_next false lives unsent rest e none = e
passed_next true lives unsent rest e none = ap (λ (l : List Command). l ++ commands_of (passed_over true unsent)) (none refl)
    ∙ passed_commands true unsent rest (ap (λ (l : List Command). l ++ commands_of unsent) (sym (none refl)) ∙ e)

-- what a witness knows of a command that is complete, when it reports it
known_fits : (lossy : Bool) (before : List Use) (u : Use) (after : List Use) (lines : ℕ) (base : Selected)
    → AreCounted 0 (before ++ u ∷ after) lines → list_any waits before ≡ false → Holds lossy (before ++ u ∷ after) u.line base u.known
    → Fits lossy base (own Heard.Complete u).known
known_fits lossy before u after lines base rising none holds =
    holds_fits lossy (before ++ u ∷ after) u.line base (own Heard.Complete u).known (front_done before u after lines rising none)
    (holds_moved lossy lossy (before ++ u ∷ after) (before ++ u ∷ after) u.line (Renewal.Mark u.line Heard.Complete) base
    (all_renewed Renewal.Answer u.known) (aside_moves lossy (before ++ u ∷ after) u.line Heard.Complete)
    (holds_moved lossy lossy (before ++ u ∷ after) (before ++ u ∷ after) u.line Renewal.Answer base u.known
    (answer_moves lossy (before ++ u ∷ after) u.line (front_done before u after lines rising none)) holds))

counts_agrees : (lossy : Bool) (ws : List Wanted) (b : Table) (d : Dialogue) (before : List Use) (u : Use) (after : List Use)
    (hs : List OpenCommand) (given : Option Datum) (c : Command)
    → Around lossy b d before u after → is_standard u.tag ≡ true → picks is_standard before ++ picks is_standard after ≡ hs
    → u.command ≡ Sends c → waits u ≡ true → list_any waits before ≡ false → b.tally.failed ≡ false → IsGiven (kind_of c) given
    → live_kinds b.standard ≡ kind_of c ∷ live_kinds hs → IsAskedLast (live_kinds b.standard)
    → Carries (so_far u) Heard.Complete (Some Progress.Done)
    → AgreesOn lossy (tabled hs b.event (counted_next ws (kind_of c) given b.tally.todo b.tally))
    (marked_as d before u after Heard.Complete true (act_of (own Heard.Complete u).known c given))
counts_agrees lossy ws b d before u after hs given c a is same sends waits_now none calm given_one kinds last carries = go b.tally.todo refl
  where
    y : Tally
    y = b.tally

    over : Bool
    over = tells_homed (kind_of c) given

    g : AgreesOn lossy b d
    g = Around.agrees a

    lives : live d.uses ≡ c ∷ live after
    lives = ap live (Around.parts a) ∙ (live_more before (u ∷ after)
        ∙ (ap (λ (l : List Command). l ++ live (u ∷ after)) (none_live before none)
        ∙ (live_in u after waits_now ∙ ap (λ (x : SentCommand). command_in x ∷ live after) sends)))

    left : live (uses_after before u after Heard.Complete true) ≡ live after
    left = live_gone before u after Heard.Complete ∙ ap (λ (l : List Command). l ++ live after) (none_live before none)

    standard_is : picks is_standard (uses_after before u after Heard.Complete true) ≡ hs
    standard_is = picks_gone is_standard before u after Heard.Complete ∙ same

    kinds_left : live_kinds hs ≡ map kind_of (live (before ++ after))
    kinds_left = ap live_kinds (sym (picks_more is_standard before after ∙ same))
        ∙ live_are (before ++ after) (each_more IsOurs before after (Around.earlier a) (Around.later a))

    left_none : over ≡ true → live after ≡ []
    left_none e =
        let asked : IsAskedLast (kind_of c ∷ live_kinds hs) = subst IsAskedLast kinds last in
        let empty : live_kinds hs ≡ [] = asked.0 (told_asks (kind_of c) given e) in
        sym (live_more before after ∙ ap (λ (l : List Command). l ++ live after) (none_live before none))
        ∙ no_kinds (live (before ++ after)) (sym kinds_left ∙ empty)

    next : IsNext lossy d y
    next = AgreesOn.calm g calm

    counted : IsCounted lossy d before u after Heard.Complete (IsNext.base next) (selected_after (IsNext.base next) c)
    counted = next_counted lossy d y before u after Heard.Complete c (Around.parts a) (Around.rising a) waits_now none sends carries next

    fits : Fits lossy (IsNext.base next) (own Heard.Complete u).known
    fits = known_fits lossy before u after d.lines (IsNext.base next) (Around.rising a) none (IsCounted.fits counted)

    whole : c ∷ (live after ++ commands_of y.unsent) ≡ commands_of y.todo
    whole = ap (λ (l : List Command). l ++ commands_of y.unsent) (sym lives) ∙ IsNext.commands next

    go : (todo : List Planned) → y.todo ≡ todo → AgreesOn lossy (tabled hs b.event (counted_next ws (kind_of c) given todo y))
        (marked_as d before u after Heard.Complete true (act_of (own Heard.Complete u).known c given))
    go [] todo_is = absurd (no_more c (live after ++ commands_of y.unsent) (whole ∙ ap commands_of todo_is))
    go (q ∷ rest) todo_is =
        let now : c ∷ (live after ++ commands_of y.unsent) ≡ q.command ∷ commands_of rest = whole ∙ ap commands_of todo_is in
        let first : c ≡ q.command = ap (λ (l : List Command). first_command l c) now in
        let rest_is : live after ++ commands_of y.unsent ≡ commands_of rest = ap other_commands now in
        let agrees : TellsAs (IsNext.base next) q.command q.does × Agrees (selected_after (IsNext.base next) q.command) rest =
        subst (Agrees (IsNext.base next)) todo_is (IsNext.agrees next) in
        let mid : Tally = record y {
          session = y.session || begins_session (kind_of c);
          todo = passed_over over rest;
          unsent = passed_over over y.unsent;
          counted = y.counted ++ act_for q.does given;
          completed = suc y.completed;
        } in
        let end : Tally = measured ws q.does given mid in
        let keeps : Keeps mid end = measured_keeps ws q.does given mid in
        let reports : List Reported = act_of (own Heard.Complete u).known c given in
        let tells : Tells lossy (act_for q.does given) reports =
        subst (λ (x : Command). Tells lossy (act_for q.does given) (act_of (own Heard.Complete u).known x given)) (sym first)
        (agrees.0 lossy (own Heard.Complete u).known fits given (subst (λ (x : Command). IsGiven (kind_of x) given) first given_one)) in
        marked_agrees lossy b d before u after Heard.Complete true reports hs b.event end a (λ e. absurd (false≢true (sym e)))
        standard_is
        (kept_out lossy b d is_event before u after Heard.Complete true b.event (Around.parts a) (not_event u is) (AgreesOn.event g))
        (λ e. ap (λ (l : List Reported). l ++ reports) (AgreesOn.exact g e)
        ∙ (ap (λ (l : List Reported). all_done y.counted ++ l) (Tells.exact tells e)
        ∙ (sym (map-append _ y.counted (act_for q.does given)) ∙ ap all_done (sym keeps.counted))))
        (subst (λ (l : List Act). Claims l (d.reported ++ reports)) (sym keeps.counted)
        (claims_more y.counted (act_for q.does given) d.reported reports (AgreesOn.claims g) (Tells.shown tells)))
        (subst HaveArguments (sym keeps.unsent) (passes HaveArguments (λ p qs e f. f.1) over y.unsent (AgreesOn.arguments g)))
        (subst HasNoAbort (sym keeps.unsent) (passed_no_abort over y.unsent (AgreesOn.no_abort g)))
        (λ e. record {
          base = selected_after (IsNext.base next) c;
          commands = ap (λ (l : List Planned). live (uses_after before u after Heard.Complete true) ++ commands_of l) keeps.unsent
              ∙ (ap (λ (l : List Command). l ++ commands_of (passed_over over y.unsent)) left
              ∙ (passed_next over (live after) y.unsent rest rest_is left_none ∙ ap commands_of (sym keeps.todo)));
          agrees = subst (Agrees (selected_after (IsNext.base next) c)) (sym keeps.todo)
              (passed_agrees (selected_after (IsNext.base next) c) over rest
              (subst (λ (x : Command). Agrees (selected_after (IsNext.base next) x) rest) (sym first) agrees.1));
          known = IsCounted.known counted;
          last = IsCounted.last counted;
        })

-- ---- an expected mark of a standard command

-- at the front no command that was sent before it waits, and none has failed
abbrev Leads : Bool → Table → List Use → Type 0
Leads front b before = front ≡ true → (list_any waits before ≡ false) × (b.tally.failed ≡ false)

put_refused : (hs : List OpenCommand) (cause : Cause) → put_all hs (Err cause) ≡ Err cause
put_refused [] cause = refl
put_refused (h ∷ hs) cause = ap (put_before h) (put_refused hs cause)

no_answer : (hs gs : List OpenCommand) (e : Effect) (cause : Cause) → put_all hs (Err cause) ≡ two gs e → ⊥
no_answer hs gs e cause is = clash (sym (put_refused hs cause) ∙ is)
  where
    clash : ◌≡◌ {A = Heardings} (Err cause) (two gs e) → ⊥
    clash same = cc

-- what a mark reports
abbrev step_for : Use → Command → Mark → Step
step_for u c m = step (asks_data (kind_of c)) u.stage (heard_of m)

-- where the client has a tally, a witness reports nothing, and the use is at another stage
quiet_is : (d : Dialogue) (before : List Use) (u : Use) (after : List Use) (c : Command) (m : Mark) (ended : Bool) → ends m ≡ ended
    → IsQuiet c (step_for u c m)
    → marked_as d before u after (heard_of m) (ends m) (reports_of u (heard_of m) c) ≡ marked_as d before u after (heard_of m) ended []
quiet_is d before u after c m ended is quiet =
    ap (λ (e : Bool). marked_as d before u after (heard_of m) e (reports_of u (heard_of m) c)) is
    ∙ ap (λ (l : List Reported). marked_as d before u after (heard_of m) ended l) (quiet (own (heard_of m) u).known u.tag)

-- the mark that counts
counting : (front : Bool) (k : Kind) (s : OpenStage) (m : Mark) (given : Option Datum) → judged front k s m ≡ Counts given
    → heard_of m ≡ Heard.Complete
counting front k s Mark.Done given v = refl
counting front k OpenStage.Sent Mark.Ack given v = absurd (cc)
counting front k OpenStage.Received Mark.Ack given v = absurd (cc)
counting front k (OpenStage.Given e) Mark.Ack given v = absurd (cc)
counting front k OpenStage.Failed Mark.Ack given v = absurd (cc)
counting front k OpenStage.Sent Mark.Error given v = absurd (cc)
counting front k OpenStage.Received Mark.Error given v = absurd (cc)
counting front k (OpenStage.Given e) Mark.Error given v = absurd (cc)
counting front k OpenStage.Failed Mark.Error given v = absurd (cc)
counting front k s (Mark.Given d) given v = go (front && fits k d) s v
  where
    go : (b : Bool) (s : OpenStage) → judged_given b s d ≡ Counts given → Heard.Given d ≡ Heard.Complete
    go false s v = absurd (cc)
    go true OpenStage.Sent v = absurd (cc)
    go true OpenStage.Received v = absurd (cc)
    go true (OpenStage.Given e) v = absurd (cc)
    go true OpenStage.Failed v = absurd (cc)

-- what a mark carries of a use
kept_carries : (u : Use) (h : Heard) (c : Command) → u.command ≡ Sends c → waits (own h u) ≡ waits u
    → Carried (asks_data (kind_of c)) u.stage h (stage_after u.stage (step (asks_data (kind_of c)) u.stage h))
    → Carries (so_far u) h (so_far (own h u))
kept_carries u h c sends same carried =
    let asks : asks_data (kind_by u.command) ≡ asks_data (kind_of c) = ap (λ (x : SentCommand). asks_data (kind_by x)) sends in
    let before : so_far u ≡ cond (waits u && not (asks_data (kind_of c))) (by_stage u.stage) None =
    ap (λ (x : Bool). cond (waits u && not x) (by_stage u.stage) None) asks in
    let later : so_far (own h u) ≡ cond (waits u && not (asks_data (kind_of c)))
    (by_stage (stage_after u.stage (step (asks_data (kind_of c)) u.stage h))) None =
    ap (λ (x : Bool). cond (waits (own h u) && not x) (by_stage (own h u).stage) None) asks
    ∙ (ap (λ (x : Bool). cond (x && not (asks_data (kind_of c))) (by_stage (own h u).stage) None) same
    ∙ ap (λ (x : Stage). cond (waits u && not (asks_data (kind_of c))) (by_stage x) None) (own_stage u h c sends)) in
    subst (λ (x : Option Progress). Carries x h (so_far (own h u))) (sym before)
    (subst (λ (x : Option Progress). Carries (cond (waits u && not (asks_data (kind_of c))) (by_stage u.stage) None) h x) (sym later)
    (carried (waits u)))

out_carries : (u : Use) (h : Heard) (c : Command) → u.command ≡ Sends c → CarriedOut (asks_data (kind_of c)) u.stage h
    → Carries (so_far u) h (Some Progress.Done)
out_carries u h c sends carried = subst (λ (x : Option Progress). Carries x h (Some Progress.Done))
    (ap (λ (x : SentCommand). cond (waits u && not (asks_data (kind_by x))) (by_stage u.stage) None) (sym sends)) (carried (waits u))

-- a standard use that waits has not failed
waiting_calm : (u : Use) → IsOurs u → is_event u.tag ≡ false → waits u ≡ true → is_lost u.stage ≡ false
waiting_calm u one event waiting = go (is_lost u.stage) refl
  where
    go : (b : Bool) → is_lost u.stage ≡ b → is_lost u.stage ≡ false
    go false is = is
    go true is = absurd (false≢true (sym (standard_waits u one event ∙ ap not (same_failed u.stage ∙ is)) ∙ waiting))

-- what is reported of a command that is counted
count_is : (d : Dialogue) (before : List Use) (u : Use) (after : List Use) (c : Command) (m : Mark) (given : Option Datum) → ends m ≡ true
    → heard_of m ≡ Heard.Complete → ((k : Known) (tag : Tag) → report_of k tag c (step_for u c m) ≡ act_of k c given)
    → marked_as d before u after (heard_of m) (ends m) (reports_of u (heard_of m) c)
    ≡ marked_as d before u after Heard.Complete true (act_of (own Heard.Complete u).known c given)
count_is d before u after c m given is it reports =
    ap (λ (e : Bool). marked_as d before u after (heard_of m) e (reports_of u (heard_of m) c)) is
    ∙ (ap (λ (l : List Reported). marked_as d before u after (heard_of m) true l) (reports (own (heard_of m) u).known u.tag)
    ∙ ap (λ (h : Heard). marked_as d before u after h true (act_of (own h u).known c given)) it)

standard_by : (lossy : Bool) (ws : List Wanted) (b : Table) (d : Dialogue) (before : List Use) (u : Use) (after : List Use) (m : Mark)
    (hs : List OpenCommand) (e : Effect) (front : Bool) (c : Command)
    → Around lossy b d before u after → is_standard u.tag ≡ true → u.command ≡ Sends c → Leads front b before
    → Fronted (not b.tally.failed) (live_kinds b.standard) (live_kinds hs) e
    → (b.tally.failed ≡ false → IsAskedLast (live_kinds b.standard))
    → (v : Verdict) → judged front (kind_of c) (stage_by u.stage) m ≡ v
    → put_all (picks is_standard before) (settled (entry u) (picks is_standard after) v) ≡ two hs e
    → Follows c u.stage m (step_for u c m) v
    → AgreesOn lossy (tabled hs b.event (tallied ws e b.tally))
    (marked_as d before u after (heard_of m) (ends m) (reports_of u (heard_of m) c))
standard_by lossy ws b d before u after m hs e front c a is sends leads fronts last (Becomes next) v settles f =
    let same = same_two _ _ _ _ (sym (put_fine (picks is_standard before) (staged (entry u) next ∷ picks is_standard after) Effect.Quiet)
    ∙ settles) in
    let own_one : IsOurs (own (heard_of m) u) = own_ours u (heard_of m) c (Around.one a) sends f.1.1 in
    let stage_is : stage_by (own (heard_of m) u).stage ≡ next = ap stage_by (own_stage u (heard_of m) c sends) ∙ f.1.0 in
    let alike : waits (own (heard_of m) u) ≡ waits u = same_waits u (heard_of m) next (Around.one a) own_one stage_is
    (becomes_alike front (kind_of c) (stage_by u.stage) m next v) in
    subst (λ (x : Effect). AgreesOn lossy (tabled hs b.event (tallied ws x b.tally))
    (marked_as d before u after (heard_of m) (ends m) (reports_of u (heard_of m) c))) same.1
    (subst (AgreesOn lossy (tabled hs b.event b.tally)) (sym (quiet_is d before u after c m false f.0 f.2))
    (quiet_agrees lossy b d before u after (heard_of m) false hs b.event b.tally.failed a (λ x. own_one)
    (kept_in is_standard before u after (heard_of m) next hs is stage_is same.0)
    (kept_out lossy b d is_event before u after (heard_of m) false b.event (Around.parts a) (not_event u is) (AgreesOn.event (Around.agrees a)))
    (λ calm. next_kept lossy d b.tally before u after (heard_of m) [] (Around.parts a) (Around.rising a) alike
    (kept_carries u (heard_of m) c sends alike f.3)
    (λ answer waiting. (leads (needs_front front (kind_of c) u.stage m answer (waiting_calm u (Around.one a) (not_event u is) waiting)
    (subst IsTaken (sym v) tt))).0)
    (AgreesOn.calm (Around.agrees a) calm))))
standard_by lossy ws b d before u after m hs e front c a is sends leads fronts last Breaks v settles f =
    let same = same_two _ _ _ _
    (sym (put_fine (picks is_standard before) (staged (entry u) OpenStage.Failed ∷ picks is_standard after) Effect.Failure) ∙ settles) in
    let own_one : IsOurs (own (heard_of m) u) = own_ours u (heard_of m) c (Around.one a) sends f.1.1 in
    let stage_is : stage_by (own (heard_of m) u).stage ≡ OpenStage.Failed = ap stage_by (own_stage u (heard_of m) c sends) ∙ f.1.0 in
    subst (λ (x : Effect). AgreesOn lossy (tabled hs b.event (tallied ws x b.tally))
    (marked_as d before u after (heard_of m) (ends m) (reports_of u (heard_of m) c))) same.1
    (subst (AgreesOn lossy (tabled hs b.event (record (b.tally) { failed = true }))) (sym (quiet_is d before u after c m false f.0 f.2))
    (quiet_agrees lossy b d before u after (heard_of m) false hs b.event true a (λ x. own_one)
    (kept_in is_standard before u after (heard_of m) OpenStage.Failed hs is stage_is same.0)
    (kept_out lossy b d is_event before u after (heard_of m) false b.event (Around.parts a) (not_event u is) (AgreesOn.event (Around.agrees a)))
    (λ calm. absurd (false≢true (sym calm)))))
standard_by lossy ws b d before u after m hs e front c a is sends leads fronts last Closes v settles f =
    let same = same_two _ _ _ _ (sym (put_fine (picks is_standard before) (picks is_standard after) Effect.Quiet) ∙ settles) in
    let rests : waits u ≡ false = failed_rests u (Around.one a) (closed_failed front (kind_of c) (stage_by u.stage) m v) in
    subst (λ (x : Effect). AgreesOn lossy (tabled hs b.event (tallied ws x b.tally))
    (marked_as d before u after (heard_of m) (ends m) (reports_of u (heard_of m) c))) same.1
    (subst (AgreesOn lossy (tabled hs b.event b.tally)) (sym (quiet_is d before u after c m true f.0 f.1))
    (quiet_agrees lossy b d before u after (heard_of m) true hs b.event b.tally.failed a (λ x. absurd (false≢true (sym x)))
    (picks_gone is_standard before u after (heard_of m) ∙ same.0)
    (kept_out lossy b d is_event before u after (heard_of m) true b.event (Around.parts a) (not_event u is) (AgreesOn.event (Around.agrees a)))
    (λ calm. next_closed lossy d b.tally before u after (heard_of m) [] (Around.parts a) (Around.rising a) rests
    (AgreesOn.calm (Around.agrees a) calm))))
standard_by lossy ws b d before u after m hs e front c a is sends leads fronts last (Counts given) v settles f =
    let same = same_two _ _ _ _ (sym (put_fine (picks is_standard before) (picks is_standard after) (Effect.Count (kind_by u.command) given))
    ∙ settles) in
    let counted : Effect.Count (kind_of c) given ≡ e = ap (λ (x : SentCommand). Effect.Count (kind_by x) given) (sym sends) ∙ same.1 in
    let lead = leads (counted_front front (kind_of c) (stage_by u.stage) m given v) in
    let fronted_now : Fronted (not b.tally.failed) (live_kinds b.standard) (live_kinds hs) (Effect.Count (kind_of c) given) =
    subst (λ (x : Effect). Fronted (not b.tally.failed) (live_kinds b.standard) (live_kinds hs) x) (sym counted) fronts in
    let it : heard_of m ≡ Heard.Complete = counting front (kind_of c) (stage_by u.stage) m given v in
    let waits_now : waits u ≡ true = standard_waits u (Around.one a) (not_event u is)
    ∙ ap not (counted_calm front (kind_of c) (stage_by u.stage) m given v) in
    subst (λ (x : Effect). AgreesOn lossy (tabled hs b.event (tallied ws x b.tally))
    (marked_as d before u after (heard_of m) (ends m) (reports_of u (heard_of m) c))) counted
    (subst (AgreesOn lossy (tabled hs b.event (counted_next ws (kind_of c) given b.tally.todo b.tally)))
    (sym (count_is d before u after c m given f.0 it f.1))
    (counts_agrees lossy ws b d before u after hs given c a is same.0 sends waits_now lead.0 lead.1 fronted_now.2 fronted_now.1 (last lead.1)
    (subst (λ (h : Heard). Carries (so_far u) h (Some Progress.Done)) it (out_carries u (heard_of m) c sends f.2))))
standard_by lossy ws b d before u after m hs e front c a is sends leads fronts last (Refused cause) v settles f =
    absurd (no_answer (picks is_standard before) hs e cause settles)

-- a mark reads as what the client hears
pub record ReadsAs (t : Tag) (hs : List OpenCommand) (signal : Signal) (m : Mark) : Type 0 where
  pub heard : (c : Command) → held_kind t hs ≡ Some (kind_of c) → heard_as (Sends c) signal ≡ heard_of m
  pub ended : is_end signal ≡ ends m

taken_by : (xs ys : List OpenCommand) (h : OpenCommand) (gs : List OpenCommand) (e : Effect) (v : Verdict)
    → put_all xs (settled h ys v) ≡ two gs e → IsTaken v
taken_by xs ys h gs e (Becomes next) is = tt
taken_by xs ys h gs e Breaks is = tt
taken_by xs ys h gs e Closes is = tt
taken_by xs ys h gs e (Counts given) is = tt
taken_by xs ys h gs e (Refused cause) is = no_answer xs gs e cause is

-- what a witness becomes at the mark
mark_first : (lossy : Bool) (b : Table) (d : Dialogue) (line : List ℕ) (test : Tag → Bool) (hs : List OpenCommand) (tag : Tag) (signal : Signal)
    (m : Mark) (front : Bool) (gs : List OpenCommand) (e : Effect) → picks test d.uses ≡ hs → ReadsAs tag hs signal m
    → (k : IsCut test front d.uses tag m gs e) → (a : Around lossy b d k.before k.u k.after) → IsInTurn k.before k.u (heard_of m)
    → server_answered d line (Some (tag, signal))
    ≡ marked_as d k.before k.u k.after (heard_of m) (ends m) (reports_of k.u (heard_of m) (IsOurs.command (Around.one a)))
mark_first lossy b d line test hs tag signal m front gs e held reads k a turn =
    let one : IsOurs k.u = Around.one a in
    let kind_is : held_kind tag hs ≡ Some (kind_of (IsOurs.command one)) =
    ap (held_kind tag) (sym held) ∙ (k.kind_is ∙ ap (λ (x : SentCommand). Some (kind_by x)) (IsOurs.sends one)) in
    heard_first d line tag signal (heard_of m) k.before k.u k.after (IsOurs.command one) k.parts k.none k.here (Around.earlier a)
    (Around.later a) (IsOurs.alone one) (IsOurs.sends one) (none_before 0 k.before k.u k.after d.lines (Around.rising a))
    (none_after 0 k.before k.u k.after d.lines (Around.rising a)) (AgreesOn.straight (Around.agrees a))
    (ap (λ (x : SentCommand). heard_as x signal) (IsOurs.sends one) ∙ ReadsAs.heard reads (IsOurs.command one) kind_is) turn
    ∙ ap (λ (x : Bool). marked_as d k.before k.u k.after (heard_of m) x (reports_of k.u (heard_of m) (IsOurs.command one)))
    (ReadsAs.ended reads)

-- how it settles, by the command
settles_by : (test : Tag → Bool) (before : List Use) (u : Use) (after : List Use) (m : Mark) (now : Bool) (hs : List OpenCommand) (e : Effect)
    (c : Command) → u.command ≡ Sends c
    → put_all (picks test before) (settled (entry u) (picks test after) (judged now (kind_by u.command) (stage_by u.stage) m)) ≡ two hs e
    → put_all (picks test before) (settled (entry u) (picks test after) (judged now (kind_of c) (stage_by u.stage) m)) ≡ two hs e
settles_by test before u after m now hs e c sends is =
    ap (λ (x : SentCommand). put_all (picks test before)
    (settled (entry u) (picks test after) (judged now (kind_by x) (stage_by u.stage) m))) (sym sends) ∙ is

leads_at : (lossy : Bool) (b : Table) (d : Dialogue) (tag : Tag) (m : Mark) (hs : List OpenCommand) (e : Effect)
    → (k : IsCut is_standard (not b.tally.failed) d.uses tag m hs e) → AgreesOn lossy b d → Leads k.now b k.before
leads_at lossy b d tag m hs e k g now =
    let both = and_parts (not b.tally.failed) (all_failed (picks is_standard k.before)) (sym k.now_is ∙ now) in (
      failed_wait k.before (ours_front k.before (k.u ∷ k.after) (subst AreOurs k.parts (AgreesOn.ours g))) both.1,
      not-true b.tally.failed both.0,
    )

-- the client's table and the witness agree after it, where the command is found
standard_at : (lossy : Bool) (ws : List Wanted) (b : Table) (d : Dialogue) (line : List ℕ) (n : ℕ) (m : Mark) (signal : Signal)
    (hs : List OpenCommand) (e : Effect) → (k : IsCut is_standard (not b.tally.failed) d.uses (Tag.Std n) m hs e)
    → Around lossy b d k.before k.u k.after → Leads k.now b k.before → ReadsAs (Tag.Std n) b.standard signal m
    → Fronted (not b.tally.failed) (live_kinds b.standard) (live_kinds hs) e
    → (b.tally.failed ≡ false → IsAskedLast (live_kinds b.standard))
    → AgreesOn lossy (tabled hs b.event (tallied ws e b.tally)) (server_answered d line (Some (Tag.Std n, signal)))
standard_at lossy ws b d line n m signal hs e k a leads reads fronts last =
    let one : IsOurs k.u = Around.one a in
    let c : Command = IsOurs.command one in
    let settles = settles_by is_standard k.before k.u k.after m k.now hs e c (IsOurs.sends one) k.settles in
    subst (AgreesOn lossy (tabled hs b.event (tallied ws e b.tally)))
    (sym (mark_first lossy b d line is_standard b.standard (Tag.Std n) signal m (not b.tally.failed) hs e (AgreesOn.standard (Around.agrees a))
    reads k a
    (λ answer calm. ap (λ (x : Bool). has_turn k.u.command && x) (leads (needs_front k.now (kind_of c) k.u.stage m answer
    (sym (IsOurs.lost one) ∙ calm) (taken_by (picks is_standard k.before) (picks is_standard k.after) (entry k.u) hs e
    (judged k.now (kind_of c) (stage_by k.u.stage) m) settles))).0 ∙ and_false (has_turn k.u.command))))
    (standard_by lossy ws b d k.before k.u k.after m hs e k.now c a k.picked (IsOurs.sends one) leads fronts last
    (judged k.now (kind_of c) (stage_by k.u.stage) m) refl settles (follows k.now c k.u.stage m))

-- and so they do after it
pub standard_agrees : (lossy : Bool) (ws : List Wanted) (b : Table) (d : Dialogue) (line : List ℕ) (n : ℕ) (m : Mark) (signal : Signal)
    (hs : List OpenCommand) (e : Effect)
    → heard_in (not b.tally.failed) b.standard (Tag.Std n) m ≡ two hs e → ReadsAs (Tag.Std n) b.standard signal m
    → AreFilled b.standard → (b.tally.failed ≡ false → IsAskedLast (live_kinds b.standard)) → AgreesOn lossy b d
    → AgreesOn lossy (tabled hs b.event (tallied ws e b.tally)) (server_answered d line (Some (Tag.Std n, signal)))
standard_agrees lossy ws b d line n m signal hs e is reads filled last g =
    found (cut is_standard (not b.tally.failed) d.uses (Tag.Std n) m hs e refl
    (ap (λ (l : List OpenCommand). heard_in (not b.tally.failed) l (Tag.Std n) m) (AgreesOn.standard g) ∙ is))
  where
    found : (k : IsCut is_standard (not b.tally.failed) d.uses (Tag.Std n) m hs e)
        → AgreesOn lossy (tabled hs b.event (tallied ws e b.tally)) (server_answered d line (Some (Tag.Std n, signal)))
    found k = standard_at lossy ws b d line n m signal hs e k (around lossy b d k.before k.u k.after g k.parts)
        (leads_at lossy b d (Tag.Std n) m hs e k g) reads
        (fronted (not b.tally.failed) b.standard (Tag.Std n) m hs e is filled) last

-- ---- an expected mark of an event command

-- it is an abort
the_abort : (c : Command) → is_event_kind (kind_of c) ≡ true → c ≡ Command.AbortE
the_abort Command.AbortE e = refl
the_abort Command.StartSession e = absurd (false≢true e)
the_abort Command.EndSession e = absurd (false≢true e)
the_abort Command.ClearAllErrors e = absurd (false≢true e)
the_abort Command.IsHomed e = absurd (false≢true e)
the_abort Command.Home e = absurd (false≢true e)
the_abort Command.OnPtMeasReport e = absurd (false≢true e)
the_abort (Command.GoTo p) e = absurd (false≢true e)
the_abort (Command.PtMeas p d) e = absurd (false≢true e)
the_abort (Command.ChangeTool n) e = absurd (false≢true e)
the_abort (Command.SetCsyTransformation p) e = absurd (false≢true e)
the_abort (Command.SetCoordSystem s) e = absurd (false≢true e)

act_none : (k : Known) (c : Command) (given : Option Datum) → is_event_kind (kind_of c) ≡ true → act_of k c given ≡ []
act_none k c given e = ap (λ (x : Command). act_of k x given) (the_abort c e)

-- the command is kept
event_stays : (lossy : Bool) (b : Table) (d : Dialogue) (before : List Use) (u : Use) (after : List Use) (m : Mark) (hs : List OpenCommand)
    (c : Command) (next : OpenStage) → Around lossy b d before u after → is_event u.tag ≡ true → u.command ≡ Sends c
    → picks is_event before ++ staged (entry u) next ∷ picks is_event after ≡ hs
    → stage_by (own (heard_of m) u).stage ≡ next → IsOurs (own (heard_of m) u)
    → AgreesOn lossy (tabled b.standard hs b.tally) (marked_as d before u after (heard_of m) false [])
event_stays lossy b d before u after m hs c next a is sends same stage_is own_one =
    let rests : waits u ≡ false = event_rests u (Around.one a) is in
    quiet_agrees lossy b d before u after (heard_of m) false b.standard hs b.tally.failed a (λ x. own_one)
    (kept_out lossy b d is_standard before u after (heard_of m) false b.standard (Around.parts a) (not_standard u is)
    (AgreesOn.standard (Around.agrees a)))
    (kept_in is_event before u after (heard_of m) next hs is stage_is same)
    (λ calm. next_kept lossy d b.tally before u after (heard_of m) [] (Around.parts a) (Around.rising a)
    (event_rests (own (heard_of m) u) own_one is ∙ sym rests) (rest_carries u (heard_of m) (so_far (own (heard_of m) u)) rests)
    (λ answer waiting. absurd (false≢true (sym rests ∙ waiting))) (AgreesOn.calm (Around.agrees a) calm))

-- or gone
event_goes : (lossy : Bool) (b : Table) (d : Dialogue) (before : List Use) (u : Use) (after : List Use) (m : Mark) (hs : List OpenCommand)
    → Around lossy b d before u after → is_event u.tag ≡ true → picks is_event before ++ picks is_event after ≡ hs
    → AgreesOn lossy (tabled b.standard hs b.tally) (marked_as d before u after (heard_of m) true [])
event_goes lossy b d before u after m hs a is same =
    quiet_agrees lossy b d before u after (heard_of m) true b.standard hs b.tally.failed a (λ x. absurd (false≢true (sym x)))
    (kept_out lossy b d is_standard before u after (heard_of m) true b.standard (Around.parts a) (not_standard u is)
    (AgreesOn.standard (Around.agrees a)))
    (picks_gone is_event before u after (heard_of m) ∙ same)
    (λ calm. next_closed lossy d b.tally before u after (heard_of m) [] (Around.parts a) (Around.rising a)
    (event_rests u (Around.one a) is) (AgreesOn.calm (Around.agrees a) calm))

event_by : (lossy : Bool) (b : Table) (d : Dialogue) (before : List Use) (u : Use) (after : List Use) (m : Mark) (hs : List OpenCommand)
    (e : Effect) (c : Command)
    → Around lossy b d before u after → is_event u.tag ≡ true → is_event_kind (kind_of c) ≡ true → u.command ≡ Sends c
    → (v : Verdict) → put_all (picks is_event before) (settled (entry u) (picks is_event after) v) ≡ two hs e
    → Follows c u.stage m (step_for u c m) v
    → AgreesOn lossy (tabled b.standard hs b.tally) (marked_as d before u after (heard_of m) (ends m) (reports_of u (heard_of m) c))
event_by lossy b d before u after m hs e c a is sort sends (Becomes next) settles f =
    let same = same_two _ _ _ _ (sym (put_fine (picks is_event before) (staged (entry u) next ∷ picks is_event after) Effect.Quiet)
    ∙ settles) in
    subst (AgreesOn lossy (tabled b.standard hs b.tally)) (sym (quiet_is d before u after c m false f.0 f.2))
    (event_stays lossy b d before u after m hs c next a is sends same.0
    (ap stage_by (own_stage u (heard_of m) c sends) ∙ f.1.0) (own_ours u (heard_of m) c (Around.one a) sends f.1.1))
event_by lossy b d before u after m hs e c a is sort sends Breaks settles f =
    let same = same_two _ _ _ _
    (sym (put_fine (picks is_event before) (staged (entry u) OpenStage.Failed ∷ picks is_event after) Effect.Failure) ∙ settles) in
    subst (AgreesOn lossy (tabled b.standard hs b.tally)) (sym (quiet_is d before u after c m false f.0 f.2))
    (event_stays lossy b d before u after m hs c OpenStage.Failed a is sends same.0
    (ap stage_by (own_stage u (heard_of m) c sends) ∙ f.1.0) (own_ours u (heard_of m) c (Around.one a) sends f.1.1))
event_by lossy b d before u after m hs e c a is sort sends Closes settles f =
    let same = same_two _ _ _ _ (sym (put_fine (picks is_event before) (picks is_event after) Effect.Quiet) ∙ settles) in
    subst (AgreesOn lossy (tabled b.standard hs b.tally)) (sym (quiet_is d before u after c m true f.0 f.1))
    (event_goes lossy b d before u after m hs a is same.0)
event_by lossy b d before u after m hs e c a is sort sends (Counts given) settles f =
    let same = same_two _ _ _ _ (sym (put_fine (picks is_event before) (picks is_event after) (Effect.Count (kind_by u.command) given))
    ∙ settles) in
    subst (AgreesOn lossy (tabled b.standard hs b.tally))
    (sym (quiet_is d before u after c m true f.0 (λ k tag. f.1 k tag ∙ act_none k c given sort)))
    (event_goes lossy b d before u after m hs a is same.0)
event_by lossy b d before u after m hs e c a is sort sends (Refused cause) settles f =
    absurd (no_answer (picks is_event before) hs e cause settles)

event_at : (lossy : Bool) (b : Table) (d : Dialogue) (line : List ℕ) (n : ℕ) (m : Mark) (signal : Signal) (hs : List OpenCommand) (e : Effect)
    → (k : IsCut is_event true d.uses (Tag.Event n) m hs e) → Around lossy b d k.before k.u k.after
    → ReadsAs (Tag.Event n) b.event signal m
    → AgreesOn lossy (tabled b.standard hs b.tally) (server_answered d line (Some (Tag.Event n, signal)))
event_at lossy b d line n m signal hs e k a reads =
    let one : IsOurs k.u = Around.one a in
    let c : Command = IsOurs.command one in
    let sort : is_event_kind (kind_of c) ≡ true = IsOurs.sort one ∙ k.picked in
    subst (AgreesOn lossy (tabled b.standard hs b.tally))
    (sym (mark_first lossy b d line is_event b.event (Tag.Event n) signal m true hs e (AgreesOn.event (Around.agrees a)) reads k a
    (λ answer calm. ap (λ (x : SentCommand). has_turn x && list_any waits k.before) (IsOurs.sends one)
    ∙ ap (λ (x : Bool). not x && list_any waits k.before) sort)))
    (event_by lossy b d k.before k.u k.after m hs e c a k.picked sort (IsOurs.sends one)
    (judged k.now (kind_of c) (stage_by k.u.stage) m)
    (settles_by is_event k.before k.u k.after m k.now hs e c (IsOurs.sends one) k.settles) (follows k.now c k.u.stage m))

-- they agree after it
pub event_agrees : (lossy : Bool) (b : Table) (d : Dialogue) (line : List ℕ) (n : ℕ) (m : Mark) (signal : Signal) (hs : List OpenCommand)
    (e : Effect) → heard_in true b.event (Tag.Event n) m ≡ two hs e → ReadsAs (Tag.Event n) b.event signal m → AgreesOn lossy b d
    → AgreesOn lossy (tabled b.standard hs b.tally) (server_answered d line (Some (Tag.Event n, signal)))
event_agrees lossy b d line n m signal hs e is reads g =
    found (cut is_event true d.uses (Tag.Event n) m hs e refl
    (ap (λ (l : List OpenCommand). heard_in true l (Tag.Event n) m) (AgreesOn.event g) ∙ is))
  where
    found : (k : IsCut is_event true d.uses (Tag.Event n) m hs e)
        → AgreesOn lossy (tabled b.standard hs b.tally) (server_answered d line (Some (Tag.Event n, signal)))
    found k = event_at lossy b d line n m signal hs e k (around lossy b d k.before k.u k.after g k.parts) reads
