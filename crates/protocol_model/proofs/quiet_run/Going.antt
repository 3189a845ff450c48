-- An undisturbed round keeps that nothing fails, and that what is held and still to be measured are the features that are wanted.
use Rattle.protocol_model.proofs.Names.{[], ◌&&◌, ◌++◌, ◌∙◌, ◌∷◌, ◌≡◌, ◌⊎◌, and_parts, Answer, answers, ap, arith, Becomes, Bool, Breaks, Cause}
use Rattle.protocol_model.proofs.Names.{Client, client_hears, Closes, cond, count_open, counted_next, Counts, Datum, Effect, ends_abort, eq-eqb, eqb}
use Rattle.protocol_model.proofs.Names.{Err, false, false≢true, Feature, first_state, heard_in, heard_on, held_now, inl, inr, is_asking, is_empty}
use Rattle.protocol_model.proofs.Names.{is_none, is_whole, Job, job_run, judged_ack, Kind, kind_of, last_state, Line, List, machined, mark_of}
use Rattle.protocol_model.proofs.Names.{MeasuredFeature, next_number, next_of, None, not, Ok, OpenCommand, Option, Outcome, Planned, queued, refl}
use Rattle.protocol_model.proofs.Names.{Reply, Result, sends_next, Server, server_machined, server_read, server_turned, Some, Stage, State}
use Rattle.protocol_model.proofs.Names.{state_behind, Std, subst, suc, sym, Table, Tag, tag_is, tag_of, tallied, Tally, true, turned_to, Waiting}
use Rattle.protocol_model.proofs.Names.{Wanted, ℕ}
use Rattle.dme_line.specs.declared.tags.Tag.TheVariants.{Event}
use Rattle.protocol_model.specs.Replies.{Mark}
use Rattle.protocol_model.proofs.HeardTables.{heard}
use Rattle.protocol_model.specs.World.{after, can, happens, World}
use Rattle.protocol_model.specs.declared.events.Event.{Event as OneEvent}
use Rattle.protocol_model.proofs.table.Basics.{if_true, if_false}
use Rattle.protocol_model.proofs.table.Walks.{two, heard_cases}
use Rattle.protocol_model.proofs.table.Replying.{fine, same_table, step_cases, Reads, with_standard, reads_with_standard}
use Rattle.protocol_model.proofs.table.Replying.{reads_distinct, step_no_event, reads_no_event}
use Rattle.protocol_model.proofs.table.Asking.{with_unsent, AreUnasked, reads_unasked}
use Rattle.protocol_model.proofs.invariant.Touching.{measured_keeps}
use Rattle.protocol_model.proofs.invariant.Holding.{listed, abort_lines, abort_helds, know_of, IsNear, IsNearBy, IsLive}
use Rattle.protocol_model.proofs.invariant.Holding.{IsOff, IsHere, IsAhead, IsGone, HasEvents}
use Rattle.protocol_model.proofs.each_event.Answers.{IsAnswered}
use Rattle.protocol_model.proofs.each_event.ReadEvent.{reads_queued}
use Rattle.protocol_model.proofs.each_event.FrontEvent.{at_front}
use Rattle.protocol_model.proofs.each_event.ServerEvents.{few_open, reads_next, is_none_of, not_nothing}
use Rattle.protocol_model.proofs.each_event.ClientEvents.{never_faulted}
use Rattle.protocol_model.proofs.each_event.ClientWrites.{IsDue, due_is}
use Rattle.protocol_model.proofs.whole_run.Carrying.{lined, IsCarried, turn_carried, machine_carried, up_carried, down_carried, ReadsFirst}
use Rattle.protocol_model.proofs.whole_run.Carrying.{reads_first}
use Rattle.protocol_model.proofs.whole_run.CarryingClient.{sends_carried, HearsFirst, hears_first}
use Rattle.protocol_model.proofs.whole_run.WholeRun.{happens_carried}
use Rattle.protocol_model.proofs.quiet_run.Jobs.{RunsJob}
use Rattle.protocol_model.proofs.quiet_run.Joining.{IsEnd, IsOfRound, IsJoined}
use Rattle.protocol_model.proofs.quiet_run.Phases.{Keeps}
use Rattle.protocol_model.proofs.quiet_run.Succeeding.{ReadyAt, Succeeds, turn_succeeds, end_succeeds}

-- ---- what replies leave

-- replies lead from a table to one table alone
pub reads_same : (ws : List Wanted) (rs : List Reply) (b c d : Table) → Reads ws b rs c → Reads ws b rs d → c ≡ d
reads_same ws [] b c d h g = sym h ∙ g
reads_same ws (r ∷ rs) b c d h g =
    let same : h.0 ≡ g.0 = same_table h.0 g.0 (sym h.1 ∙ g.1) in
    reads_same ws rs h.0 c d h.2 (subst (λ (x : Table). Reads ws x rs d) (sym same) g.2)

record Between (ws : List Wanted) (b : Table) (rs ss : List Reply) (d : Table) : Type 0 where
  mid : Table
  first : Reads ws b rs mid
  second : Reads ws mid ss d

reads_cut : (ws : List Wanted) (rs ss : List Reply) (b d : Table) → Reads ws b (rs ++ ss) d → Between ws b rs ss d
reads_cut ws [] ss b d h = record { mid = b; first = refl; second = h }
reads_cut ws (r ∷ rs) ss b d h =
    let rest : Between ws h.0 rs ss d = reads_cut ws rs ss h.0 d h.2 in
    record { mid = rest.mid; first = (h.0, h.1, rest.first); second = rest.second }

-- if nothing has failed after a reply, nothing had failed before it
counted_failed : (ws : List Wanted) (k : Kind) (given : Option Datum) (todo : List Planned) (y : Tally)
    → (counted_next ws k given todo y).failed ≡ false → y.failed ≡ false
counted_failed ws k given [] y h = h
counted_failed ws k given (p ∷ todo) y h = sym (measured_keeps ws p.does given _).failed ∙ h

tallied_failed : (ws : List Wanted) (e : Effect) (y : Tally) → (tallied ws e y).failed ≡ false → y.failed ≡ false
tallied_failed ws Effect.Quiet y h = h
tallied_failed ws Effect.Failure y h = absurd (false≢true (sym h))
tallied_failed ws (Effect.Count k given) y h = counted_failed ws k given y.todo y h

step_failed : (ws : List Wanted) (b : Table) (t : Tag) (m : Mark) (c : Table) → heard ws b t m ≡ fine c → c.tally.failed ≡ false
    → b.tally.failed ≡ false
step_failed ws b t m c is h = step_cases ws b t m c (b.tally.failed ≡ false) is
    (λ none same. subst (λ (x : Table). x.tally.failed ≡ false) (sym same) h)
    (λ n hs e tag walk g. tallied_failed ws e b.tally (subst (λ (x : Table). x.tally.failed ≡ false) g h))
    (λ n hs e tag other walk g. subst (λ (x : Table). x.tally.failed ≡ false) g h)

reads_failed : (ws : List Wanted) (rs : List Reply) (b c : Table) → Reads ws b rs c → c.tally.failed ≡ false → b.tally.failed ≡ false
reads_failed ws [] b c h f = subst (λ (x : Table). x.tally.failed ≡ false) (sym h) f
reads_failed ws (r ∷ rs) b c h f =
    step_failed ws b (tag_of r) (mark_of r) h.0 h.1 (reads_failed ws rs h.0 c h.2 f)

-- if nothing is to be done before a reply, nothing is to be done after it
tallied_todo : (ws : List Wanted) (e : Effect) (y : Tally) → y.todo ≡ [] → (tallied ws e y).todo ≡ []
tallied_todo ws Effect.Quiet y h = h
tallied_todo ws Effect.Failure y h = h
tallied_todo ws (Effect.Count k given) y h = ap (λ (l : List Planned). (counted_next ws k given l y).todo) h ∙ h

step_todo : (ws : List Wanted) (b : Table) (t : Tag) (m : Mark) (c : Table) → heard ws b t m ≡ fine c → b.tally.todo ≡ []
    → c.tally.todo ≡ []
step_todo ws b t m c is h = step_cases ws b t m c (c.tally.todo ≡ []) is
    (λ none same. subst (λ (x : Table). x.tally.todo ≡ []) same h)
    (λ n hs e tag walk g. subst (λ (x : Table). x.tally.todo ≡ []) (sym g) (tallied_todo ws e b.tally h))
    (λ n hs e tag other walk g. subst (λ (x : Table). x.tally.todo ≡ []) (sym g) h)

-- a receipt changes no tally
ack_breaks : (s : Stage) → judged_ack s ≡ Breaks → ⊥
ack_breaks Stage.Sent e = cc
ack_breaks Stage.Received e = cc
ack_breaks (Stage.Given p) e = cc
ack_breaks Stage.Failed e = cc

ack_closes : (s : Stage) → judged_ack s ≡ Closes → ⊥
ack_closes Stage.Sent e = cc
ack_closes Stage.Received e = cc
ack_closes (Stage.Given p) e = cc
ack_closes Stage.Failed e = cc

ack_counts : (s : Stage) (given : Option Datum) → judged_ack s ≡ Counts given → ⊥
ack_counts Stage.Sent given e = cc
ack_counts Stage.Received given e = cc
ack_counts (Stage.Given p) given e = cc
ack_counts Stage.Failed given e = cc

ack_quiet : (front : Bool) (hs : List OpenCommand) (t : Tag) (gs : List OpenCommand) (e : Effect) → heard_in front hs t Mark.Ack ≡ two gs e
    → e ≡ Effect.Quiet
ack_quiet front [] t gs e is = absurd (cc)
ack_quiet front (h ∷ hs) t gs e is = heard_cases front h hs t Mark.Ack gs e (e ≡ Effect.Quiet) is
    (λ s same v g f. f)
    (λ same v g f. absurd (ack_breaks h.stage v))
    (λ same v g f. absurd (ack_closes h.stage v))
    (λ given same v g f. absurd (ack_counts h.stage given v))
    (λ rest other later g. ack_quiet (front && Rattle.protocol_model.specs.Open.is_failed h.stage) hs t rest e later)

ack_tally : (ws : List Wanted) (b : Table) (t : Tag) (c : Table) → heard ws b t Mark.Ack ≡ fine c → c.tally ≡ b.tally
ack_tally ws b t c is = step_cases ws b t Mark.Ack c (c.tally ≡ b.tally) is
    (λ none same. ap (λ (x : Table). x.tally) (sym same))
    (λ n hs e tag walk g. ap (λ (x : Table). x.tally) g
    ∙ ap (λ (f : Effect). tallied ws f b.tally) (ack_quiet (not b.tally.failed) b.standard (Std n) hs e walk))
    (λ n hs e tag other walk g. ap (λ (x : Table). x.tally) g)

-- ---- what a round keeps

-- the client is Running with something to do, or Done with nothing
abbrev pub IsGoing : Client → Type 0
IsGoing c = ((c.state ≡ State.Running) × (is_empty c.table.tally.todo ≡ false)) ⊎ ((c.state ≡ State.Done) × (c.table.tally.todo ≡ []))

-- nothing has failed, and once the client has read all, what is to be done is ready at the server
pub record IsGood (answer : Job → ℕ → Outcome) (goal : List MeasuredFeature) (kept : List Feature) (b : World) : Type 0 where
  pub carried : IsCarried b
  pub going : IsGoing b.client.client
  pub error : b.server.server.error ≡ false
  pub ready : (t : Table) → Reads b.client.client.program.features b.client.client.table carried.down t
      → ReadyAt answer goal kept b.client.client.program.features b.server.server t.tally

-- a client on its connection, and the server there
pub record Here (b : World) (h : IsCarried b) : Type 0 where
  pub live : IsLive (lined b h.up h.down)
  pub near : IsNear live.table live.left h.up b.server.server.running b.server.server.waiting b.server.server.error
      (know_of b.server.server)

pub here_of : (b : World) (h : IsCarried b) → b.client.client.on ≡ true → b.server.server.on ≡ true
    → b.server.server.last ≡ b.client.client.last → Here b h
here_of b h client_on on same = go h.inv.side
  where
    placed : (live : IsLive (lined b h.up h.down)) → IsHere (lined b h.up h.down) live.table live.left
        ⊎ (IsAhead (lined b h.up h.down) live.table live.left ⊎ IsGone (lined b h.up h.down)) → Here b h
    placed live (inl here) = record { live = live; near = here.near }
    placed live (inr (inl ahead)) = absurd (apart b.server.server.last b.client.client.last ahead.below same)
      where
        apart : (m n : ℕ) → Rattle.std.proofs.Common.◌<◌ m n → m ≡ n → ⊥
        apart m n lt e = omega (arith, lt, e)
    placed live (inr (inr gone)) = absurd (false≢true (sym gone.off ∙ on))

    go : IsOff (lined b h.up h.down) ⊎ IsLive (lined b h.up h.down) → Here b h
    go (inl off) = absurd (false≢true (sym off.off ∙ client_on))
    go (inr live) = placed live live.place

-- ---- the server answers

answered_good : (answer : Job → ℕ → Outcome) (goal : List MeasuredFeature) (kept : List Feature) (b : World) → IsJoined b
    → (g : IsGood answer goal kept b) (live : IsLive (lined b g.carried.up g.carried.down)) (v : World) (carried : IsCarried v) (a : Answer)
    → v.client ≡ b.client → v.server.server ≡ a.server
    → carried.down ≡ cond (eqb b.server.server.last b.client.client.last) (g.carried.down ++ a.said) g.carried.down
    → Succeeds answer goal kept (lined b g.carried.up g.carried.down) live.table a → IsGood answer goal kept v
answered_good answer goal kept b j g live v carried a client server down succeeds = record {
  carried = carried;
  going = subst (λ (e : _). IsGoing e.client) (sym client) g.going;
  error = ap (λ (s : Server). s.error) server ∙ succeeds.error;
  ready = λ t reads.
      subst (λ (e : Rattle.protocol_model.specs.Ends.ClientEnd). ReadyAt answer goal kept e.client.program.features v.server.server t.tally)
      (sym client)
      (subst (λ (s : Server). ReadyAt answer goal kept ws s t.tally) (sym server)
      (ready t (subst (λ (d : List Reply). Reads ws b.client.client.table d t) down_is
      (subst (λ (e : Rattle.protocol_model.specs.Ends.ClientEnd). Reads e.client.program.features e.client.table carried.down t) client
      reads))));
}
  where
    ws : List Wanted
    ws = b.client.client.program.features

    down_is : carried.down ≡ g.carried.down ++ a.said
    down_is = down ∙ if_true {A = List Reply} _ _ _ (eq-eqb b.server.server.last b.client.client.last j.same)

    ready : (t : Table) → Reads ws b.client.client.table (g.carried.down ++ a.said) t → ReadyAt answer goal kept ws a.server t.tally
    ready t reads =
        let cut : Between ws b.client.client.table g.carried.down a.said t =
        reads_cut ws g.carried.down a.said b.client.client.table t reads in
        let here : cut.mid ≡ live.table = reads_same ws g.carried.down b.client.client.table cut.mid live.table cut.first live.reads in
        let same : succeeds.next ≡ t = reads_same ws a.said live.table succeeds.next t succeeds.reads
        (subst (λ (x : Table). Reads ws x a.said t) here cut.second) in
        subst (λ (x : Table). ReadyAt answer goal kept ws a.server x.tally) same succeeds.ready

-- the first that waits is processed
turn_good : (answer : Job → ℕ → Outcome) (goal : List MeasuredFeature) (kept : List Feature) (b : World) → IsJoined b
    → IsGood answer goal kept b → can OneEvent.ServerTurn b ≡ true → IsGood answer goal kept (happens OneEvent.ServerTurn b)
turn_good answer goal kept b j g may =
    answered_good answer goal kept b j g here.live (happens OneEvent.ServerTurn b) (turn_carried b g.carried j.on may)
    (server_turned b.server.server) refl refl refl (go here.near.queued here.near.by)
  where
    here : Here b g.carried
    here = here_of b g.carried j.client_on j.on j.same

    ready : ReadyAt answer goal kept b.client.client.program.features b.server.server here.live.table.tally
    ready = g.ready here.live.table here.live.reads

    no_run : b.server.server.running ≡ None
    no_run = is_none_of b.server.server.running (and_parts (is_none b.server.server.running) (not (is_empty b.server.server.waiting)) may).0

    some : b.server.server.waiting ≡ [] → ⊥
    some = not_nothing b.server.server.waiting
        (and_parts (is_none b.server.server.running) (not (is_empty b.server.server.waiting)) may).1

    go : (now : List Line) → IsNearBy here.live.table here.live.left g.carried.up b.server.server.running b.server.server.waiting
        b.server.server.error (know_of b.server.server) now here.near.coming here.near.aborts
        → Succeeds answer goal kept (lined b g.carried.up g.carried.down) here.live.table (server_turned b.server.server)
    go [] n = absurd (some n.waiting_is)
    go (x ∷ others) n =
        subst (λ (l : List Waiting). Succeeds answer goal kept (lined b g.carried.up g.carried.down) here.live.table
        (turned_to b.server.server l)) (sym n.waiting_is)
        (turn_succeeds answer goal kept (lined b g.carried.up g.carried.down) here.live.table here.live.left x others here.near.coming
        here.near.aborts
        (at_front (lined b g.carried.up g.carried.down) here.live.table here.live.left x (x ∷ others) others here.near.coming
        here.near.aborts n here.live.progress (ap (λ (o : Option Line). listed o ++ x ∷ others) no_run) g.error) ready g.error)

-- what runs ends
end_good : (answer : Job → ℕ → Outcome) (goal : List MeasuredFeature) (kept : List Feature) (b : World) (outcome : Outcome)
    → IsJoined b → IsGood answer goal kept b → IsEnd answer b.server.server outcome → can (OneEvent.Machine outcome) b ≡ true
    → IsGood answer goal kept (happens (OneEvent.Machine outcome) b)
end_good answer goal kept b outcome j g end may =
    answered_good answer goal kept b j g here.live (happens (OneEvent.Machine outcome) b)
    (machine_carried b outcome g.carried j.on may)
    (server_machined b.server.server outcome) refl refl refl (go b.server.server.running refl)
  where
    here : Here b g.carried
    here = here_of b g.carried j.client_on j.on j.same

    ready : ReadyAt answer goal kept b.client.client.program.features b.server.server here.live.table.tally
    ready = g.ready here.live.table here.live.reads

    go : (o : Option Line) → b.server.server.running ≡ o
        → Succeeds answer goal kept (lined b g.carried.up g.carried.down) here.live.table (server_machined b.server.server outcome)
    go None is = let none : None ≡ Some end.job = sym (ap (job_run b.server.server.frame) is) ∙ end.asked in absurd (cc)
    go (Some x) is =
        subst (λ (o : Option Line). Succeeds answer goal kept (lined b g.carried.up g.carried.down) here.live.table
        (machined b.server.server outcome o)) (sym is)
        (end_succeeds answer goal kept (lined b g.carried.up g.carried.down) here.live.table here.live.left x here.near.queued
        here.near.coming here.near.aborts
        (at_front (lined b g.carried.up g.carried.down) here.live.table here.live.left x here.near.queued here.near.queued here.near.coming
        here.near.aborts here.near.by here.live.progress (ap (λ (o : Option Line). listed o ++ here.near.queued) is) g.error) ready g.error
        (subst RunsJob is j.jobs) here.near.by.waiting_is end.job (sym (ap (job_run b.server.server.frame) is) ∙ end.asked) outcome
        end.answered)

-- ---- the server reads

-- no event command is open at a client that is Running or Done
going_events : (c : Client) → IsGoing c → HasEvents c.state c.abort c.table.event → c.table.event ≡ []
going_events c (inl running) h = subst (λ (s : State). HasEvents s c.abort c.table.event) running.0 h
going_events c (inr done) h = subst (λ (s : State). HasEvents s c.abort c.table.event) done.0 h

no_aborts : (ks : List ℕ) → abort_helds ks ≡ [] → ks ≡ []
no_aborts [] e = refl
no_aborts (k ∷ ks) e = absurd (cc)

abbrev first_line : List Line → Line → Line
first_line [] d = d
first_line (l ∷ ls) d = l

-- a line that is read has joined what waits, and its receipt changes no tally
line_succeeds : (answer : Job → ℕ → Outcome) (goal : List MeasuredFeature) (kept : List Feature) (b : World) → IsJoined b
    → (g : IsGood answer goal kept b) (here : Here b g.carried) (x : Line) (up : List Line) → g.carried.up ≡ x ∷ up
    → Succeeds answer goal kept (lined b g.carried.up g.carried.down) here.live.table (server_read b.server.server (Ok x))
line_succeeds answer goal kept b j g here x up up_is = go here.near.coming refl
  where
    ws : List Wanted
    ws = b.client.client.program.features

    ready : ReadyAt answer goal kept ws b.server.server here.live.table.tally
    ready = g.ready here.live.table here.live.reads

    none : here.near.aborts ≡ []
    none = no_aborts here.near.aborts (sym here.near.by.event_is
        ∙ reads_no_event ws g.carried.down b.client.client.table here.live.table here.live.reads
        (going_events b.client.client g.going here.live.events))

    answers_so : IsAnswered (lined b g.carried.up g.carried.down) here.live.table up (server_read b.server.server (Ok x))
    answers_so = reads_next (lined b g.carried.up g.carried.down) g.carried.inv here.live x up here.near.queued here.near.coming
        here.near.aborts here.near.by (sym here.near.by.up_is ∙ up_is)

    by : server_read b.server.server (Ok x) ≡ answers (queued x.tag (Ok x.command) b.server.server) (Reply.Ack x.tag ∷ [])
        → Succeeds answer goal kept (lined b g.carried.up g.carried.down) here.live.table (server_read b.server.server (Ok x))
    by is =
        let reads : Reads ws here.live.table (Reply.Ack x.tag ∷ []) answers_so.next =
        subst (λ (a : Answer). Reads ws here.live.table a.said answers_so.next) is answers_so.reads in
        let same : here.live.table.tally ≡ answers_so.next.tally =
        sym (ack_tally ws here.live.table x.tag reads.0 reads.1) ∙ ap (λ (t : Table). t.tally) reads.2 in
        let all : Succeeds answer goal kept (lined b g.carried.up g.carried.down) here.live.table
        (answers (queued x.tag (Ok x.command) b.server.server) (Reply.Ack x.tag ∷ [])) = record {
          next = answers_so.next;
          reads = reads;
          ready = subst (λ (y : Tally). ReadyAt answer goal kept ws b.server.server y) same ready;
          error = g.error;
        } in
        subst (λ (a : Answer). Succeeds answer goal kept (lined b g.carried.up g.carried.down) here.live.table a) (sym is) all

    go : (coming : List Line) → here.near.coming ≡ coming
        → Succeeds answer goal kept (lined b g.carried.up g.carried.down) here.live.table (server_read b.server.server (Ok x))
    go [] f =
        let nothing : g.carried.up ≡ [] = here.near.by.up_is ∙ (ap (λ (l : List Line). l ++ abort_lines here.near.aborts) f
        ∙ ap abort_lines none) in
        let some : [] ≡ x ∷ up = sym nothing ∙ up_is in absurd (cc)
    go (y ∷ coming) f =
        let all : g.carried.up ≡ (y ∷ coming) ++ abort_lines here.near.aborts = here.near.by.up_is
        ∙ ap (λ (l : List Line). l ++ abort_lines here.near.aborts) f in
        let first : y ≡ x = ap (λ (l : List Line). first_line l y) (sym all ∙ up_is) in
        let near : IsNearBy here.live.table here.live.left g.carried.up b.server.server.running b.server.server.waiting
        b.server.server.error (know_of b.server.server) here.near.queued (x ∷ coming) here.near.aborts =
        subst (λ (z : Line). IsNearBy here.live.table here.live.left g.carried.up b.server.server.running b.server.server.waiting
        b.server.server.error (know_of b.server.server) here.near.queued (z ∷ coming) here.near.aborts) first
        (subst (λ (l : List Line). IsNearBy here.live.table here.live.left g.carried.up b.server.server.running b.server.server.waiting
        b.server.server.error (know_of b.server.server) here.near.queued l here.near.aborts) f here.near.by) in
        by (reads_queued (lined b g.carried.up g.carried.down) here.live.table here.live.left x here.near.queued coming here.near.aborts
        (record {
          near = near;
          progress = here.live.progress;
          distinct = reads_distinct ws g.carried.down b.client.client.table here.live.table here.live.reads here.live.distinct;
          few = few_open (lined b g.carried.up g.carried.down) g.carried.inv here.live;
        }) g.error)

read_good : (answer : Job → ℕ → Outcome) (goal : List MeasuredFeature) (kept : List Feature) (b : World)
    → IsJoined b → IsGood answer goal kept b → can OneEvent.ServerReads b ≡ true
    → IsGood answer goal kept (happens OneEvent.ServerReads b)
read_good answer goal kept b j g may =
    let parts = and_parts _ _ (and_parts _ _ may).1 in
    let r : ReadsFirst b g.carried (happens OneEvent.ServerReads b) = reads_first b g.carried j.on j.same parts.1 in
    let here : Here b g.carried = here_of b g.carried j.client_on j.on j.same in
    answered_good answer goal kept b j g here.live (happens OneEvent.ServerReads b) r.carried
    (server_read b.server.server (Ok r.first)) r.client_is r.server_is r.down_is
    (line_succeeds answer goal kept b j g here r.first r.others r.up_is)

-- ---- the client sends

-- what is asked of a client
record IsFine (answer : Job → ℕ → Outcome) (goal : List MeasuredFeature) (kept : List Feature) (s : Server) (down : List Reply) (c : Client)
    : Type 0
  where
    going : IsGoing c
    ready : (t : Table) → Reads c.program.features c.table down t → ReadyAt answer goal kept c.program.features s t.tally

with_others : (answer : Job → ℕ → Outcome) (goal : List MeasuredFeature) (kept : List Feature) (ws : List Wanted) (s : Server) (y : Tally)
    (ps : List Planned) → ReadyAt answer goal kept ws s y → ReadyAt answer goal kept ws s (record y { unsent = ps })
with_others answer goal kept ws s y ps r = record {
  failed = r.failed;
  opened = r.opened;
  reach = r.reach;
  obeys = r.obeys;
  front = r.front;
  rest = r.rest;
}

sends_good : (answer : Job → ℕ → Outcome) (goal : List MeasuredFeature) (kept : List Feature)
    (b : World) → IsJoined b → IsGood answer goal kept b → can OneEvent.ClientSends b ≡ true
    → IsGood answer goal kept (happens OneEvent.ClientSends b)
sends_good answer goal kept b j g may =
    let f : IsFine answer goal kept b.server.server g.carried.down
    (sends_next c c.table.tally.unsent (next_number Std c.table.standard c.drawn)).client =
    go (next_number Std c.table.standard c.drawn) refl fine_now in
    record { carried = sends_carried b g.carried may; going = f.going; error = g.error; ready = f.ready }
  where
    c : Client
    c = b.client.client

    ws : List Wanted
    ws = b.client.client.program.features

    d : IsDue c
    d = due_is c may

    later : IsCarried (happens OneEvent.ClientSends b)
    later = happens_carried OneEvent.ClientSends b g.carried may

    fine_now : (sends_next c c.table.tally.unsent (next_number Std c.table.standard c.drawn)).client.state ≡ State.Faulted → ⊥
    fine_now = never_faulted (lined (happens OneEvent.ClientSends b) later.up later.down) later.inv

    sent_so : (n : ℕ) → IsFine answer goal kept b.server.server g.carried.down (sends_next c (d.planned ∷ d.others) (Some n)).client
    sent_so n =
        let here : Here b g.carried = here_of b g.carried j.client_on j.on j.same in
        let x : OpenCommand = held_now (Std n) (kind_of d.planned.command) in
        let unasked : AreUnasked ws c.table here.live.table g.carried.down =
        reads_unasked ws g.carried.down c.table here.live.table here.live.reads d.quiet in
        let reads : Reads ws (with_standard x (with_unsent d.others c.table)) g.carried.down
        (with_standard x (with_unsent d.others here.live.table)) =
        reads_with_standard ws x g.carried.down (with_unsent d.others c.table) (with_unsent d.others here.live.table)
        (unasked.anyhow d.others) in
        record {
          going = g.going;
          ready = λ t r. subst (λ (u : Table). ReadyAt answer goal kept ws b.server.server u.tally)
              (reads_same ws g.carried.down (with_standard x (with_unsent d.others c.table))
              (with_standard x (with_unsent d.others here.live.table)) t reads r)
              (with_others answer goal kept ws b.server.server here.live.table.tally d.others
              (g.ready here.live.table here.live.reads));
        }

    go : (n : Option ℕ) → next_number Std c.table.standard c.drawn ≡ n
        → ((sends_next c c.table.tally.unsent (next_number Std c.table.standard c.drawn)).client.state ≡ State.Faulted → ⊥)
        → IsFine answer goal kept b.server.server g.carried.down
        (sends_next c c.table.tally.unsent (next_number Std c.table.standard c.drawn)).client
    go None number f =
        absurd (f (ap (λ (o : Option ℕ). (sends_next c c.table.tally.unsent o).client.state) number
        ∙ ap (λ (l : List Planned). (sends_next c l None).client.state) d.unsent))
    go (Some n) number f =
        subst (λ (o : Option ℕ). IsFine answer goal kept b.server.server g.carried.down (sends_next c c.table.tally.unsent o).client)
        (sym number)
        (subst (λ (l : List Planned). IsFine answer goal kept b.server.server g.carried.down (sends_next c l (Some n)).client)
        (sym d.unsent) (sent_so n))

-- ---- the client reads

last_whole : (whole : Bool) (n : ℕ) → last_state State.Running whole n ≡ cond whole State.Done State.Running
last_whole true n = refl
last_whole false n = refl

heard_going : (c : Client) (t : Tag) (m : Mark) (mid : Table) → heard c.program.features c.table t m ≡ fine mid
    → mid.tally.failed ≡ false → HasEvents c.state c.abort c.table.event → IsGoing c → IsGoing (client_hears c t m (Ok mid))
heard_going c t m mid is failed events (inl running) = go (is_empty mid.tally.todo) refl
  where
    event : mid.event ≡ []
    event = step_no_event c.program.features c.table t m mid is (subst (λ (s : State). HasEvents s c.abort c.table.event) running.0 events)

    state : state_behind c.state (ends_abort c.abort t m) mid ≡ cond (is_whole mid) State.Done State.Running
    state = ap (λ (s : State). last_state (first_state s (ends_abort c.abort t m) mid.tally.failed) (is_whole mid)
        (count_open mid.standard)) running.0
        ∙ (ap (λ (f : Bool). last_state (first_state State.Running (ends_abort c.abort t m) f) (is_whole mid) (count_open mid.standard))
        failed ∙ last_whole (is_whole mid) (count_open mid.standard))

    whole : (e : Bool) → is_empty mid.tally.todo ≡ e → is_whole mid ≡ e
    whole true e = ap (λ (x : Bool). x && eqb (count_open mid.event) 0) e ∙ ap (λ (hs : List OpenCommand). eqb (count_open hs) 0) event
    whole false e = ap (λ (x : Bool). x && eqb (count_open mid.event) 0) e

    none : (l : List Planned) → is_empty l ≡ true → l ≡ []
    none [] e = refl
    none (p ∷ l) e = absurd (false≢true e)

    go : (e : Bool) → is_empty mid.tally.todo ≡ e → IsGoing (client_hears c t m (Ok mid))
    go true e = inr (state ∙ ap (λ (x : Bool). cond x State.Done State.Running) (whole true e), none mid.tally.todo e)
    go false e = inl (state ∙ ap (λ (x : Bool). cond x State.Done State.Running) (whole false e), e)
heard_going c t m mid is failed events (inr done) = inr (
  ap (λ (s : State). last_state (first_state s (ends_abort c.abort t m) mid.tally.failed) (is_whole mid) (count_open mid.standard)) done.0,
  step_todo c.program.features c.table t m mid is done.1,
)

hears_good : (answer : Job → ℕ → Outcome) (goal : List MeasuredFeature) (kept : List Feature)
    (b : World) → IsJoined b → IsGood answer goal kept b → can OneEvent.ClientReads b ≡ true
    → IsGood answer goal kept (happens OneEvent.ClientReads b)
hears_good answer goal kept b j g may =
    let f : IsFine answer goal kept b.server.server h.others c_now =
    subst (IsFine answer goal kept b.server.server h.others) (sym h.client_is) (go (tag_is t (Event 0)) refl) in
    record {
      carried = h.carried;
      going = f.going;
      error = g.error;
      ready = λ u reads. f.ready u (subst (λ (l : List Reply). Reads c_now.program.features c_now.table l u) h.down_is reads);
    }
  where
    fault : Bool
    fault = not (Rattle.protocol_model.specs.World.is_faulted b.client.client.state)

    there : Bool
    there = Rattle.protocol_model.specs.World.is_any (next_of b.client.input.rest)

    parts : (fault ≡ true) × (there ≡ true)
    parts = and_parts fault there (and_parts b.client.client.on (fault && there) may).1

    h : HearsFirst b g.carried (happens OneEvent.ClientReads b)
    h = hears_first b g.carried j.client_on parts.1

    c : Client
    c = b.client.client

    c_now : Client
    c_now = (happens OneEvent.ClientReads b).client.client

    t : Tag
    t = tag_of h.first

    m : Mark
    m = mark_of h.first

    ws : List Wanted
    ws = b.client.client.program.features

    here : Here b g.carried
    here = here_of b g.carried j.client_on j.on j.same

    reads : Reads ws c.table (h.first ∷ h.others) here.live.table
    reads = subst (λ (l : List Reply). Reads ws c.table l here.live.table) h.was here.live.reads

    mid : Table
    mid = reads.0

    ready : (u : Table) → Reads ws c.table (h.first ∷ h.others) u → ReadyAt answer goal kept ws b.server.server u.tally
    ready u r = g.ready u (subst (λ (l : List Reply). Reads ws c.table l u) (sym h.was) r)

    go : (z : Bool) → tag_is t (Event 0) ≡ z
        → IsFine answer goal kept b.server.server h.others (cond z c (client_hears c t m (heard_on ws c.table t m)))
    go true e = record {
      going = g.going;
      ready = λ u r. ready u (c.table, if_true {A = Result Table Cause} (tag_is t (Event 0)) (fine c.table) (heard_on ws c.table t m) e, r);
    }
    go false e =
        let is : heard_on ws c.table t m ≡ fine mid =
        sym (if_false {A = Result Table Cause} (tag_is t (Event 0)) (fine c.table) (heard_on ws c.table t m) e) ∙ reads.1 in
        subst (λ (r : Result Table Cause). IsFine answer goal kept b.server.server h.others (client_hears c t m r)) (sym is) (record {
          going = heard_going c t m mid reads.1 (reads_failed ws h.others mid here.live.table reads.2
              (g.ready here.live.table here.live.reads).failed) here.live.events g.going;
          ready = λ u r. ready u (mid, reads.1, r);
        })

-- ---- all events of a round

pub keeps_good : (answer : Job → ℕ → Outcome) (goal : List MeasuredFeature) (kept : List Feature)
    → Keeps answer (IsGood answer goal kept)
keeps_good answer goal kept e b of j g = go (can e b) refl
  where
    happened : (e : OneEvent) → IsOfRound answer b e → can e b ≡ true → IsGood answer goal kept (happens e b)
    happened OneEvent.ClientSends of may = sends_good answer goal kept b j g may
    happened (OneEvent.Up k) of may =
        record { carried = up_carried b k g.carried j.on; going = g.going; error = g.error; ready = g.ready }
    happened OneEvent.ServerReads of may = read_good answer goal kept b j g may
    happened OneEvent.ServerTurn of may = turn_good answer goal kept b j g may
    happened (OneEvent.Machine outcome) of may = end_good answer goal kept b outcome j g of may
    happened (OneEvent.Down k) of may =
        record { carried = down_carried b k g.carried j.client_on; going = g.going; error = g.error; ready = g.ready }
    happened OneEvent.ClientReads of may = hears_good answer goal kept b j g may
    happened OneEvent.Connect of may = absurd of
    happened (OneEvent.Accept n) of may = absurd of
    happened OneEvent.ClientLeaves of may = absurd of
    happened OneEvent.ServerLeaves of may = absurd of
    happened OneEvent.Abort of may = absurd of
    happened OneEvent.Resume of may = absurd of
    happened (OneEvent.ClientRestart k) of may = absurd of
    happened OneEvent.ServerRestart of may = absurd of

    go : (t : Bool) → can e b ≡ t → IsGood answer goal kept (cond t (happens e b) b)
    go true may = happened e of may
    go false may = g
