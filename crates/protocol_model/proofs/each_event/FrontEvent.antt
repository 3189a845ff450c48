-- The command at the start of what a server has to do: it fails, or it is done.
use Rattle.protocol_model.proofs.Names.{[], ◌++◌, ◌||◌, ◌∙◌, ◌∷◌, ◌≡◌, act_of, all_fail, answers, ap, append_assoc, asks_homed, begins_session, Bool}
use Rattle.protocol_model.proofs.Names.{contacts, counted_next, Datum, Does, fails, false, false≢true, kind_of, Line, List, measured, None}
use Rattle.protocol_model.proofs.Names.{OpenCommand, Option, passed_over, Planned, refl, Reply, Server, Some, subst, suc, sym, Table, Tally}
use Rattle.protocol_model.proofs.Names.{tells_homed, true, Wanted, ℕ}
use Rattle.protocol_model.specs.Typed.{World}
use Rattle.protocol_model.proofs.table.Replying.{tabled, Reads}
use Rattle.protocol_model.proofs.plan.Fitting.{known_by, KnowsMore, FitsOne, Fits, fits_more, IsSane}
use Rattle.protocol_model.proofs.plan.Marks.{touch_in, touches_in, marks_of}
use Rattle.protocol_model.proofs.plan.PassedOver.{passed_behind, passed_fits, passed_sane, passed_touches}
use Rattle.protocol_model.proofs.table.Asking.{tells_asks}
use Rattle.protocol_model.proofs.invariant.Served.{IsProgress}
use Rattle.protocol_model.proofs.invariant.Moves.{done_on, Moves}
use Rattle.protocol_model.proofs.invariant.Pairs.{broken, pair_and_pairs}
use Rattle.protocol_model.proofs.each_event.Answers.{IsAnswered}
use Rattle.protocol_model.proofs.each_event.ReadEvent.{quiet_answer, tidy_pair_and_pairs}
use Rattle.protocol_model.proofs.invariant.Touching.{HasDatum, Keeps, measured_keeps, Goes, does_goes}
use Rattle.protocol_model.proofs.invariant.Holding.{listed, received, all_received, all_sent, all_wait, abort_lines, abort_helds}
use Rattle.protocol_model.proofs.invariant.Holding.{commands_of, commands_in, AreStandard, AreNoClears, IsClearFirst, IsClean, IsNearBy}
use Rattle.protocol_model.proofs.invariant.Holding.{IsAskedLast, IsTidy, know_of}
use Rattle.protocol_model.proofs.invariant.LineFacts.{standard_before, standard_behind, clear_first_none, no_clears_behind, IsFirstStep}
use Rattle.protocol_model.proofs.invariant.LineFacts.{asked_behind, first_step, no_steps}

-- the first command that the server has to do, on its client's connection, with those that wait and those that come
pub record IsAtFront (w : World) (table : Table) (left : List Wanted) (x : Line) (queued coming : List Line) (aborts : List ℕ) : Type 0
  where
    pub standard_is : table.standard ≡ received x ∷ (all_received queued ++ all_sent coming)
    pub event_is : table.event ≡ abort_helds aborts
    pub up_is : w.up ≡ coming ++ abort_lines aborts
    pub standard : AreStandard (x ∷ (queued ++ coming))
    pub no_clears : AreNoClears (queued ++ coming)
    pub asked_last : asks_homed (kind_of x.command) ≡ true → queued ++ coming ≡ []
    pub asked_behind : IsAskedLast (queued ++ coming)
    pub clear : IsClearFirst table.tally.failed (x ∷ (queued ++ coming))
    pub all_sane : IsSane table.tally.todo
    pub all_touches : touches_in table.tally.todo ≡ marks_of left
    pub calm : table.tally.failed ≡ false
    pub does : Does
    pub steps : List Planned
    pub todo : table.tally.todo ≡ record { command = x.command; does = does } ∷ (steps ++ table.tally.unsent)
    pub commands : commands_of steps ≡ commands_in (queued ++ coming)
    pub sane : IsSane (steps ++ table.tally.unsent)
    pub touches : touch_in does ++ touches_in (steps ++ table.tally.unsent) ≡ marks_of left
    pub one : FitsOne (know_of w.server) x.command does
    pub rest : Fits (known_by (know_of w.server) x.command) (steps ++ table.tally.unsent)
    pub progress : IsProgress w.client.program.features w.client.last table.tally.features table.tally.points
        (contacts w.server.ledger) left

-- if nothing is in the error state, what runs or else waits first is such a command
pub at_front : (w : World) (table : Table) (left : List Wanted) (x : Line) (now queued coming : List Line) (aborts : List ℕ)
    → IsNearBy table left w.up w.server.running w.server.waiting w.server.error (know_of w.server) now coming aborts
    → IsProgress w.client.program.features w.client.last table.tally.features table.tally.points (contacts w.server.ledger) left
    → listed w.server.running ++ now ≡ x ∷ queued → w.server.error ≡ false → IsAtFront w table left x queued coming aborts
at_front w table left x now queued coming aborts n progress first quiet =
    let lines : listed w.server.running ++ (now ++ coming) ≡ x ∷ (queued ++ coming) =
    sym (append_assoc (listed w.server.running) now coming) ∙ ap (λ (l : List Line). l ++ coming) first in
    let calm : table.tally.failed ≡ false = no_failure table.tally.failed refl in
    let c : IsClean table.tally left (listed w.server.running ++ (now ++ coming)) w.server.error (know_of w.server) =
    n.clean calm in
    let step : IsFirstStep c.steps x.command (commands_in (queued ++ coming)) =
    first_step c.steps x.command (commands_in (queued ++ coming)) (c.commands ∙ ap commands_in lines) in
    let todo : table.tally.todo ≡ record { command = x.command; does = step.does } ∷ (step.rest ++ table.tally.unsent) = c.todo
    ∙ ap (λ (l : List Planned). l ++ table.tally.unsent) step.is in
    let sane : IsSane (record { command = x.command; does = step.does } ∷ (step.rest ++ table.tally.unsent)) = subst IsSane todo c.sane in
    let fits : Fits (know_of w.server) (record { command = x.command; does = step.does } ∷ (step.rest ++ table.tally.unsent)) =
    subst (Fits (know_of w.server)) todo (c.fits quiet) in
    let last : IsAskedLast (x ∷ (queued ++ coming)) = subst IsAskedLast lines n.asked_last in
    let clear : IsClearFirst table.tally.failed (x ∷ (queued ++ coming)) = subst (IsClearFirst table.tally.failed) lines n.clear_first in
    record {
      standard_is = n.standard_is ∙ ap (λ (l : List Line). all_received l ++ all_sent coming) first;
      event_is = n.event_is;
      up_is = n.up_is;
      standard = subst AreStandard lines n.standard;
      no_clears = clear.1;
      asked_last = last.0;
      asked_behind = last.1;
      clear = clear;
      all_sane = c.sane;
      all_touches = c.touches;
      calm = calm;
      does = step.does;
      steps = step.rest;
      todo = todo;
      commands = step.commands;
      sane = sane.1;
      touches = ap touches_in (sym todo) ∙ c.touches;
      one = fits.0;
      rest = fits.1;
      progress = progress;
    }
  where
    no_failure : (f : Bool) → table.tally.failed ≡ f → table.tally.failed ≡ false
    no_failure false e = e
    no_failure true e = absurd (false≢true (sym quiet ∙ n.stopped e))

-- it fails, and all that wait fail after it
pub front_fails : (w : World) (table : Table) (left : List Wanted) (x : Line) (queued coming : List Line) (aborts : List ℕ) (s : Server)
    (code : ℕ)
    → IsAtFront w table left x queued coming aborts → Moves w.server s [] → s.running ≡ None → s.waiting ≡ [] → s.error ≡ true
    → IsAnswered w table w.up (answers s (fails x.tag code (Some (kind_of x.command)) ++ all_fail 9007 (all_wait queued)))
front_fails w table left x queued coming aborts s code f moves no_run no_wait error =
    let ws : List Wanted = w.client.program.features in
    let said : List Reply = fails x.tag code (Some (kind_of x.command)) ++ all_fail 9007 (all_wait queued) in
    let sorts : AreStandard queued = standard_before queued coming f.standard.2 in
    quiet_answer w table left w.up (answers s said) (all_sent coming) table.event true moves f.progress
    (subst (λ (hs : List OpenCommand). Reads ws (tabled hs table.event table.tally) said
    (tabled (all_sent coming) table.event (broken table.tally))) (sym f.standard_is)
    (pair_and_pairs ws x queued (all_sent coming) table.event table.tally code (Some (kind_of x.command)) f.standard.0 sorts))
    (tidy_pair_and_pairs x queued code (Some (kind_of x.command)) f.standard.0 sorts)
    (record {
      queued = [];
      coming = coming;
      aborts = aborts;
      by = record {
        waiting_is = no_wait;
        up_is = f.up_is;
        standard_is = ap (λ (o : Option Line). all_received (listed o ++ []) ++ all_sent coming) (sym no_run);
        event_is = f.event_is;
        standard = subst (λ (o : Option Line). AreStandard (listed o ++ coming)) (sym no_run) (standard_behind queued coming f.standard.2);
        idle = λ e. (no_run, refl);
        stopped = λ e. error;
        clear_first = subst (λ (o : Option Line). IsClearFirst true (listed o ++ coming)) (sym no_run)
            (clear_first_none true coming (no_clears_behind queued coming f.no_clears));
        asked_last = subst (λ (o : Option Line). IsAskedLast (listed o ++ coming)) (sym no_run) (asked_behind queued coming f.asked_behind);
        clean = λ e. absurd (false≢true (sym e));
      };
    })

-- it is done
pub front_done : (w : World) (table : Table) (left : List Wanted) (x : Line) (queued coming : List Line) (aborts : List ℕ) (s : Server)
    (said : List Reply) (given : Option Datum)
    → (f : IsAtFront w table left x queued coming aborts) → Moves w.server s (act_of f.does given) → w.server.last ≡ w.client.last
    → s.running ≡ None → s.waiting ≡ all_wait queued → s.error ≡ false
    → KnowsMore (known_by (know_of w.server) x.command) (know_of s) → HasDatum f.does given
    → Reads w.client.program.features (tabled (received x ∷ (all_received queued ++ all_sent coming)) table.event table.tally) said
    (tabled (all_received queued ++ all_sent coming) table.event
    (counted_next w.client.program.features (kind_of x.command) given table.tally.todo table.tally))
    → IsTidy None said
    → IsAnswered w table w.up (answers s said)
front_done w table left x queued coming aborts s said given f moves same no_run waiting error knows has reads tidy =
    let ws : List Wanted = w.client.program.features in
    let y : Tally = table.tally in
    let whole : List Planned = f.steps ++ table.tally.unsent in
    let told : Bool = tells_homed (kind_of x.command) given in
    let unsent : List Planned = passed_over told table.tally.unsent in
    let rest : List Planned = passed_over told whole in
    let mid : Tally = record y {
      session = y.session || begins_session (kind_of x.command);
      todo = rest;
      unsent = unsent;
      counted = y.counted
          ++ act_of f.does given;
      completed = suc y.completed;
    } in
    let next : Tally = measured ws f.does given mid in
    let is : counted_next ws (kind_of x.command) given y.todo y ≡ next =
    ap (λ (l : List Planned). counted_next ws (kind_of x.command) given l y) f.todo in
    let hs : List OpenCommand = all_received queued ++ all_sent coming in
    let keeps : Keeps mid next = measured_keeps ws f.does given mid in
    let goes : Goes ws w.client.last mid (contacts w.server.ledger) f.does given (touches_in whole) =
    does_goes ws w.client.last mid (contacts w.server.ledger) left f.does given (touches_in whole) f.progress has f.touches in
    let parts : rest ≡ f.steps ++ unsent = passed_behind f.steps table.tally.unsent told (λ e. no_steps f.steps
    (f.commands ∙ ap commands_in (f.asked_last (tells_asks (kind_of x.command) given e)))) in
    record {
      acts = act_of f.does given;
      moves = moves;
      next = tabled hs table.event next;
      left = goes.left;
      reads = subst (λ (z : Tally). Reads ws table said (tabled hs table.event z)) is
          (subst (λ (l : List OpenCommand). Reads ws (tabled l table.event y) said
          (tabled hs table.event (counted_next ws (kind_of x.command) given y.todo y))) (sym f.standard_is) reads);
      tidy = tidy;
      counted = keeps.counted;
      progress = subst (λ (m : ℕ). IsProgress ws w.client.last next.features next.points (contacts w.server.ledger
          ++ contacts (done_on m (act_of f.does given))) goes.left) (sym same) goes.progress;
      near = record {
        queued = queued;
        coming = coming;
        aborts = aborts;
        by = record {
          waiting_is = waiting;
          up_is = f.up_is;
          standard_is = ap (λ (o : Option Line). all_received (listed o ++ queued) ++ all_sent coming) (sym no_run);
          event_is = f.event_is;
          standard = subst (λ (o : Option Line). AreStandard (listed o ++ (queued ++ coming))) (sym no_run) f.standard.2;
          idle = λ e. absurd (false≢true (sym error ∙ e));
          stopped = λ e. absurd (false≢true (sym (keeps.failed ∙ f.calm) ∙ e));
          clear_first = subst (λ (o : Option Line). IsClearFirst next.failed (listed o ++ (queued ++ coming))) (sym no_run)
              (clear_first_none next.failed (queued ++ coming) f.no_clears);
          asked_last = subst (λ (o : Option Line). IsAskedLast (listed o ++ (queued ++ coming))) (sym no_run) f.asked_behind;
          clean = λ e. record {
            steps = f.steps;
            todo = keeps.todo ∙ (parts ∙ ap (λ (l : List Planned). f.steps ++ l) (sym keeps.unsent));
            commands = f.commands ∙ ap (λ (o : Option Line). commands_in (listed o ++ (queued ++ coming))) (sym no_run);
            sane = subst IsSane (sym keeps.todo) (passed_sane told whole f.sane);
            touches = ap touches_in keeps.todo ∙ (passed_touches _ told whole f.rest ∙ goes.touches);
            fits = λ g. subst (Fits (know_of s)) (sym keeps.todo)
                (fits_more rest _ (know_of s) knows (passed_fits _ told whole f.rest));
          };
        };
      };
    }
