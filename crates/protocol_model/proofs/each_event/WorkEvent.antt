-- The first waiting command is processed, and the machine is done with what runs.
use Rattle.protocol_model.proofs.Names.{[], ◌++◌, ◌∙◌, ◌∷◌, ◌≡◌, Act, act_of, acted, all_fail, answers, ap, append-nil, Bool, carried_out, Command}
use Rattle.protocol_model.proofs.Names.{contacts, counted_next, Csy, Datum, Direction, Does, fails, false, false≢true, finished, Frame, frame_of}
use Rattle.protocol_model.proofs.Names.{has_outcome, idle, in_error, kind_of, Line, List, MachineCsy, machined, may_end, None, offset, Ok, Option}
use Rattle.protocol_model.proofs.Names.{Outcome, PartCsy, Point, point_difference, point_opposite, refl, refusal, Reply, Server, server_machined}
use Rattle.protocol_model.proofs.Names.{server_turned, Some, stopped, subst, sym, Table, Tag, taken, touched, true, turned_to, Waiting, Wanted, ℕ}
use Rattle.protocol_model.specs.Typed.{World}
use Rattle.protocol_model.proofs.table.Replying.{tabled, Reads}
use Rattle.protocol_model.proofs.plan.Fitting.{known_by, known_frame, KnowsMore, more_refl, more_than_nothing, FitsTouch, FitsFrame, FitsMove, Fits}
use Rattle.protocol_model.proofs.invariant.Served.{IsProgress}
use Rattle.protocol_model.proofs.invariant.Moves.{Moves}
use Rattle.protocol_model.proofs.invariant.Pairs.{done_first, given_first}
use Rattle.protocol_model.proofs.each_event.Answers.{IsAnswered}
use Rattle.protocol_model.proofs.each_event.ReadEvent.{quiet_answer}
use Rattle.protocol_model.proofs.invariant.Touching.{HasDatum}
use Rattle.protocol_model.proofs.each_event.FrontEvent.{IsAtFront, at_front, front_fails, front_done}
use Rattle.protocol_model.proofs.invariant.Holding.{listed, received, all_received, all_sent, waits, all_wait, commands_in, AreStandard}
use Rattle.protocol_model.proofs.invariant.Holding.{IsClearFirst, IsAskedLast, IsNearBy, know_of}

-- ---- a turn

-- it runs
turn_runs : (w : World) (table : Table) (left : List Wanted) (x : Line) (queued coming : List Line) (aborts : List ℕ) (s : Server)
    → (f : IsAtFront w table left x queued coming aborts) → Moves w.server s [] → s.running ≡ Some x → s.waiting ≡ all_wait queued
    → s.error ≡ false
    → Fits (know_of s) (record { command = x.command; does = f.does } ∷ (f.steps ++ table.tally.unsent))
    → IsAnswered w table w.up (answers s [])
turn_runs w table left x queued coming aborts s f moves runs waiting error fits =
    quiet_answer w table left w.up (answers s []) table.standard table.event table.tally.failed moves f.progress refl tt
    (record {
      queued = queued;
      coming = coming;
      aborts = aborts;
      by = record {
        waiting_is = waiting;
        up_is = f.up_is;
        standard_is = f.standard_is ∙ ap (λ (o : Option Line). all_received (listed o ++ queued) ++ all_sent coming) (sym runs);
        event_is = f.event_is;
        standard = subst (λ (o : Option Line). AreStandard (listed o ++ (queued ++ coming))) (sym runs) f.standard;
        idle = λ e. absurd (false≢true (sym error ∙ e));
        stopped = λ e. absurd (false≢true (sym f.calm ∙ e));
        clear_first = subst (λ (o : Option Line). IsClearFirst table.tally.failed (listed o ++ (queued ++ coming))) (sym runs) f.clear;
        asked_last = subst (λ (o : Option Line). IsAskedLast (listed o ++ (queued ++ coming))) (sym runs) (f.asked_last, f.asked_behind);
        clean = λ e. record {
          steps = record { command = x.command; does = f.does } ∷ f.steps;
          todo = f.todo;
          commands = ap (λ (l : List Command). x.command ∷ l) f.commands
              ∙ ap (λ (o : Option Line). commands_in (listed o ++ (queued ++ coming))) (sym runs);
          sane = f.all_sane;
          touches = f.all_touches;
          fits = λ g. subst (Fits (know_of s)) (sym f.todo) fits;
        };
      };
    })

-- it is complete at once, and means no act
turn_quiet : (w : World) (table : Table) (left : List Wanted) (x : Line) (queued coming : List Line) (aborts : List ℕ) (s : Server)
    → (f : IsAtFront w table left x queued coming aborts) → f.does ≡ Does.Nothing → Moves w.server s [] → w.server.last ≡ w.client.last
    → s.running ≡ None → s.waiting ≡ all_wait queued → s.error ≡ false
    → KnowsMore (known_by (know_of w.server) x.command) (know_of s)
    → Reads w.client.program.features (tabled (received x ∷ (all_received queued ++ all_sent coming)) table.event table.tally)
    (Reply.Done x.tag ∷ [])
    (tabled (all_received queued ++ all_sent coming) table.event
    (counted_next w.client.program.features (kind_of x.command) None table.tally.todo table.tally))
    → IsAnswered w table w.up (answers s (Reply.Done x.tag ∷ []))
turn_quiet w table left x queued coming aborts s f nothing moves same runs waiting error knows reads =
    front_done w table left x queued coming aborts s (Reply.Done x.tag ∷ []) None f
    (subst (λ (d : Does). Moves w.server s (act_of d None)) (sym nothing) moves) same runs waiting error knows
    (subst (λ (d : Does). HasDatum d None) (sym nothing) tt) reads tt

frame_selected : (system : Csy) (stored : Point) (frame : Frame) → known_frame system (Some stored) ≡ Some frame
    → frame_of system stored ≡ frame
frame_selected MachineCsy stored frame e = cc
frame_selected PartCsy stored frame e = cc

frame_known : (system : Csy) (stored : Point) → known_frame system (Some stored) ≡ Some (frame_of system stored)
frame_known MachineCsy stored = refl
frame_known PartCsy stored = refl

knows_frame : (tool : Option (List ℕ)) (system : Csy) (stored : Point)
    → KnowsMore (record { tool = tool; frame = known_frame system (Some stored); stored = Some stored })
    (record { tool = tool; frame = Some (frame_of system stored); stored = Some stored })
knows_frame tool system stored = record { tool = λ n e. e; frame = λ f e. sym (frame_known system stored) ∙ e; stored = λ p e. e }

-- what is processed
turns : (w : World) (table : Table) (left : List Wanted) (t : Tag) (c : Command) (queued coming : List Line) (aborts : List ℕ)
    → IsAtFront w table left (record { tag = t; command = c }) queued coming aborts → w.server.last ≡ w.client.last
    → w.server.running ≡ None → w.server.error ≡ false
    → IsAnswered w table w.up (carried_out (record (w.server) { waiting = all_wait queued }) t c)
turns w table left t Command.StartSession queued coming aborts f same no_run error =
    turn_quiet w table left (record { tag = t; command = Command.StartSession }) queued coming aborts
    (record (w.server) { waiting = all_wait queued; session = true }) f f.one
    (record { on = refl; last = refl; ledger = sym (append-nil w.server.ledger) }) same no_run refl error (more_refl (know_of w.server))
    (done_first w.client.program.features (record { tag = t; command = Command.StartSession }) (all_received queued ++ all_sent coming)
    table.event table.tally f.standard.0 f.calm refl)
turns w table left t Command.EndSession queued coming aborts f same no_run error =
    turn_quiet w table left (record { tag = t; command = Command.EndSession }) queued coming aborts
    (record (w.server) { waiting = all_wait queued; session = false }) f f.one
    (record { on = refl; last = refl; ledger = sym (append-nil w.server.ledger) }) same no_run refl error (more_refl (know_of w.server))
    (done_first w.client.program.features (record { tag = t; command = Command.EndSession }) (all_received queued ++ all_sent coming)
    table.event table.tally f.standard.0 f.calm refl)
turns w table left t Command.ClearAllErrors queued coming aborts f same no_run error =
    turn_quiet w table left (record { tag = t; command = Command.ClearAllErrors }) queued coming aborts
    (record (w.server) { waiting = all_wait queued }) f f.one
    (record { on = refl; last = refl; ledger = sym (append-nil w.server.ledger) }) same no_run refl error
    (more_than_nothing (know_of w.server))
    (done_first w.client.program.features (record { tag = t; command = Command.ClearAllErrors }) (all_received queued ++ all_sent coming)
    table.event table.tally f.standard.0 f.calm refl)
turns w table left t Command.OnPtMeasReport queued coming aborts f same no_run error =
    turn_quiet w table left (record { tag = t; command = Command.OnPtMeasReport }) queued coming aborts
    (record (w.server) { waiting = all_wait queued }) f f.one
    (record { on = refl; last = refl; ledger = sym (append-nil w.server.ledger) }) same no_run refl error (more_refl (know_of w.server))
    (done_first w.client.program.features (record { tag = t; command = Command.OnPtMeasReport }) (all_received queued ++ all_sent coming)
    table.event table.tally f.standard.0 f.calm refl)
turns w table left t (Command.SetCsyTransformation p) queued coming aborts f same no_run error =
    let s : Server = record (w.server) { waiting = all_wait queued; stored = point_opposite p } in
    turn_quiet w table left (record { tag = t; command = Command.SetCsyTransformation p }) queued coming aborts s f f.one
    (record { on = refl; last = refl; ledger = sym (append-nil w.server.ledger) }) same no_run refl error (more_refl (know_of s))
    (done_first w.client.program.features (record { tag = t; command = Command.SetCsyTransformation p }) (all_received queued
    ++ all_sent coming) table.event table.tally f.standard.0 f.calm refl)
turns w table left t (Command.SetCoordSystem system) queued coming aborts f same no_run error =
    let x : Line = record { tag = t; command = Command.SetCoordSystem system } in
    let selects : FitsFrame (know_of w.server) system f.does = f.one in
    let frame : Frame = frame_of system w.server.stored in
    let s : Server = acted (Act.Framed frame) (record (w.server) { waiting = all_wait queued; frame = frame }) in
    let does : f.does ≡ Does.Frames frame = selects.is ∙ ap (λ (g : Frame). Does.Frames g)
    (sym (frame_selected system w.server.stored selects.frame selects.known)) in
    front_done w table left x queued coming aborts s (Reply.Done t ∷ []) None f
    (subst (λ (d : Does). Moves w.server s (act_of d None)) (sym does) (record { on = refl; last = refl; ledger = refl })) same no_run refl
    error
    (knows_frame w.server.tool system w.server.stored)
    (subst (λ (d : Does). HasDatum d None) (sym does) tt)
    (done_first w.client.program.features x (all_received queued ++ all_sent coming) table.event table.tally f.standard.0 f.calm refl) tt
turns w table left t Command.IsHomed queued coming aborts f same no_run error =
    let x : Line = record { tag = t; command = Command.IsHomed } in
    let homed : Datum = Datum.Homed w.server.homed in
    let s : Server = acted (Act.HomedIs w.server.homed) (record (w.server) { waiting = all_wait queued }) in
    front_done w table left x queued coming aborts s (Reply.Given t homed ∷ Reply.Done t ∷ []) (Some homed) f
    (subst (λ (d : Does). Moves w.server s (act_of d (Some homed))) (sym f.one) (record { on = refl; last = refl; ledger = refl })) same
    no_run refl error (more_refl (know_of w.server))
    (subst (λ (d : Does). HasDatum d (Some homed)) (sym f.one) tt)
    (given_first w.client.program.features x homed (all_received queued ++ all_sent coming) table.event table.tally f.standard.0 f.calm
    refl) tt
turns w table left t Command.Home queued coming aborts f same no_run error =
    let x : Line = record { tag = t; command = Command.Home } in
    turn_runs w table left x queued coming aborts (record (w.server) { waiting = all_wait queued; homed = false; running = Some x }) f
    (record { on = refl; last = refl; ledger = sym (append-nil w.server.ledger) }) refl refl error (f.one, f.rest)
turns w table left t (Command.ChangeTool n) queued coming aborts f same no_run error =
    let x : Line = record { tag = t; command = Command.ChangeTool n } in
    turn_runs w table left x queued coming aborts (record (w.server) { waiting = all_wait queued; tool = None; running = Some x }) f
    (record { on = refl; last = refl; ledger = sym (append-nil w.server.ledger) }) refl refl error (f.one, f.rest)
turns w table left t (Command.GoTo p) queued coming aborts f same no_run error =
    let x : Line = record { tag = t; command = Command.GoTo p } in
    turn_runs w table left x queued coming aborts (record (w.server) { waiting = all_wait queued; running = Some x }) f
    (record { on = refl; last = refl; ledger = sym (append-nil w.server.ledger) }) refl refl error (f.one, f.rest)
turns w table left t (Command.PtMeas p d) queued coming aborts f same no_run error =
    let x : Line = record { tag = t; command = Command.PtMeas p d } in
    turn_runs w table left x queued coming aborts (record (w.server) { waiting = all_wait queued; running = Some x }) f
    (record { on = refl; last = refl; ledger = sym (append-nil w.server.ledger) }) refl refl error (f.one, f.rest)
turns w table left t Command.AbortE queued coming aborts f same no_run error = absurd f.one

-- the turn of the first that waits
pub turned_here : (w : World) (table : Table) (left : List Wanted) (now coming : List Line) (aborts : List ℕ)
    → IsNearBy table left w.up w.server.running w.server.waiting w.server.error (know_of w.server) now coming aborts
    → IsProgress w.client.program.features w.client.last table.tally.features table.tally.points (contacts w.server.ledger) left
    → w.server.last ≡ w.client.last → w.server.running ≡ None → (w.server.waiting ≡ [] → ⊥)
    → IsAnswered w table w.up (server_turned w.server)
turned_here w table left [] coming aborts n progress same no_run some = absurd (some n.waiting_is)
turned_here w table left (x ∷ queued) coming aborts n progress same no_run some =
    subst (λ (l : List Waiting). IsAnswered w table w.up (turned_to w.server l)) (sym n.waiting_is) (go (refusal w.server (Ok x.command)))
  where
    quiet : (e : Bool) → w.server.error ≡ e → w.server.error ≡ false
    quiet false e = e
    quiet true e = let none : x ∷ queued ≡ [] = (n.idle e).1 in absurd (cc)

    f : IsAtFront w table left x queued coming aborts
    f = at_front w table left x (x ∷ queued) queued coming aborts n progress (ap (λ (o : Option Line). listed o ++ x ∷ queued) no_run)
        (quiet w.server.error refl)

    go : (number : Option ℕ) → IsAnswered w table w.up (taken w.server (waits x) (all_wait queued) number)
    go (Some number) = front_fails w table left x queued coming aborts (in_error w.server) number f
        (record { on = refl; last = refl; ledger = sym (append-nil w.server.ledger) }) no_run refl refl
    go None = turns w table left x.tag x.command queued coming aborts f same no_run (quiet w.server.error refl)

-- ---- the machine

-- it is done without a point
machine_done : (w : World) (table : Table) (left : List Wanted) (x : Line) (queued coming : List Line) (aborts : List ℕ) (s : Server)
    (does : Does) (acts : List Act)
    → (f : IsAtFront w table left x queued coming aborts) → f.does ≡ does → act_of does None ≡ acts → HasDatum does None
    → Moves w.server s acts → w.server.last ≡ w.client.last → s.running ≡ None → s.waiting ≡ all_wait queued → s.error ≡ false
    → KnowsMore (known_by (know_of w.server) x.command) (know_of s)
    → Reads w.client.program.features (tabled (received x ∷ (all_received queued ++ all_sent coming)) table.event table.tally)
    (Reply.Done x.tag ∷ [])
    (tabled (all_received queued ++ all_sent coming) table.event
    (counted_next w.client.program.features (kind_of x.command) None table.tally.todo table.tally))
    → IsAnswered w table w.up (answers s (Reply.Done x.tag ∷ []))
machine_done w table left x queued coming aborts s does acts f is stands_for has moves same runs waiting error knows reads =
    front_done w table left x queued coming aborts s (Reply.Done x.tag ∷ []) None f
    (subst (λ (d : Does). Moves w.server s (act_of d None)) (sym is) (subst (λ (l : List Act). Moves w.server s l) (sym stands_for) moves))
    same runs waiting error knows
    (subst (λ (d : Does). HasDatum d None) (sym is) has) reads tt

some_is : (f g : Frame) → ◌≡◌ {A = Option Frame} (Some f) (Some g) → f ≡ g
some_is f g e = cc

finishes : (w : World) (table : Table) (left : List Wanted) (t : Tag) (c : Command) (queued coming : List Line) (aborts : List ℕ)
    → IsAtFront w table left (record { tag = t; command = c }) queued coming aborts → w.server.last ≡ w.client.last
    → w.server.waiting ≡ all_wait queued → w.server.error ≡ false
    → has_outcome c Outcome.Done ≡ true → IsAnswered w table w.up (finished w.server t c)
finishes w table left t Command.Home queued coming aborts f same waiting error can =
    machine_done w table left (record { tag = t; command = Command.Home }) queued coming aborts
    (acted Act.Homed (record (idle w.server) { homed = true })) Does.Homes (Act.Homed ∷ []) f f.one refl tt
    (record { on = refl; last = refl; ledger = refl }) same refl waiting error (more_refl (know_of w.server))
    (done_first w.client.program.features (record { tag = t; command = Command.Home }) (all_received queued ++ all_sent coming) table.event
    table.tally f.standard.0 f.calm refl)
finishes w table left t (Command.ChangeTool n) queued coming aborts f same waiting error can =
    machine_done w table left (record { tag = t; command = Command.ChangeTool n }) queued coming aborts
    (acted (Act.Changed n) (record (idle w.server) { tool = Some n })) (Does.Changes n) (Act.Changed n ∷ []) f f.one refl tt
    (record { on = refl; last = refl; ledger = refl }) same refl waiting error
    (more_refl (record { tool = Some n; frame = Some w.server.frame; stored = Some w.server.stored }))
    (done_first w.client.program.features (record { tag = t; command = Command.ChangeTool n }) (all_received queued ++ all_sent coming)
    table.event table.tally f.standard.0 f.calm refl)
finishes w table left t (Command.GoTo p) queued coming aborts f same waiting error can =
    let moves : FitsMove (know_of w.server) p f.does = f.one in
    let frame : w.server.frame ≡ moves.frame = some_is w.server.frame moves.frame moves.known in
    machine_done w table left (record { tag = t; command = Command.GoTo p }) queued coming aborts
    (acted (Act.Moved p w.server.frame) (idle w.server)) (Does.Moves p w.server.frame) (Act.Moved p w.server.frame ∷ []) f
    (moves.is ∙ ap (λ (g : Frame). Does.Moves p g) (sym frame)) refl tt
    (record { on = refl; last = refl; ledger = refl }) same refl waiting error (more_refl (know_of w.server))
    (done_first w.client.program.features (record { tag = t; command = Command.GoTo p }) (all_received queued ++ all_sent coming)
    table.event table.tally f.standard.0 f.calm refl)
finishes w table left t Command.IsHomed queued coming aborts f same waiting error can = absurd (false≢true can)
finishes w table left t Command.StartSession queued coming aborts f same waiting error can = absurd (false≢true can)
finishes w table left t Command.EndSession queued coming aborts f same waiting error can = absurd (false≢true can)
finishes w table left t Command.ClearAllErrors queued coming aborts f same waiting error can = absurd (false≢true can)
finishes w table left t Command.OnPtMeasReport queued coming aborts f same waiting error can = absurd (false≢true can)
finishes w table left t (Command.PtMeas p d) queued coming aborts f same waiting error can = absurd (false≢true can)
finishes w table left t (Command.SetCsyTransformation p) queued coming aborts f same waiting error can = absurd (false≢true can)
finishes w table left t (Command.SetCoordSystem system) queued coming aborts f same waiting error can = absurd (false≢true can)
finishes w table left t Command.AbortE queued coming aborts f same waiting error can = absurd (false≢true can)

-- a touch
touch_by : (w : World) (table : Table) (left : List Wanted) (t : Tag) (p : Point) (d : Option Direction) (queued coming : List Line)
    (aborts : List ℕ) (at : Point) (tool : Option (List ℕ))
    → IsAtFront w table left (record { tag = t; command = Command.PtMeas p d }) queued coming aborts → w.server.last ≡ w.client.last
    → w.server.waiting ≡ all_wait queued → w.server.error ≡ false
    → w.server.tool ≡ tool → IsAnswered w table w.up (touched w.server t (Command.PtMeas p d) at tool)
touch_by w table left t p d queued coming aborts at None f same waiting error tool_is =
    let fits : FitsTouch (know_of w.server) p d f.does = f.one in
    let none : None ≡ Some fits.touch.tool = sym tool_is ∙ fits.tool in absurd (cc)
touch_by w table left t p d queued coming aborts at (Some n) f same waiting error tool_is =
    let fits : FitsTouch (know_of w.server) p d f.does = f.one in
    let x : Line = record { tag = t; command = Command.PtMeas p d } in
    let point : Point = point_difference at (offset w.server.frame) in
    let tool : Some n ≡ Some fits.touch.tool = sym tool_is ∙ fits.tool in
    let name : n ≡ fits.touch.tool = cc in
    let frame : w.server.frame ≡ fits.touch.frame = some_is w.server.frame fits.touch.frame fits.frame in
    let target : p ≡ fits.touch.target = fits.target in
    let dir : d ≡ fits.touch.dir = fits.dir in
    let stands_for : Act.Contact p d n w.server.frame point ≡ Act.Contact fits.touch.target fits.touch.dir fits.touch.tool fits.touch.frame
    point = cc in
    let given : Datum = Datum.Point point in
    let acts : act_of f.does (Some given) ≡ Act.Contact p d n w.server.frame point ∷ [] =
    ap (λ (does : Does). act_of does (Some given)) fits.is ∙ ap (λ (a : Act). a ∷ []) (sym stands_for) in
    let s : Server = acted (Act.Contact p d n w.server.frame point) (idle w.server) in
    front_done w table left x queued coming aborts s (Reply.Given t given ∷ Reply.Done t ∷ []) (Some given) f
    (subst (λ (l : List Act). Moves w.server s l) (sym acts) (record { on = refl; last = refl; ledger = refl })) same refl waiting error
    (more_refl (know_of w.server))
    (subst (λ (does : Does). HasDatum does (Some given)) (sym fits.is) tt)
    (given_first w.client.program.features x given (all_received queued ++ all_sent coming) table.event table.tally f.standard.0 f.calm
    refl) tt

touches_now : (w : World) (table : Table) (left : List Wanted) (t : Tag) (c : Command) (queued coming : List Line) (aborts : List ℕ)
    (at : Point)
    → IsAtFront w table left (record { tag = t; command = c }) queued coming aborts → w.server.last ≡ w.client.last
    → w.server.waiting ≡ all_wait queued → w.server.error ≡ false
    → has_outcome c (Outcome.Touched at) ≡ true → IsAnswered w table w.up (touched w.server t c at w.server.tool)
touches_now w table left t (Command.PtMeas p d) queued coming aborts at f same waiting error can =
    touch_by w table left t p d queued coming aborts at w.server.tool f same waiting error refl
touches_now w table left t Command.IsHomed queued coming aborts at f same waiting error can = absurd (false≢true can)
touches_now w table left t Command.Home queued coming aborts at f same waiting error can = absurd (false≢true can)
touches_now w table left t (Command.ChangeTool n) queued coming aborts at f same waiting error can = absurd (false≢true can)
touches_now w table left t (Command.GoTo p) queued coming aborts at f same waiting error can = absurd (false≢true can)
touches_now w table left t Command.StartSession queued coming aborts at f same waiting error can = absurd (false≢true can)
touches_now w table left t Command.EndSession queued coming aborts at f same waiting error can = absurd (false≢true can)
touches_now w table left t Command.ClearAllErrors queued coming aborts at f same waiting error can = absurd (false≢true can)
touches_now w table left t Command.OnPtMeasReport queued coming aborts at f same waiting error can = absurd (false≢true can)
touches_now w table left t (Command.SetCsyTransformation p) queued coming aborts at f same waiting error can = absurd (false≢true can)
touches_now w table left t (Command.SetCoordSystem system) queued coming aborts at f same waiting error can = absurd (false≢true can)
touches_now w table left t Command.AbortE queued coming aborts at f same waiting error can = absurd (false≢true can)

-- the machine is done with what runs
pub machined_here : (w : World) (table : Table) (left : List Wanted) (queued coming : List Line) (aborts : List ℕ) (outcome : Outcome)
    → IsNearBy table left w.up w.server.running w.server.waiting w.server.error (know_of w.server) queued coming aborts
    → IsProgress w.client.program.features w.client.last table.tally.features table.tally.points (contacts w.server.ledger) left
    → w.server.last ≡ w.client.last → may_end w.server.running outcome ≡ true → IsAnswered w table w.up (server_machined w.server outcome)
machined_here w table left queued coming aborts outcome n progress same can = go w.server.running refl
  where
    runs : (x : Line) → w.server.running ≡ Some x → (e : Bool) → w.server.error ≡ e → w.server.error ≡ false
    runs x is false e = e
    runs x is true e = let none : Some x ≡ None = sym is ∙ (n.idle e).0 in absurd (cc)

    fails_now : (x : Line) (number : ℕ) → w.server.running ≡ Some x → IsAtFront w table left x queued coming aborts
        → IsAnswered w table w.up (stopped w.server x number)
    fails_now x number is f =
        subst (λ (l : List Waiting). IsAnswered w table w.up (answers (record (in_error w.server) { running = None })
        (fails x.tag number (Some (kind_of x.command)) ++ all_fail 9007 l))) (sym n.waiting_is)
        (front_fails w table left x queued coming aborts (record (in_error w.server) { running = None }) number f
        (record { on = refl; last = refl; ledger = sym (append-nil w.server.ledger) }) refl refl refl)

    ends : (x : Line) (o : Outcome) → w.server.running ≡ Some x → IsAtFront w table left x queued coming aborts → w.server.error ≡ false
        → has_outcome x.command o ≡ true → IsAnswered w table w.up (machined w.server o (Some x))
    ends x Outcome.Done is f quiet has = finishes w table left x.tag x.command queued coming aborts f same n.waiting_is quiet has
    ends x (Outcome.Touched at) is f quiet has = touches_now w table left x.tag x.command queued coming aborts at f same n.waiting_is quiet
        has
    ends x Outcome.Missed is f quiet has = fails_now x 9014 is f
    ends x Outcome.Fault is f quiet has = fails_now x 9015 is f

    go : (o : Option Line) → w.server.running ≡ o → IsAnswered w table w.up (machined w.server outcome w.server.running)
    go None is = let no_end : may_end None outcome ≡ true = subst (λ (o : Option Line). may_end o outcome ≡ true) is can
        in absurd (false≢true no_end)
    go (Some x) is =
        let quiet : w.server.error ≡ false = runs x is w.server.error refl in
        subst (λ (o : Option Line). IsAnswered w table w.up (machined w.server outcome o)) (sym is)
        (ends x outcome is (at_front w table left x queued queued coming aborts n progress (ap (λ (o : Option Line). listed o ++ queued) is)
        quiet) quiet
        (subst (λ (o : Option Line). may_end o outcome ≡ true) is can))
