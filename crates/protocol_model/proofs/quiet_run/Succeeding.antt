-- A server whose next command is ready does it: no turn is refused, and what runs is done.
use Rattle.protocol_model.proofs.Names.{[], ◌&&◌, ◌++◌, ◌+◌, ◌∙◌, ◌∷◌, ◌≡◌, Act, acted, Answer, answers, ap, AreInReach, AreObeyed, arith}
use Rattle.protocol_model.proofs.Names.{as_measured, asks_data, Bool, bytes_eq, carried_out, Command, cond, contact_count, contacts, counted_next}
use Rattle.protocol_model.proofs.Names.{Datum, Direction, Does, drop, false, false≢true, Feature, first_failing, Frame, frame_of, has_no_tool, idle}
use Rattle.protocol_model.proofs.Names.{in_volume, is_contact, is_none, IsInReach, IsObeyed, IsTouched, Job, job_of, kind_of, lacks_tool}
use Rattle.protocol_model.proofs.Names.{leaves_volume, length, length-append, Line, List, list_any, machined, MadeContact, MeasuredFeature, met_at}
use Rattle.protocol_model.proofs.Names.{None, not, offset, Ok, OpenCommand, opens, Option, Outcome, passed_over, plain_point, Planned, Point}
use Rattle.protocol_model.proofs.Names.{point_difference, point_sum, refl, refusal, Reply, Server, Some, subst, suc, sym, Table, Tag, taken, Tally}
use Rattle.protocol_model.proofs.Names.{tells_homed, touch_job, touched, true, Wanted, wants_home, wants_session, ℕ}
use Rattle.std.proofs.lemmas.List.Recursion.{is_count_by}
use Rattle.protocol_model.specs.Typed.{World}
use Rattle.protocol_model.proofs.table.Basics.{if_false}
use Rattle.protocol_model.proofs.table.Replying.{tabled, Reads}
use Rattle.protocol_model.proofs.plan.Fitting.{known_by, FitsOne, FitsMove, FitsTouch, FitsFrame}
use Rattle.protocol_model.proofs.invariant.Served.{contacts_more}
use Rattle.protocol_model.proofs.invariant.Pairs.{done_first, given_first}
use Rattle.protocol_model.proofs.invariant.Holding.{all_received, all_sent, waits, all_wait, know_of}
use Rattle.protocol_model.proofs.each_event.FrontEvent.{IsAtFront}
use Rattle.protocol_model.proofs.undisturbed_run.Homing.{tells_is}
use Rattle.protocol_model.proofs.quiet_run.Jobs.{IsJob}
use Rattle.protocol_model.proofs.quiet_run.Ready.{Allowed, Opened, opened_passed, IsReady, IsNoTouch, counts_ready, touch_ready, rest_of}
use Rattle.protocol_model.proofs.plan.Marks.{touches_in}

abbrev or_else : {A : Type 0} → Option A → A → A
or_else None x = x
or_else (Some y) x = y

some_is : {A : Type 0} (x y : A) → ◌≡◌ {A = Option A} (Some x) (Some y) → x ≡ y
some_is {A} x y e = ap (λ (o : Option A). or_else o x) e

-- what is to be done is ready at a server
abbrev pub ReadyAt : (Job → ℕ → Outcome) → List MeasuredFeature → List Feature → List Wanted → Server → Tally → Type 0
ReadyAt answer goal kept ws s y = IsReady answer goal kept ws s.session s.homed s.rack (contact_count s.ledger) y

-- ---- no check fails

skip : (b : Bool) (number : ℕ) (checks : List (Bool × ℕ)) → b ≡ false → first_failing checks ≡ None
    → first_failing ((b, number) ∷ checks) ≡ None
skip b number checks e h = if_false {A = Option ℕ} b (Some number) (first_failing checks) e ∙ h

none_fail : (a b c d e f : Bool) → a ≡ false → b ≡ false → c ≡ false → d ≡ false → e ≡ false → f ≡ false
    → first_failing ((a, 9005) ∷ (b, 9006) ∷ (c, 9010) ∷ (d, 9012) ∷ (e, 9011) ∷ (f, 9013) ∷ []) ≡ None
none_fail a b c d e f ae be ce de ee fe =
    skip a 9005 ((b, 9006) ∷ (c, 9010) ∷ (d, 9012) ∷ (e, 9011) ∷ (f, 9013) ∷ []) ae
    (skip b 9006 ((c, 9010) ∷ (d, 9012) ∷ (e, 9011) ∷ (f, 9013) ∷ []) be
    (skip c 9010 ((d, 9012) ∷ (e, 9011) ∷ (f, 9013) ∷ []) ce
    (skip d 9012 ((e, 9011) ∷ (f, 9013) ∷ []) de (skip e 9011 ((f, 9013) ∷ []) ee (skip f 9013 [] fe refl)))))

checks_pass : (s : Server) (c : Command) → (wants_session c && not s.session) ≡ false → (opens c && s.session) ≡ false
    → (wants_home c && not s.homed) ≡ false → lacks_tool s.rack c ≡ false → has_no_tool s.tool c ≡ false
    → leaves_volume s.frame c ≡ false → refusal s (Ok c) ≡ None
checks_pass s c a b d e f g = none_fail (wants_session c && not s.session) (opens c && s.session) (wants_home c && not s.homed)
    (lacks_tool s.rack c) (has_no_tool s.tool c) (leaves_volume s.frame c) a b d e f g

no_session : (s : Bool) → s ≡ true → not s ≡ false
no_session s e = ap not e

pub refused_none : (s : Server) (c : Command) (d : Does) → Allowed s.session s.homed c → IsInReach s.rack d → FitsOne (know_of s) c d
    → refusal s (Ok c) ≡ None
refused_none s Command.StartSession d a r f = checks_pass s Command.StartSession refl a refl refl refl refl
refused_none s Command.EndSession d a r f = checks_pass s Command.EndSession (no_session s.session a) refl refl refl refl refl
refused_none s Command.ClearAllErrors d a r f = checks_pass s Command.ClearAllErrors refl refl refl refl refl refl
refused_none s Command.IsHomed d a r f = checks_pass s Command.IsHomed (no_session s.session a) refl refl refl refl refl
refused_none s Command.Home d a r f = checks_pass s Command.Home (no_session s.session a) refl refl refl refl refl
refused_none s Command.OnPtMeasReport d a r f = checks_pass s Command.OnPtMeasReport (no_session s.session a) refl refl refl refl refl
refused_none s (Command.GoTo p) d a r f =
    let moves : FitsMove (know_of s) p d = f in
    let frame : s.frame ≡ moves.frame = some_is s.frame moves.frame moves.known in
    let there : in_volume (point_sum p (offset moves.frame)) ≡ true = subst (IsInReach s.rack) moves.is r in
    checks_pass s (Command.GoTo p) (no_session s.session a.0) refl (no_session s.homed a.1) refl refl
    (ap not (ap (λ (g : Frame). in_volume (point_sum p (offset g))) frame ∙ there))
refused_none s (Command.PtMeas p dir) d a r f =
    let touches : FitsTouch (know_of s) p dir d = f in
    let frame : s.frame ≡ touches.touch.frame = some_is s.frame touches.touch.frame touches.frame in
    let there : in_volume (point_sum touches.touch.target (offset touches.touch.frame)) ≡ true = subst (IsInReach s.rack) touches.is r in
    checks_pass s (Command.PtMeas p dir) (no_session s.session a.0) refl (no_session s.homed a.1) refl (ap is_none touches.tool)
    (ap not (ap (λ (g : Frame). in_volume (point_sum p (offset g))) frame
    ∙ (ap (λ (q : Point). in_volume (point_sum q (offset touches.touch.frame))) touches.target ∙ there)))
refused_none s (Command.ChangeTool n) d a r f =
    let there : list_any (λ m. bytes_eq m n) s.rack ≡ true = subst (IsInReach s.rack) f r in
    checks_pass s (Command.ChangeTool n) (no_session s.session a.0) refl (no_session s.homed a.1) (ap not there) refl refl
refused_none s (Command.SetCsyTransformation p) d a r f =
    checks_pass s (Command.SetCsyTransformation p) (no_session s.session a) refl refl refl refl refl
refused_none s (Command.SetCoordSystem system) d a r f =
    checks_pass s (Command.SetCoordSystem system) (no_session s.session a) refl refl refl refl refl
refused_none s Command.AbortE d a r f = absurd a

-- ---- the count of contacts

counted_more : (entry : ℕ × Act) (acts : List (ℕ × Act)) → length (contacts (entry ∷ acts))
    ≡ cond (is_contact entry.1) (1 + length (contacts acts)) (length (contacts acts))
counted_more (m, Act.Contact t d o f p) acts = omega arith
counted_more (m, Act.HomedIs h) acts = refl
counted_more (m, Act.Homed) acts = refl
counted_more (m, Act.Moved t f) acts = refl
counted_more (m, Act.Changed o) acts = refl
counted_more (m, Act.Framed f) acts = refl

counted : (acts : List (ℕ × Act)) → length (contacts acts) ≡ contact_count acts
counted acts =
    is_count_by (λ (l : List (ℕ × Act)). length (contacts l)) (λ (entry : ℕ × Act). is_contact entry.1) refl counted_more acts

count_more : (l k : List (ℕ × Act)) → contact_count (l ++ k) ≡ contact_count l + length (contacts k)
count_more l k = sym (counted (l ++ k)) ∙ (ap (λ (ms : List MadeContact). length ms) (contacts_more l k)
    ∙ (length-append (contacts l) (contacts k)
    ∙ ap (λ (i : ℕ). i + length (contacts k)) (counted l)))

-- an act that is not a contact adds no contact
pub count_other : (l : List (ℕ × Act)) (m : ℕ) (a : Act) → is_contact a ≡ false → contact_count (l ++ (m, a) ∷ []) ≡ contact_count l
count_other l m a e =
    let more : contact_count (l ++ (m, a) ∷ []) ≡ contact_count l + length (contacts ((m, a) ∷ [])) = count_more l ((m, a) ∷ []) in
    let none : length (contacts ((m, a) ∷ [])) ≡ 0 = go a e in
    omega (arith, more, none)
  where
    go : (x : Act) → is_contact x ≡ false → length (contacts ((m, x) ∷ [])) ≡ 0
    go (Act.Contact t d o f p) e = absurd (false≢true (sym e))
    go (Act.HomedIs h) e = refl
    go Act.Homed e = refl
    go (Act.Moved t f) e = refl
    go (Act.Changed o) e = refl
    go (Act.Framed f) e = refl

-- a contact adds one
pub count_one : (l : List (ℕ × Act)) (m : ℕ) (target : Point) (dir : Option Direction) (tool : List ℕ) (frame : Frame) (point : Point)
    → contact_count (l ++ (m, Act.Contact target dir tool frame point) ∷ []) ≡ suc (contact_count l)
count_one l m target dir tool frame point =
    let more : contact_count (l ++ (m, Act.Contact target dir tool frame point) ∷ []) ≡ contact_count l + 1 =
    count_more l ((m, Act.Contact target dir tool frame point) ∷ []) in
    omega (arith, more)

-- ---- a command succeeds

-- the client reads the answer, nothing has failed, and what is left is ready
pub record Succeeds (answer : Job → ℕ → Outcome) (goal : List MeasuredFeature) (kept : List Feature) (w : World) (table : Table)
    (a : Answer)
    : Type 0
  where
    pub next : Table
    pub reads : Reads w.client.program.features table a.said next
    pub ready : ReadyAt answer goal kept w.client.program.features a.server next.tally
    pub error : a.server.error ≡ false

-- the facts of a front command
record AtFront (answer : Job → ℕ → Outcome) (goal : List MeasuredFeature) (kept : List Feature) (w : World) (table : Table)
    (left : List Wanted)
    (x : Line) (queued coming : List Line) (aborts : List ℕ) : Type 0 where
  front : IsAtFront w table left x queued coming aborts
  ready : ReadyAt answer goal kept w.client.program.features w.server table.tally
  error : w.server.error ≡ false

abbrev first_of : {answer : Job → ℕ → Outcome} {goal : List MeasuredFeature} {kept : List Feature} {w : World} {table : Table}
    {left : List Wanted}
    {x : Line} {queued coming : List Line} {aborts : List ℕ} → AtFront answer goal kept w table left x queued coming aborts → Planned
first_of {x = x} h = record { command = x.command; does = h.front.does }

abbrev whole_of : {answer : Job → ℕ → Outcome} {goal : List MeasuredFeature} {kept : List Feature} {w : World} {table : Table}
    {left : List Wanted}
    {x : Line} {queued coming : List Line} {aborts : List ℕ} → AtFront answer goal kept w table left x queued coming aborts → List Planned
whole_of {table = table} h = h.front.steps ++ table.tally.unsent

opened_front : (answer : Job → ℕ → Outcome) (goal : List MeasuredFeature) (kept : List Feature) (w : World) (table : Table)
    (left : List Wanted)
    (x : Line) (queued coming : List Line) (aborts : List ℕ) (h : AtFront answer goal kept w table left x queued coming aborts)
    → Opened w.server.session w.server.homed (first_of h ∷ whole_of h)
opened_front answer goal kept w table left x queued coming aborts h =
    subst (Opened w.server.session w.server.homed) h.front.todo h.ready.opened

-- it is done without data
done_ok : (answer : Job → ℕ → Outcome) (goal : List MeasuredFeature) (kept : List Feature) (w : World) (table : Table) (left : List Wanted)
    (x : Line) (queued coming : List Line) (aborts : List ℕ) (s : Server)
    (h : AtFront answer goal kept w table left x queued coming aborts) (does : Does) → h.front.does ≡ does → IsNoTouch does
    → asks_data (kind_of x.command) ≡ false → tells_homed (kind_of x.command) None ≡ false
    → Opened s.session s.homed (whole_of h) → s.rack ≡ w.server.rack → contact_count s.ledger ≡ contact_count w.server.ledger
    → s.error ≡ false → Succeeds answer goal kept w table (answers s (Reply.Done x.tag ∷ []))
done_ok answer goal kept w table left x queued coming aborts s h does is none asks quiet opened rack count error =
    let ws : List Wanted = w.client.program.features in
    let f : IsAtFront w table left x queued coming aborts = h.front in
    let hs : List OpenCommand = all_received queued ++ all_sent coming in
    record {
      next = tabled hs table.event (counted_next ws (kind_of x.command) None table.tally.todo table.tally);
      reads = subst (λ (l : List OpenCommand). Reads ws (tabled l table.event table.tally) (Reply.Done x.tag ∷ [])
          (tabled hs table.event (counted_next ws (kind_of x.command) None table.tally.todo table.tally))) (sym f.standard_is)
          (done_first ws x hs table.event table.tally f.standard.0 f.calm asks);
      ready = subst (λ (r : List (List ℕ)). IsReady answer goal kept ws s.session s.homed r (contact_count s.ledger)
          (counted_next ws (kind_of x.command) None table.tally.todo table.tally)) (sym rack)
          (subst (λ (i : ℕ). IsReady answer goal kept ws s.session s.homed w.server.rack i
          (counted_next ws (kind_of x.command) None table.tally.todo table.tally)) (sym count)
          (counts_ready answer goal kept ws w.server.session w.server.homed s.session s.homed w.server.rack (contact_count w.server.ledger)
          table.tally (kind_of x.command) None (first_of h) (whole_of h) (known_by (know_of w.server) x.command) h.ready f.todo
          (subst IsNoTouch (sym is) none) f.rest
          (subst (λ (b : Bool). Opened s.session s.homed (passed_over b (whole_of h))) (sym quiet) opened)));
      error = error;
    }

-- it runs
runs_ok : (answer : Job → ℕ → Outcome) (goal : List MeasuredFeature) (kept : List Feature) (w : World) (table : Table) (left : List Wanted)
    (x : Line) (queued coming : List Line) (aborts : List ℕ) (s : Server)
    (h : AtFront answer goal kept w table left x queued coming aborts) → Opened s.session s.homed (first_of h ∷ whole_of h)
    → s.rack ≡ w.server.rack → s.ledger ≡ w.server.ledger → s.error ≡ false → Succeeds answer goal kept w table (answers s [])
runs_ok answer goal kept w table left x queued coming aborts s h opened rack ledger error = record {
  next = table;
  reads = refl;
  ready = record {
    failed = h.ready.failed;
    opened = subst (Opened s.session s.homed) (sym h.front.todo) opened;
    reach = subst (λ (r : List (List ℕ)). AreInReach r table.tally.todo) (sym rack) h.ready.reach;
    obeys = subst (λ (l : List (ℕ × Act)). AreObeyed answer (contact_count l) table.tally.todo) (sym ledger) h.ready.obeys;
    front = h.ready.front;
    rest = subst (λ (l : List (ℕ × Act)). as_measured table.tally.features ++ rest_of answer (contact_count l)
        (drop (length table.tally.features) w.client.program.features) table.tally.points (touches_in table.tally.todo) ≡ goal) (sym ledger)
        h.ready.rest;
  };
  error = error;
}

-- ---- a turn

turn_ok : (answer : Job → ℕ → Outcome) (goal : List MeasuredFeature) (kept : List Feature) (w : World) (table : Table) (left : List Wanted)
    (t : Tag) (c : Command) (queued coming : List Line) (aborts : List ℕ)
    → AtFront answer goal kept w table left (record { tag = t; command = c }) queued coming aborts
    → Succeeds answer goal kept w table (carried_out (record (w.server) { waiting = all_wait queued }) t c)
turn_ok answer goal kept w table left t Command.StartSession queued coming aborts h =
    done_ok answer goal kept w table left _ queued coming aborts (record (w.server) { waiting = all_wait queued; session = true }) h
    Does.Nothing h.front.one tt refl refl (opened_front answer goal kept w table left _ queued coming aborts h).1 refl refl h.error
turn_ok answer goal kept w table left t Command.EndSession queued coming aborts h =
    done_ok answer goal kept w table left _ queued coming aborts (record (w.server) { waiting = all_wait queued; session = false }) h
    Does.Nothing h.front.one tt refl refl (opened_front answer goal kept w table left _ queued coming aborts h).1 refl refl h.error
turn_ok answer goal kept w table left t Command.ClearAllErrors queued coming aborts h =
    done_ok answer goal kept w table left _ queued coming aborts (record (w.server) { waiting = all_wait queued }) h
    Does.Nothing h.front.one tt refl refl (opened_front answer goal kept w table left _ queued coming aborts h).1 refl refl h.error
turn_ok answer goal kept w table left t Command.OnPtMeasReport queued coming aborts h =
    done_ok answer goal kept w table left _ queued coming aborts (record (w.server) { waiting = all_wait queued }) h
    Does.Nothing h.front.one tt refl refl (opened_front answer goal kept w table left _ queued coming aborts h).1 refl refl h.error
turn_ok answer goal kept w table left t (Command.SetCsyTransformation p) queued coming aborts h =
    done_ok answer goal kept w table left _ queued coming aborts
    (record (w.server) { waiting = all_wait queued; stored = Rattle.fixed_um.specs.Points.point_opposite p }) h
    Does.Nothing h.front.one tt refl refl (opened_front answer goal kept w table left _ queued coming aborts h).1 refl refl h.error
turn_ok answer goal kept w table left t (Command.SetCoordSystem system) queued coming aborts h =
    let g : Frame = frame_of system w.server.stored in
    let frames : FitsFrame (know_of w.server) system h.front.does = h.front.one in
    done_ok answer goal kept w table left _ queued coming aborts
    (acted (Act.Framed g) (record (w.server) { waiting = all_wait queued; frame = g })) h
    (Does.Frames frames.frame) frames.is tt refl refl (opened_front answer goal kept w table left _ queued coming aborts h).1 refl
    (count_other w.server.ledger w.server.last (Act.Framed g) refl) h.error
turn_ok answer goal kept w table left t Command.IsHomed queued coming aborts h =
    let ws : List Wanted = w.client.program.features in
    let x : Line = record { tag = t; command = Command.IsHomed } in
    let f : IsAtFront w table left x queued coming aborts = h.front in
    let hs : List OpenCommand = all_received queued ++ all_sent coming in
    let d : Datum = Datum.Homed w.server.homed in
    let k : Option Datum = Some d in
    let next : Tally = counted_next ws (kind_of Command.IsHomed) k table.tally.todo table.tally in
    let s : Server = acted (Act.HomedIs w.server.homed) (record (w.server) { waiting = all_wait queued }) in
    record {
      next = tabled hs table.event next;
      reads = subst (λ (l : List OpenCommand). Reads ws (tabled l table.event table.tally) (Reply.Given t d ∷ Reply.Done t ∷ [])
          (tabled hs table.event next)) (sym f.standard_is)
          (given_first ws x d hs table.event table.tally f.standard.0 f.calm refl);
      ready = subst (λ (i : ℕ). IsReady answer goal kept ws w.server.session w.server.homed w.server.rack i next)
          (sym (count_other w.server.ledger w.server.last (Act.HomedIs w.server.homed) refl))
          (counts_ready answer goal kept ws w.server.session w.server.homed w.server.session w.server.homed w.server.rack
          (contact_count w.server.ledger) table.tally (kind_of Command.IsHomed) k (first_of h) (whole_of h) (know_of w.server) h.ready
          f.todo
          (subst IsNoTouch (sym f.one) tt) f.rest
          (opened_passed w.server.session w.server.homed (tells_homed (kind_of Command.IsHomed) k) (whole_of h) (tells_is w.server.homed)
          (opened_front answer goal kept w table left x queued coming aborts h).1));
      error = h.error;
    }
turn_ok answer goal kept w table left t Command.Home queued coming aborts h =
    runs_ok answer goal kept w table left _ queued coming aborts
    (record (w.server) { waiting = all_wait queued; homed = false; running = Some (record { tag = t; command = Command.Home }) }) h
    (opened_front answer goal kept w table left _ queued coming aborts h) refl refl h.error
turn_ok answer goal kept w table left t (Command.ChangeTool n) queued coming aborts h =
    runs_ok answer goal kept w table left _ queued coming aborts
    (record (w.server) { waiting = all_wait queued; tool = None; running = Some (record { tag = t; command = Command.ChangeTool n }) }) h
    (opened_front answer goal kept w table left _ queued coming aborts h) refl refl h.error
turn_ok answer goal kept w table left t (Command.GoTo p) queued coming aborts h =
    runs_ok answer goal kept w table left _ queued coming aborts
    (record (w.server) { waiting = all_wait queued; running = Some (record { tag = t; command = Command.GoTo p }) }) h
    (opened_front answer goal kept w table left _ queued coming aborts h) refl refl h.error
turn_ok answer goal kept w table left t (Command.PtMeas p d) queued coming aborts h =
    runs_ok answer goal kept w table left _ queued coming aborts
    (record (w.server) { waiting = all_wait queued; running = Some (record { tag = t; command = Command.PtMeas p d }) }) h
    (opened_front answer goal kept w table left _ queued coming aborts h) refl refl h.error
turn_ok answer goal kept w table left t Command.AbortE queued coming aborts h = absurd h.front.one

-- the turn of a command that is ready succeeds
pub turn_succeeds : (answer : Job → ℕ → Outcome) (goal : List MeasuredFeature) (kept : List Feature) (w : World) (table : Table)
    (left : List Wanted) (x : Line) (queued coming : List Line) (aborts : List ℕ) → IsAtFront w table left x queued coming aborts
    → ReadyAt answer goal kept w.client.program.features w.server table.tally → w.server.error ≡ false
    → Succeeds answer goal kept w table (taken w.server (waits x) (all_wait queued) (refusal w.server (Ok x.command)))
turn_succeeds answer goal kept w table left x queued coming aborts f r error =
    let h : AtFront answer goal kept w table left x queued coming aborts = record { front = f; ready = r; error = error } in
    let none : refusal w.server (Ok x.command) ≡ None =
    refused_none w.server x.command f.does (opened_front answer goal kept w table left x queued coming aborts h).0
    (subst (AreInReach w.server.rack) f.todo r.reach).0 f.one in
    subst (λ (o : Option ℕ). Succeeds answer goal kept w table (taken w.server (waits x) (all_wait queued) o)) (sym none)
    (turn_ok answer goal kept w table left x.tag x.command queued coming aborts h)

-- ---- the end of what runs

obeyed : (answer : Job → ℕ → Outcome) (goal : List MeasuredFeature) (kept : List Feature) (w : World) (table : Table) (left : List Wanted)
    (x : Line) (queued coming : List Line) (aborts : List ℕ) (h : AtFront answer goal kept w table left x queued coming aborts)
    → IsObeyed answer (contact_count w.server.ledger) h.front.does
obeyed answer goal kept w table left x queued coming aborts h =
    (subst (AreObeyed answer (contact_count w.server.ledger)) h.front.todo h.ready.obeys).0

-- the outcome is that of this job
job_outcome : (answer : Job → ℕ → Outcome) (n : ℕ) (j k : Job) (outcome o : Outcome) → ◌≡◌ {A = Option Job} (Some j) (Some k)
    → outcome ≡ answer k n → answer j n ≡ o → outcome ≡ o
job_outcome answer n j k outcome o same is e = is ∙ (ap (λ (i : Job). answer i n) (sym (some_is j k same)) ∙ e)

done_end : (answer : Job → ℕ → Outcome) (goal : List MeasuredFeature) (kept : List Feature) (w : World) (table : Table) (x : Line)
    (outcome : Outcome) → outcome ≡ Outcome.Done → Succeeds answer goal kept w table (machined w.server Outcome.Done (Some x))
    → Succeeds answer goal kept w table (machined w.server outcome (Some x))
done_end answer goal kept w table x outcome e h =
    subst (λ (o : Outcome). Succeeds answer goal kept w table (machined w.server o (Some x))) (sym e) h

touch_ok : (answer : Job → ℕ → Outcome) (goal : List MeasuredFeature) (kept : List Feature) (w : World) (table : Table) (left : List Wanted)
    (t : Tag) (p : Point) (d : Option Direction) (queued coming : List Line) (aborts : List ℕ)
    (h : AtFront answer goal kept w table left (record { tag = t; command = Command.PtMeas p d }) queued coming aborts)
    (fits : FitsTouch (know_of w.server) p d h.front.does) (at : Point) (tool : Option (List ℕ)) → w.server.tool ≡ tool
    → point_difference at (offset w.server.frame) ≡ plain_point answer (contact_count w.server.ledger) fits.touch
    → Succeeds answer goal kept w table (touched w.server t (Command.PtMeas p d) at tool)
touch_ok answer goal kept w table left t p d queued coming aborts h fits at None tool point =
    let none : None ≡ Some fits.touch.tool = sym tool ∙ fits.tool in absurd (cc)
touch_ok answer goal kept w table left t p d queued coming aborts h fits at (Some name) tool point =
    let ws : List Wanted = w.client.program.features in
    let x : Line = record { tag = t; command = Command.PtMeas p d } in
    let f : IsAtFront w table left x queued coming aborts = h.front in
    let hs : List OpenCommand = all_received queued ++ all_sent coming in
    let q : Point = point_difference at (offset w.server.frame) in
    let k : Option Datum = Some (Datum.Point q) in
    let n : ℕ = contact_count w.server.ledger in
    let next : Tally = counted_next ws (kind_of (Command.PtMeas p d)) k table.tally.todo table.tally in
    record {
      next = tabled hs table.event next;
      reads = subst (λ (l : List OpenCommand). Reads ws (tabled l table.event table.tally)
          (Reply.Given t (Datum.Point q) ∷ Reply.Done t ∷ [])
          (tabled hs table.event next)) (sym f.standard_is)
          (given_first ws x (Datum.Point q) hs table.event table.tally f.standard.0 f.calm refl);
      ready = subst (λ (i : ℕ). IsReady answer goal kept ws w.server.session w.server.homed w.server.rack i next)
          (sym (count_one w.server.ledger w.server.last p d name w.server.frame q))
          (subst (λ (r : Point). IsReady answer goal kept ws w.server.session w.server.homed w.server.rack (suc n)
          (counted_next ws (kind_of (Command.PtMeas p d)) (Some (Datum.Point r)) table.tally.todo table.tally)) (sym point)
          (touch_ready answer goal kept ws w.server.session w.server.homed w.server.rack n table.tally (kind_of (Command.PtMeas p d))
          fits.touch fits.last (first_of h) (whole_of h) h.ready f.todo fits.is refl
          (opened_front answer goal kept w table left x queued coming aborts h).1));
      error = h.error;
    }

end_ok : (answer : Job → ℕ → Outcome) (goal : List MeasuredFeature) (kept : List Feature) (w : World) (table : Table) (left : List Wanted)
    (t : Tag) (c : Command) (queued coming : List Line) (aborts : List ℕ)
    → AtFront answer goal kept w table left (record { tag = t; command = c }) queued coming aborts → IsJob c
    → w.server.waiting ≡ all_wait queued → (k : Job) → job_of w.server.frame c ≡ Some k → (outcome : Outcome)
    → outcome ≡ answer k (contact_count w.server.ledger)
    → Succeeds answer goal kept w table (machined w.server outcome (Some (record { tag = t; command = c })))
end_ok answer goal kept w table left t Command.Home queued coming aborts h j waiting k asked outcome is =
    let x : Line = record { tag = t; command = Command.Home } in
    let n : ℕ = contact_count w.server.ledger in
    done_end answer goal kept w table x outcome
    (job_outcome answer n Job.Home k outcome Outcome.Done asked is
    (subst (IsObeyed answer n) h.front.one (obeyed answer goal kept w table left x queued coming aborts h)))
    (done_ok answer goal kept w table left x queued coming aborts (acted Act.Homed (record (idle w.server) { homed = true })) h
    Does.Homes h.front.one tt refl refl (opened_front answer goal kept w table left x queued coming aborts h).1 refl
    (count_other w.server.ledger w.server.last Act.Homed refl) h.error)
end_ok answer goal kept w table left t (Command.ChangeTool name) queued coming aborts h j waiting k asked outcome is =
    let x : Line = record { tag = t; command = Command.ChangeTool name } in
    let n : ℕ = contact_count w.server.ledger in
    done_end answer goal kept w table x outcome
    (job_outcome answer n (Job.Change name) k outcome Outcome.Done asked is
    (subst (IsObeyed answer n) h.front.one (obeyed answer goal kept w table left x queued coming aborts h)))
    (done_ok answer goal kept w table left x queued coming aborts
    (acted (Act.Changed name) (record (idle w.server) { tool = Some name })) h
    (Does.Changes name) h.front.one tt refl refl (opened_front answer goal kept w table left x queued coming aborts h).1 refl
    (count_other w.server.ledger w.server.last (Act.Changed name) refl) h.error)
end_ok answer goal kept w table left t (Command.GoTo p) queued coming aborts h j waiting k asked outcome is =
    let x : Line = record { tag = t; command = Command.GoTo p } in
    let n : ℕ = contact_count w.server.ledger in
    let moves : FitsMove (know_of w.server) p h.front.does = h.front.one in
    let frame : w.server.frame ≡ moves.frame = some_is w.server.frame moves.frame moves.known in
    let does : answer (Job.Move (point_sum p (offset moves.frame))) n ≡ Outcome.Done =
    subst (IsObeyed answer n) moves.is (obeyed answer goal kept w table left x queued coming aborts h) in
    done_end answer goal kept w table x outcome
    (job_outcome answer n (Job.Move (point_sum p (offset w.server.frame))) k outcome Outcome.Done asked is
    (ap (λ (g : Frame). answer (Job.Move (point_sum p (offset g))) n) frame ∙ does))
    (done_ok answer goal kept w table left x queued coming aborts (acted (Act.Moved p w.server.frame) (idle w.server)) h
    (Does.Moves p moves.frame) moves.is tt refl refl (opened_front answer goal kept w table left x queued coming aborts h).1 refl
    (count_other w.server.ledger w.server.last (Act.Moved p w.server.frame) refl) h.error)
end_ok answer goal kept w table left t (Command.PtMeas p d) queued coming aborts h j waiting k asked outcome is =
    ends outcome refl
  where
    x : Line
    x = record { tag = t; command = Command.PtMeas p d }

    n : ℕ
    n = contact_count w.server.ledger

    fits : FitsTouch (know_of w.server) p d h.front.does
    fits = h.front.one

    frame : w.server.frame ≡ fits.touch.frame
    frame = some_is w.server.frame fits.touch.frame fits.frame

    same : Job.Touch (point_sum p (offset w.server.frame)) d ≡ touch_job fits.touch
    same = ap (λ (g : Frame). Job.Touch (point_sum p (offset g)) d) frame
        ∙ (ap (λ (q : Point). Job.Touch (point_sum q (offset fits.touch.frame)) d) fits.target
        ∙ ap (λ (e : Option Direction). Job.Touch (point_sum fits.touch.target (offset fits.touch.frame)) e) fits.dir)

    answered : outcome ≡ answer (touch_job fits.touch) n
    answered = job_outcome answer n (Job.Touch (point_sum p (offset w.server.frame)) d) k outcome (answer (touch_job fits.touch) n) asked is
        (ap (λ (i : Job). answer i n) same)

    touched_is : IsTouched outcome
    touched_is = subst IsTouched (sym answered)
        (subst (IsObeyed answer n) fits.is (obeyed answer goal kept w table left x queued coming aborts h))

    at_point : (at : Point) → outcome ≡ Outcome.Touched at
        → point_difference at (offset w.server.frame) ≡ plain_point answer n fits.touch
    at_point at e = ap (λ (g : Frame). point_difference at (offset g)) frame
        ∙ ap (λ (o : Outcome). point_difference (met_at o) (offset fits.touch.frame)) (sym e ∙ answered)

    ends : (o : Outcome) → outcome ≡ o → Succeeds answer goal kept w table (machined w.server outcome (Some x))
    ends (Outcome.Touched at) e = subst (λ (o : Outcome). Succeeds answer goal kept w table (machined w.server o (Some x))) (sym e)
        (touch_ok answer goal kept w table left t p d queued coming aborts h fits at w.server.tool refl (at_point at e))
    ends Outcome.Done e = absurd (subst IsTouched e touched_is)
    ends Outcome.Missed e = absurd (subst IsTouched e touched_is)
    ends Outcome.Fault e = absurd (subst IsTouched e touched_is)
end_ok answer goal kept w table left t Command.StartSession queued coming aborts h j waiting k asked outcome is = absurd j
end_ok answer goal kept w table left t Command.EndSession queued coming aborts h j waiting k asked outcome is = absurd j
end_ok answer goal kept w table left t Command.ClearAllErrors queued coming aborts h j waiting k asked outcome is = absurd j
end_ok answer goal kept w table left t Command.IsHomed queued coming aborts h j waiting k asked outcome is = absurd j
end_ok answer goal kept w table left t Command.OnPtMeasReport queued coming aborts h j waiting k asked outcome is = absurd j
end_ok answer goal kept w table left t (Command.SetCsyTransformation p) queued coming aborts h j waiting k asked outcome is = absurd j
end_ok answer goal kept w table left t (Command.SetCoordSystem system) queued coming aborts h j waiting k asked outcome is = absurd j
end_ok answer goal kept w table left t Command.AbortE queued coming aborts h j waiting k asked outcome is = absurd j

-- the end of a job that is ready and that the machine obeys succeeds
pub end_succeeds : (answer : Job → ℕ → Outcome) (goal : List MeasuredFeature) (kept : List Feature) (w : World) (table : Table)
    (left : List Wanted) (x : Line) (queued coming : List Line) (aborts : List ℕ) → IsAtFront w table left x queued coming aborts
    → ReadyAt answer goal kept w.client.program.features w.server table.tally → w.server.error ≡ false → IsJob x.command
    → w.server.waiting ≡ all_wait queued → (k : Job) → job_of w.server.frame x.command ≡ Some k → (outcome : Outcome)
    → outcome ≡ answer k (contact_count w.server.ledger)
    → Succeeds answer goal kept w table (machined w.server outcome (Some x))
end_succeeds answer goal kept w table left x queued coming aborts f r error j waiting k asked outcome is =
    end_ok answer goal kept w table left x.tag x.command queued coming aborts (record { front = f; ready = r; error = error }) j waiting k
    asked outcome is
