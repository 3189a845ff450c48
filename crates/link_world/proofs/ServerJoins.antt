-- A server's turn over its ports is a list of events of the world.
use Rattle.link_world.proofs.Names.{[], ◌&&◌, ◌++◌, ◌-◌, ◌∙◌, ◌∷◌, ◌≡◌, ◌≤◌, after, always_sound, always_told, and_from, and_parts, ap, append-nil}
use Rattle.link_world.proofs.Names.{append_assoc, AreFit, AreWork, arith, Bool, can, Command, command_of, cond, contact_count, Direction, drop, ended}
use Rattle.link_world.proofs.Names.{ending, ends, Err, Event, false, false≢true, fed, fed_behind, fits_job, Frame, Framing, FramingFault, Front}
use Rattle.link_world.proofs.Names.{front_served, has_outcome, in_volume, is_line, is_none, IsCarried, IsProgram, IsServerTurn, Job, job_of, job_run}
use Rattle.link_world.proofs.Names.{knows, le-leb, length, Line, Link, List, machined_moves, may_end, may_feed, may_turn, Meaning, next_of, no_link}
use Rattle.link_world.proofs.Names.{None, offset, Ok, Option, Outcome, Point, point_sum, read_moves, Reading, reading_of, refl, reply_bytes}
use Rattle.link_world.proofs.Names.{run_carried, run_of, running_job, Server, server_joined, server_link, server_machined, server_turned}
use Rattle.link_world.proofs.Names.{server_writes, ServerEnd, ServerTurn, serving_fed, serving_left, serving_machined, serving_read, serving_turned}
use Rattle.link_world.proofs.Names.{set-get_or, shift_at, simulated, Some, Sound, Stage, start, start_carried, subst, sym, take, take-append-drop}
use Rattle.link_world.proofs.Names.{Taking, Told, true, turned_moves, TurnLeads, turns, with_link, Working, working, World, Writing, ℕ}
use Rattle.link_world.specs.ServerPumps.{begins, has, reads, takes, writes}
use Rattle.link_world.proofs.EventLists.{run_append, done_now, not_done}
use Rattle.link_world.proofs.TurnJoins.{SoFar, not_yet, once_more, Worked, no_work, more_work, all_worked, heard_only, served_whole}
use Rattle.link_world.proofs.ClientJoins.{put_again, fed_none, never_none, fits}

-- ---- what a machine answers

-- an outcome that fits the job of what runs ends it
may_end_by : (f : Frame) (r : Option Line) (j : Job) (o : Outcome) → job_run f r ≡ Some j → fits_job j o ≡ true → may_end r o ≡ true
may_end_by f None j o is fit = absurd (cc)
may_end_by f (Some line) j o is fit = go line.command is
  where
    job_in : Option Job → Job
    job_in (Some k) = k
    job_in None = j

    fits_as : (k : Job) → Some k ≡ Some j → fits_job k o ≡ true
    fits_as k same = subst (λ (x : Job). fits_job x o ≡ true) (sym (ap job_in same)) fit

    home : (o : Outcome) → fits_job Job.Home o ≡ true → has_outcome Command.Home o ≡ true
    home Outcome.Done fit = refl
    home (Outcome.Touched at) fit = absurd (false≢true fit)
    home Outcome.Missed fit = absurd (false≢true fit)
    home Outcome.Fault fit = refl

    move : (p q : Point) (o : Outcome) → fits_job (Job.Move q) o ≡ true → has_outcome (Command.GoTo p) o ≡ true
    move p q Outcome.Done fit = refl
    move p q (Outcome.Touched at) fit = absurd (false≢true fit)
    move p q Outcome.Missed fit = absurd (false≢true fit)
    move p q Outcome.Fault fit = refl

    change : (n m : List ℕ) (o : Outcome) → fits_job (Job.Change m) o ≡ true → has_outcome (Command.ChangeTool n) o ≡ true
    change n m Outcome.Done fit = refl
    change n m (Outcome.Touched at) fit = absurd (false≢true fit)
    change n m Outcome.Missed fit = absurd (false≢true fit)
    change n m Outcome.Fault fit = refl

    touch : (p q : Point) (d : Option Direction) (o : Outcome) → fits_job (Job.Touch q d) o ≡ true
        → has_outcome (Command.PtMeas p d) o ≡ true
    touch p q d Outcome.Done fit = absurd (false≢true fit)
    touch p q d (Outcome.Touched at) fit = fit
    touch p q d Outcome.Missed fit = refl
    touch p q d Outcome.Fault fit = refl

    go : (c : Command) → job_of f c ≡ Some j → has_outcome c o ≡ true
    go Command.Home is = home o (fits_as Job.Home is)
    go (Command.ChangeTool n) is = change n n o (fits_as (Job.Change n) is)
    go (Command.GoTo p) is = move p (point_sum p (offset f)) o (fits_as (Job.Move (point_sum p (offset f))) is)
    go (Command.PtMeas p d) is = touch p (point_sum p (offset f)) d o (fits_as (Job.Touch (point_sum p (offset f)) d) is)
    go Command.StartSession is = absurd (cc)
    go Command.EndSession is = absurd (cc)
    go Command.ClearAllErrors is = absurd (cc)
    go Command.OnPtMeasReport is = absurd (cc)
    go Command.IsHomed is = absurd (cc)
    go (Command.SetCsyTransformation p) is = absurd (cc)
    go (Command.SetCoordSystem system) is = absurd (cc)
    go Command.AbortE is = absurd (cc)

none_run : (f : Frame) (r : Option Line) → is_none r ≡ true → job_run f r ≡ None
none_run f None is = refl
none_run f (Some line) is = absurd (false≢true is)

met_fits : (p q : Point) (d : Option Direction) (b : Bool) → in_volume p ≡ b
    → fits_job (Job.Touch q d) (cond b (Outcome.Touched p) Outcome.Missed) ≡ true
met_fits p q d true is = is
met_fits p q d false is = refl

-- what the simulated machine answers fits
pub simulated_fits : (shifts : List Point) → AreFit (simulated shifts)
simulated_fits shifts (Job.Touch p d) n = met_fits (point_sum p (shift_at shifts n)) p d (in_volume (point_sum p (shift_at shifts n))) refl
simulated_fits shifts Job.Home n = refl
simulated_fits shifts (Job.Move p) n = refl
simulated_fits shifts (Job.Change m) n = refl

-- ---- what a server keeps

served_last : (e : ServerEnd) (f : Front) → (front_served e f).server.last ≡ e.server.last
served_last e (Ok None) = refl
served_last e (Ok (Some (line, rest))) = (read_moves e.server (reading_of (command_of line))).last
served_last e (Err why) = refl

served_fine : (e : ServerEnd) (f : Front) → is_line f ≡ true → (front_served e f).input.fault ≡ e.input.fault
served_fine e (Ok None) is = refl
served_fine e (Ok (Some (line, rest))) is = refl
served_fine e (Err why) is = absurd (false≢true is)

-- what is answered joins what is to be sent
served_more : (e : ServerEnd) (f : Front) → is_line f ≡ true
    → front_served e f ≡ record (front_served (record e { out = [] }) f) {
      out = e.out ++ (front_served (record e { out = [] }) f).out;
    }
served_more e (Ok None) is = absurd (false≢true is)
served_more e (Ok (Some (line, rest))) is = refl
served_more e (Err why) is = absurd (false≢true is)

fed_fine : (fault : Option FramingFault) (rest xs : List ℕ) → (fed_behind fault rest xs).fault ≡ fault
fed_fine None rest xs = refl
fed_fine (Some why) rest xs = refl

-- ---- one event

-- the server is on a connection that was made, with nothing to send, and has met no fault
pub record IsServing (w : World) : Type 0 where
  pub out : w.server.out ≡ []
  pub fine : w.server.input.fault ≡ None
  pub from : 1 ≤ w.server.server.last
  pub to : w.server.server.last ≤ length w.links

begun : (w : World) → IsServing w → w ≡ server_joined w w.server w.server.out 0
begun w h = sym (λ i. record {
  client = w.client;
  server = record (w.server) { out = sym h.out i };
  links = (ap (λ (t : List ℕ). with_link w.links w.server.server.last
      (record { up = (server_link w).up; down = (server_link w).down ++ t })) h.out
      ∙ (ap (λ (u : List ℕ). with_link w.links w.server.server.last (record { up = (server_link w).up; down = u }))
      (append-nil (server_link w).down)
      ∙ set-get_or w.links (w.server.server.last - 1) no_link)) i;
  written = w.written;
})

begun_on : (w : World) → IsServing w → after (Event.Up 0) w ≡ server_joined w w.server w.server.out 0
begun_on w h = not_done (Event.Up 0) w (never_none w.server.server.on (is_none w.server.input.fault)) ∙ begun w h

some_up : (w : World) (k : ℕ) → may_feed w.server ≡ true → 1 ≤ k → k ≤ length (server_link w).up → can (Event.Up k) w ≡ true
some_up w k may some le =
    let parts = and_parts _ _ may in
    and_from _ _ parts.0 (and_from _ _ parts.1 (and_from _ _ (le-leb 1 k some) (le-leb k (length (server_link w).up) le)))

takes_on : (w : World) (read : List ℕ) → IsServing w → may_feed w.server ≡ true
    → take (length read) (server_link w).up ≡ read
    → after (Event.Up (length read)) w ≡ server_joined w (serving_fed read w.server) w.server.out (length read)
takes_on w [] h may front =
    begun_on w h ∙ ap (λ (f : Framing). server_joined w (record (w.server) { input = f }) w.server.out 0)
    (sym (fed_none w.server.input))
takes_on w (x ∷ xs) h may front =
    let k : ℕ = length (x ∷ xs) in
    done_now (Event.Up k) w (some_up w k may (omega arith) (fits (x ∷ xs) (server_link w).up front))
    ∙ (λ i. record {
      client = w.client;
      server = record (w.server) { input = fed w.server.input (front i); out = h.out i };
      links = sym (ap (λ (t : List ℕ). with_link w.links w.server.server.last
          (record { up = drop k (server_link w).up; down = (server_link w).down ++ t })) h.out
          ∙ ap (λ (u : List ℕ). with_link w.links w.server.server.last (record { up = drop k (server_link w).up; down = u }))
          (append-nil (server_link w).down)) i;
      written = w.written;
    })

-- the server answers more
writes_on : (w : World) (e f : ServerEnd) (more : List ℕ) (k : ℕ) → IsServing w → e.server.last ≡ w.server.server.last
    → server_writes (server_joined w e e.out k) (record f { out = more })
    ≡ server_joined w (record f { out = e.out ++ more }) (e.out ++ more) k
writes_on w e f more k h last = λ i. record {
  client = w.client;
  server = record f { out = [] };
  links = (put_again (λ (l : Link). record l { down = l.down ++ more }) w.links w.server.server.last e.server.last
      (record { up = drop k (server_link w).up; down = (server_link w).down ++ e.out }) last h.from h.to
      ∙ ap (λ (d : List ℕ). with_link w.links w.server.server.last (record { up = drop k (server_link w).up; down = d }))
      (append_assoc (server_link w).down e.out more)) i;
  written = w.written;
}

reads_on : (w : World) (e : ServerEnd) (k : ℕ) → IsServing w → e.server.last ≡ w.server.server.last
    → e.input.fault ≡ None → e.server.on ≡ true → is_line (next_of e.input.rest) ≡ true
    → after Event.ServerReads (server_joined w e e.out k)
    ≡ server_joined w (serving_read e) (serving_read e).out k
reads_on w e k h last fine on is =
    let f : ServerEnd = serving_read (record e { out = [] }) in
    done_now Event.ServerReads (server_joined w e e.out k) (and_from _ _ on (and_from _ _ (ap is_none fine) is))
    ∙ (writes_on w e f f.out k h last
    ∙ ap (λ (x : ServerEnd). server_joined w x x.out k) (sym (served_more e (next_of e.input.rest) is)))

turns_on : (w : World) (e : ServerEnd) (k : ℕ) → IsServing w → e.server.last ≡ w.server.server.last
    → may_turn e.server ≡ true
    → after Event.ServerTurn (server_joined w e e.out k) ≡ server_joined w (serving_turned e) (serving_turned e).out k
turns_on w e k h last may =
    done_now Event.ServerTurn (server_joined w e e.out k) may
    ∙ writes_on w e (serving_turned e) (reply_bytes (server_turned e.server).said) k h last

ends_on : (w : World) (e : ServerEnd) (k : ℕ) (o : Outcome) → IsServing w → e.server.last ≡ w.server.server.last
    → may_end e.server.running o ≡ true
    → after (Event.Machine o) (server_joined w e e.out k) ≡ server_joined w (serving_machined o e) (serving_machined o e).out k
ends_on w e k o h last may =
    done_now (Event.Machine o) (server_joined w e e.out k) may
    ∙ writes_on w e (serving_machined o e) (reply_bytes (server_machined e.server o).said) k h last

-- ---- what the server has to do

next_turn : (answer : Job → ℕ → Outcome) (w : World) → may_turn w.server.server ≡ true
    → working (ending answer w) w ≡ Some Event.ServerTurn
next_turn answer w may =
    let s : Server = w.server.server in
    ap (λ (o : Option Job). working (ended answer (contact_count s.ledger) o) w) (none_run s.frame s.running (and_parts _ _ may).0)
    ∙ ap (λ (b : Bool). cond {A = Option Event} b (Some Event.ServerTurn) None) may

next_end : (answer : Job → ℕ → Outcome) (w : World) (j : Job) → running_job w.server.server ≡ Some j
    → working (ending answer w) w ≡ Some (Event.Machine (answer j (contact_count w.server.server.ledger)))
next_end answer w j is = ap (λ (o : Option Job). working (ended answer (contact_count w.server.server.ledger) o) w) is

next_none : (answer : Job → ℕ → Outcome) (w : World) → may_turn w.server.server ≡ false → running_job w.server.server ≡ None
    → working (ending answer w) w ≡ None
next_none answer w idle none =
    ap (λ (o : Option Job). working (ended answer (contact_count w.server.server.ledger) o) w) none
    ∙ ap (λ (b : Bool). cond {A = Option Event} b (Some Event.ServerTurn) None) idle

-- ---- the turn

-- in addition: the server stays on its connection and meets no fault
record Hears (w : World) (read written : List ℕ) (e : ServerEnd) : Type 0 where
  pub fed : World
  pub came : after (Event.Up (length read)) w ≡ fed
  pub so_far : SoFar Event.ServerReads fed (server_joined w e e.out (length read))
  pub none : written ≡ []
  pub last : e.server.last ≡ w.server.server.last
  pub fine : e.input.fault ≡ None

-- and it has read all
record Works (answer : Job → ℕ → Outcome) (w : World) (read written : List ℕ) (e : ServerEnd) : Type 0 where
  pub fed : World
  pub came : after (Event.Up (length read)) w ≡ fed
  pub first : ServerEnd
  pub heard : SoFar Event.ServerReads fed (server_joined w first first.out (length read))
  pub all : can Event.ServerReads (server_joined w first first.out (length read)) ≡ false
  pub so_far : Worked answer (server_joined w first first.out (length read)) (server_joined w e (written ++ e.out) (length read))
  pub last : e.server.last ≡ w.server.server.last

-- and if it writes it has done all
record Whole (answer : Job → ℕ → Outcome) (w : World) (read written : List ℕ) (e : ServerEnd) : Type 0 where
  pub works : Works answer w read written e
  pub done : working (ending answer (server_joined w e (written ++ e.out) (length read)))
      (server_joined w e (written ++ e.out) (length read))
      ≡ None

abbrev Goes : (Job → ℕ → Outcome) → World → Stage → List ℕ → List ℕ → ServerEnd → Type 0
Goes answer w Taking read written e = Hears w read written e
Goes answer w Reading read written e = Hears w read written e
Goes answer w Writing read written e = Whole answer w read written e
Goes answer w _ read written e = Works answer w read written e

plays : (answer : Job → ℕ → Outcome) (least : ℕ) (w : World) (stage : Stage) (read written : List ℕ) (e : ServerEnd)
    → IsServing w → AreFit answer → take (length read) (server_link w).up ≡ read
    → ServerTurn answer least w.server stage read written e → Goes answer w stage read written e
plays answer least w _ _ _ _ h fit front begins = record {
  fed = server_joined w w.server w.server.out 0;
  came = begun_on w h;
  so_far = not_yet Event.ServerReads (server_joined w w.server w.server.out 0) (server_joined w w.server w.server.out 0) refl;
  none = refl;
  last = refl;
  fine = h.fine;
}
plays answer least w _ _ _ _ h fit front (takes read may) =
    let v : World = server_joined w (serving_fed read w.server) w.server.out (length read) in record {
      fed = v;
      came = takes_on w read h may front;
      so_far = not_yet Event.ServerReads v v refl;
      none = refl;
      last = refl;
      fine = fed_fine w.server.input.fault w.server.input.rest read ∙ h.fine;
    }
plays answer least w _ _ _ _ h fit front (has e read t enough) = plays answer least w Taking read [] e h fit front t
plays answer least w _ _ _ _ h fit front (reads e read t on is) =
    let p : Hears w read [] e = plays answer least w Reading read [] e h fit front t in record {
      fed = p.fed;
      came = p.came;
      so_far = once_more Event.ServerReads p.fed (server_joined w e e.out (length read))
          (server_joined w (serving_read e) (serving_read e).out (length read)) p.so_far
          (and_from _ _ on (and_from _ _ (ap is_none p.fine) is)) (reads_on w e (length read) h p.last p.fine on is);
      none = refl;
      last = served_last e (next_of e.input.rest) ∙ p.last;
      fine = served_fine e (next_of e.input.rest) is ∙ p.fine;
    }
plays answer least w _ _ _ _ h fit front (knows e read t none) =
    let p : Hears w read [] e = plays answer least w Reading read [] e h fit front t in
    let v : World = server_joined w e e.out (length read) in record {
      fed = p.fed;
      came = p.came;
      first = e;
      heard = p.so_far;
      all = ap (λ (f : Front). e.server.on && (is_none e.input.fault && is_line f)) none
          ∙ never_none e.server.on (is_none e.input.fault);
      so_far = no_work answer v v refl;
      last = p.last;
    }
plays answer least w _ _ _ _ h fit front (turns e read t may) =
    let p : Works answer w read [] e = plays answer least w Working read [] e h fit front t in record {
      fed = p.fed;
      came = p.came;
      first = p.first;
      heard = p.heard;
      all = p.all;
      so_far = more_work answer Event.ServerTurn (server_joined w p.first p.first.out (length read))
          (server_joined w e e.out (length read)) (server_joined w (serving_turned e) (serving_turned e).out (length read)) p.so_far
          (next_turn answer (server_joined w e e.out (length read)) may) (turns_on w e (length read) h p.last may);
      last = (turned_moves e.server).1.last ∙ p.last;
    }
plays answer least w _ _ _ _ h fit front (ends e read j t is) =
    let p : Works answer w read [] e = plays answer least w Working read [] e h fit front t in
    let o : Outcome = answer j (contact_count e.server.ledger) in record {
      fed = p.fed;
      came = p.came;
      first = p.first;
      heard = p.heard;
      all = p.all;
      so_far = more_work answer (Event.Machine o) (server_joined w p.first p.first.out (length read))
          (server_joined w e e.out (length read)) (server_joined w (serving_machined o e) (serving_machined o e).out (length read)) p.so_far
          (next_end answer (server_joined w e e.out (length read)) j is)
          (ends_on w e (length read) o h p.last
          (may_end_by e.server.frame e.server.running j o is (fit j (contact_count e.server.ledger))));
      last = (machined_moves e.server o).1.last ∙ p.last;
    }
plays answer least w _ _ _ _ h fit front (writes e read count t idle none within) =
    let p : Works answer w read [] e = plays answer least w Working read [] e h fit front t in record {
      works = record {
        fed = p.fed;
        came = p.came;
        first = p.first;
        heard = p.heard;
        all = p.all;
        so_far = subst (λ (x : List ℕ). Worked answer (server_joined w p.first p.first.out (length read))
            (server_joined w e x (length read))) (sym (take-append-drop count e.out)) p.so_far;
        last = p.last;
      };
      done = next_none answer (server_joined w e (take count e.out ++ drop count e.out) (length read)) idle none;
    }

abbrev Turns : (Job → ℕ → Outcome) → World → (cut : Bool) → ℕ → World → Type 0
Turns answer w cut count v = TurnLeads (IsServerTurn answer count) cut w v

heard_leads : (answer : Job → ℕ → Outcome) (w : World) (read written : List ℕ) (e : ServerEnd)
    → Hears w read written e → Turns answer w true (length read) (server_joined w e (written ++ e.out) (length read))
heard_leads answer w read written e p =
    subst (λ (x : List ℕ). Turns answer w true (length read) (server_joined w e (x ++ e.out) (length read))) (sym p.none)
    (heard_only answer (length read) w p.fed (server_joined w e e.out (length read)) p.came p.so_far)

worked_leads : (answer : Job → ℕ → Outcome) (w : World) (read written : List ℕ) (e : ServerEnd) (cut : Bool)
    → (p : Works answer w read written e)
    → AreWork answer cut (server_joined w p.first p.first.out (length read)) p.so_far.events
    → Turns answer w cut (length read) (server_joined w e (written ++ e.out) (length read))
worked_leads answer w read written e cut p work =
    served_whole answer (length read) cut w p.fed (server_joined w p.first p.first.out (length read))
    (server_joined w e (written ++ e.out) (length read)) p.came p.heard p.all p.so_far work

goes_leads : (answer : Job → ℕ → Outcome) (w : World) (stage : Stage) (read written : List ℕ) (e : ServerEnd)
    → Goes answer w stage read written e
    → Turns answer w true (length read) (server_joined w e (written ++ e.out) (length read))
goes_leads answer w Taking read written e g = heard_leads answer w read written e g
goes_leads answer w Reading read written e g = heard_leads answer w read written e g
goes_leads answer w Stage.Sending read written e g = worked_leads answer w read written e true g g.so_far.are
goes_leads answer w Working read written e g = worked_leads answer w read written e true g g.so_far.are
goes_leads answer w Writing read written e g = worked_leads answer w read written e true g.works g.works.so_far.are

-- how far a server's turn has come, in events
pub serving_joins : (answer : Job → ℕ → Outcome) → AreFit answer → (least : ℕ) (w : World) (stage : Stage)
    (read written : List ℕ) (e : ServerEnd) → w.server.out ≡ [] → w.server.input.fault ≡ None
    → 1 ≤ w.server.server.last → w.server.server.last ≤ length w.links
    → take (length read) (server_link w).up ≡ read → ServerTurn answer least w.server stage read written e
    → TurnLeads (IsServerTurn answer (length read)) true w (server_joined w e (written ++ e.out) (length read))
serving_joins answer fit least w stage read written e out fine from to front t =
    goes_leads answer w stage read written e
    (plays answer least w stage read written e (record { out = out; fine = fine; from = from; to = to }) fit front t)

-- a turn in which the server writes is whole
pub serving_whole : (answer : Job → ℕ → Outcome) → AreFit answer → (least : ℕ) (w : World)
    (read written : List ℕ) (e : ServerEnd) → w.server.out ≡ [] → w.server.input.fault ≡ None
    → 1 ≤ w.server.server.last → w.server.server.last ≤ length w.links
    → take (length read) (server_link w).up ≡ read → ServerTurn answer least w.server Writing read written e
    → TurnLeads (IsServerTurn answer (length read)) false w (server_joined w e (written ++ e.out) (length read))
serving_whole answer fit least w read written e out fine from to front t =
    let p : Whole answer w read written e =
    plays answer least w Writing read written e (record { out = out; fine = fine; from = from; to = to }) fit front t in
    worked_leads answer w read written e false p.works
    (all_worked answer (server_joined w p.works.first p.works.first.out (length read))
    (server_joined w e (written ++ e.out) (length read)) p.works.so_far p.done)

-- the server leaves its connection after events that have led so far
pub serving_leaves : (w : World) (events : List Event) (e : ServerEnd) (text : List ℕ) (count : ℕ)
    → run_of events w ≡ server_joined w e text count → e.server.on ≡ true
    → run_of (events ++ Event.ServerLeaves ∷ []) w ≡ record (server_joined w e text count) { server = serving_left e }
serving_leaves w events e text count leads on =
    run_append events (Event.ServerLeaves ∷ []) w
    ∙ (ap (after Event.ServerLeaves) leads ∙ done_now Event.ServerLeaves (server_joined w e text count) on)

-- if a server reads, and from then on, as many bytes have come in as were asked for
abbrev Enough : Stage → ℕ → List ℕ → Type 0
Enough Taking least read = Unit {0}
Enough _ least read = least ≤ length read

enough_came : (answer : Job → ℕ → Outcome) (least : ℕ) (s : ServerEnd) (stage : Stage) (read written : List ℕ)
    (e : ServerEnd) → ServerTurn answer least s stage read written e → Enough stage least read
enough_came answer least s _ _ _ _ begins = tt
enough_came answer least s _ _ _ _ (takes read may) = tt
enough_came answer least s _ _ _ _ (has e read t enough) = enough
enough_came answer least s _ _ _ _ (reads e read t on is) = enough_came answer least s Reading read [] e t
enough_came answer least s _ _ _ _ (knows e read t none) = enough_came answer least s Reading read [] e t
enough_came answer least s _ _ _ _ (turns e read t may) = enough_came answer least s Working read [] e t
enough_came answer least s _ _ _ _ (ends e read j t is) = enough_came answer least s Working read [] e t
enough_came answer least s _ _ _ _ (writes e read count t idle none within) =
    enough_came answer least s Working read [] e t

pub serving_enough : (answer : Job → ℕ → Outcome) (least : ℕ) (s : ServerEnd) (read written : List ℕ) (e : ServerEnd)
    → ServerTurn answer least s Writing read written e → least ≤ length read
serving_enough answer least s read written e t = enough_came answer least s Writing read written e t

-- ---- after a turn from a world to which events have led

pub reached_serving : (w : World) → IsCarried w → w.server.server.on ≡ true → IsServing w
reached_serving w c on =
    let made = c.wired.made in
    let numbers = c.wired.numbers in record {
      out = c.server_out;
      fine = c.server_fault;
      from = c.wired.taken on;
      to = omega (arith, made, numbers);
    }

-- the events of the whole, and the world after them
record Reaches (v w : World) : Type 0 where
  pub events : List Event
  pub leads : run_of events v ≡ w

serving_reaches : (answer : Job → ℕ → Outcome) → AreFit answer → (least : ℕ) (w : World)
    (stage : Stage) (read written : List ℕ) (e : ServerEnd) (program : Meaning) (rack : List (List ℕ)) (window : ℕ) (events : List Event)
    → IsProgram program → window ≤ 16 → w ≡ run_of events (start program rack window) → w.server.server.on ≡ true
    → take (length read) (server_link w).up ≡ read → ServerTurn answer least w.server stage read written e
    → Reaches (start program rack window) (server_joined w e (written ++ e.out) (length read))
serving_reaches answer fit least w stage read written e program rack window events is few reached on front t =
    let c : IsCarried w =
    subst IsCarried (sym reached) (run_carried events (start program rack window) (start_carried program rack window is few)) in
    let s : Turns answer w true (length read) (server_joined w e (written ++ e.out) (length read)) =
    goes_leads answer w stage read written e
    (plays answer least w stage read written e (reached_serving w c on) fit front t) in record {
      events = events ++ s.events;
      leads = run_append events s.events (start program rack window) ∙ (ap (run_of s.events) (sym reached) ∙ s.leads);
    }

pub serving_sound : (answer : Job → ℕ → Outcome) → AreFit answer → (least : ℕ) (w : World)
    (stage : Stage) (read written : List ℕ) (e : ServerEnd) (program : Meaning) (rack : List (List ℕ)) (window : ℕ) (events : List Event)
    → IsProgram program → window ≤ 16 → w ≡ run_of events (start program rack window) → w.server.server.on ≡ true
    → take (length read) (server_link w).up ≡ read → ServerTurn answer least w.server stage read written e
    → Sound program.features w.client.client.table.tally.features e.server.ledger
serving_sound answer fit least w stage read written e program rack window events is few reached on front t =
    let r = serving_reaches answer fit least w stage read written e program rack window events is few reached on front t in
    subst (λ (v : World). Sound program.features v.client.client.table.tally.features v.server.server.ledger) r.leads
    (always_sound program rack window r.events is few)

pub serving_told : (answer : Job → ℕ → Outcome) → AreFit answer → (least : ℕ) (w : World)
    (stage : Stage) (read written : List ℕ) (e : ServerEnd) (program : Meaning) (rack : List (List ℕ)) (window : ℕ) (events : List Event)
    → IsProgram program → window ≤ 16 → w ≡ run_of events (start program rack window) → w.server.server.on ≡ true
    → take (length read) (server_link w).up ≡ read → ServerTurn answer least w.server stage read written e
    → Told w.client.client.table.tally.counted e.server.ledger w.client.client.last
serving_told answer fit least w stage read written e program rack window events is few reached on front t =
    let r = serving_reaches answer fit least w stage read written e program rack window events is few reached on front t in
    subst (λ (v : World). Told v.client.client.table.tally.counted v.server.server.ledger v.client.client.last) r.leads
    (always_told program rack window r.events is few)
