-- The server reads a line of its client.
use Rattle.protocol_model.proofs.Names.{[], ◌&&◌, ◌++◌, ◌||◌, ◌∙◌, ◌∷◌, ◌≡◌, ◌≤◌, aborted, all_fail, Answer, answers, ap, append-nil, append_assoc}
use Rattle.protocol_model.proofs.Names.{arith, Bool, contacts, count_open, fails, false, false≢true, Feature, is_abort, is_clear, is_clearing}
use Rattle.protocol_model.proofs.Names.{is_event_tag, is_held, Kind, kind_of, length, Line, List, lt-leb, MadeContact, nat_le, None, not, Ok}
use Rattle.protocol_model.proofs.Names.{OpenCommand, Option, Planned, Point, queued, refl, Reply, running_fails, runs_under, Server, server_read}
use Rattle.protocol_model.proofs.Names.{Some, stands, subst, sym, Table, Tag, Tally, true, Waiting, waits_under, Wanted, ℕ}
use Rattle.protocol_model.specs.Typed.{World}
use Rattle.protocol_model.proofs.table.Basics.{if_true, if_false}
use Rattle.protocol_model.proofs.table.Walks.{AreDistinct}
use Rattle.protocol_model.proofs.table.Replying.{tabled, Reads}
use Rattle.protocol_model.proofs.plan.Fitting.{Know, Fits, IsSane}
use Rattle.protocol_model.proofs.invariant.Served.{IsProgress}
use Rattle.protocol_model.proofs.invariant.Moves.{done_on, Moves}
use Rattle.protocol_model.proofs.invariant.Pairs.{broken, breaks, pair, ack, abort_reads}
use Rattle.protocol_model.proofs.each_event.Answers.{IsAnswered, tidy_more}
use Rattle.protocol_model.proofs.invariant.Holding.{listed, received, sent_now, all_received, all_sent, waits, all_wait, abort_tag}
use Rattle.protocol_model.proofs.invariant.Holding.{abort_line, abort_lines, abort_held, abort_helds, commands_in, AreStandard}
use Rattle.protocol_model.proofs.invariant.Holding.{IsClearFirst, IsAskedLast, IsClean, IsNearBy, IsNear, IsTidy, know_of}
use Rattle.protocol_model.proofs.invariant.LineFacts.{apart_from, not_in_use, event_not_in_use, standard_behind, clear_first_none}
use Rattle.protocol_model.proofs.invariant.LineFacts.{wait_more, one_behind, received_behind, few_wait, wait_long, clear_same, no_steps}
use Rattle.protocol_model.proofs.invariant.LineFacts.{IsFirstStep, first_step}

-- ---- an answer that says no act

quiet_progress : (ws : List Wanted) (n m : ℕ) (fs : List Feature) (points : List Point) (ms : List MadeContact) (left : List Wanted)
    → IsProgress ws n fs points ms left → IsProgress ws n fs points (ms ++ contacts (done_on m [])) left
quiet_progress ws n m fs points ms left h = subst (λ (l : List MadeContact). IsProgress ws n fs points l left) (sym (append-nil ms)) h

-- the facts of an event in which nothing is counted; the tally is as before but for its flag
pub quiet_answer : (w : World) (table : Table) (left : List Wanted) (up : List Line) (a : Answer) (standard event : List OpenCommand)
    (flag : Bool)
    → Moves w.server a.server []
    → IsProgress w.client.program.features w.client.last table.tally.features table.tally.points (contacts w.server.ledger) left
    → Reads w.client.program.features table a.said (tabled standard event (record (table.tally) { failed = flag }))
    → IsTidy None a.said
    → IsNear (tabled standard event (record (table.tally) { failed = flag })) left up a.server.running a.server.waiting
    a.server.error (know_of a.server)
    → IsAnswered w table up a
quiet_answer w table left up a standard event flag moves progress reads tidy near = record {
  acts = [];
  moves = moves;
  next = tabled standard event (record (table.tally) { failed = flag });
  left = left;
  reads = reads;
  tidy = tidy;
  counted = sym (append-nil table.tally.counted);
  progress = quiet_progress w.client.program.features w.client.last w.server.last table.tally.features table.tally.points
      (contacts w.server.ledger) left progress;
  near = near;
}

-- ---- a standard command

-- a command that is not in use and is not an abort is treated like any other
stands_is : (s : Server) (x : Line) (waiting : List Line) → s.waiting ≡ all_wait waiting
    → is_held x.tag (all_received (listed s.running ++ waiting)) ≡ false → is_abort (Ok x.command) ≡ false
    → server_read s (Ok x) ≡ stands s x.tag (Ok x.command)
stands_is s x waiting e free plain =
    let unused : (runs_under x.tag s.running || waits_under x.tag s.waiting) ≡ false =
    ap (λ (l : List Waiting). runs_under x.tag s.running || waits_under x.tag l) e ∙ not_in_use x.tag s.running waiting free in
    if_false {A = Answer} _ _ _ unused ∙ if_false {A = Answer} _ _ _ plain

-- what the facts give for a line that is the next to be read
pub record IsReading (w : World) (table : Table) (left : List Wanted) (x : Line) (queued coming : List Line) (aborts : List ℕ) : Type 0
  where
    pub near : IsNearBy table left w.up w.server.running w.server.waiting w.server.error (know_of w.server) queued
        (x ∷ coming) aborts
    pub progress : IsProgress w.client.program.features w.client.last table.tally.features table.tally.points
        (contacts w.server.ledger) left
    pub distinct : AreDistinct table.standard
    pub few : count_open table.standard ≤ 16

-- received, and refused in the error state
refused : (w : World) (table : Table) (left : List Wanted) (x : Line) (queued coming : List Line) (aborts : List ℕ)
    → IsReading w table left x queued coming aborts → w.server.error ≡ true → is_clear (Ok x.command) ≡ false
    → IsAnswered w table (coming ++ abort_lines aborts) (answers w.server (Reply.Ack x.tag ∷ fails x.tag 9008 (Some (kind_of x.command))))
refused w table left x queued coming aborts r error other =
    let n = r.near in
    let idle = n.idle error in
    let no_run : w.server.running ≡ None = idle.0 in
    let no_wait : queued ≡ [] = idle.1 in
    let alone : listed w.server.running ++ queued ≡ [] = ap (λ (o : Option Line). listed o ++ queued) no_run ∙ no_wait in
    let lines : listed w.server.running ++ (queued ++ x ∷ coming) ≡ x ∷ coming =
    ap (λ (o : Option Line). listed o ++ (queued ++ x ∷ coming)) no_run ∙ ap (λ (l : List Line). l ++ x ∷ coming) no_wait in
    let standard : AreStandard (x ∷ coming) = subst AreStandard lines n.standard in
    let clear_first : IsClearFirst table.tally.failed (x ∷ coming) = subst (IsClearFirst table.tally.failed) lines n.clear_first in
    let last : IsAskedLast (x ∷ coming) = subst IsAskedLast lines n.asked_last in
    let same : table.standard ≡ sent_now x ∷ all_sent coming = n.standard_is
    ∙ ap (λ (l : List Line). all_received l ++ sent_now x ∷ all_sent coming) alone in
    let ws : List Wanted = w.client.program.features in
    quiet_answer w table left (coming ++ abort_lines aborts) (answers w.server
    (Reply.Ack x.tag ∷ fails x.tag 9008 (Some (kind_of x.command)))) (all_sent coming) table.event true
    (record { on = refl; last = refl; ledger = sym (append-nil w.server.ledger) })
    r.progress
    (subst (λ (st : List OpenCommand). Reads ws (tabled st table.event table.tally)
    (Reply.Ack x.tag ∷ fails x.tag 9008 (Some (kind_of x.command)))
    (tabled (all_sent coming) table.event (broken table.tally))) (sym same) (
      tabled (received x ∷ all_sent coming) table.event table.tally,
      ack ws [] x (all_sent coming) table.event table.tally standard.0 refl,
      pair ws x (all_sent coming) table.event table.tally 9008 (Some (kind_of x.command)) standard.0,
    ))
    (standard.0, (refl, standard.0, tt))
    (record {
      queued = [];
      coming = coming;
      aborts = aborts;
      by = record {
        waiting_is = n.waiting_is ∙ ap all_wait no_wait;
        up_is = refl;
        standard_is = ap (λ (o : Option Line). all_received (listed o ++ []) ++ all_sent coming) (sym no_run);
        event_is = n.event_is;
        standard = subst (λ (o : Option Line). AreStandard (listed o ++ coming)) (sym no_run) standard.2;
        idle = λ e. (no_run, refl);
        stopped = λ e. error;
        clear_first = subst (λ (o : Option Line). IsClearFirst true (listed o ++ coming)) (sym no_run)
            (clear_first_none true coming clear_first.1);
        asked_last = subst (λ (o : Option Line). IsAskedLast (listed o ++ coming)) (sym no_run) last.1;
        clean = λ e. absurd (false≢true (sym e));
      };
    })

-- received, and queued
joins : (w : World) (table : Table) (left : List Wanted) (x : Line) (waiting coming : List Line) (aborts : List ℕ) (s : Server)
    → IsReading w table left x waiting coming aborts
    → s.on ≡ w.server.on → s.last ≡ w.server.last → s.ledger ≡ w.server.ledger → s.running ≡ w.server.running → s.waiting ≡ w.server.waiting
    → know_of s ≡ know_of w.server → s.error ≡ false
    → (table.tally.failed ≡ true → ⊥)
    → (table.tally.failed ≡ false → Fits (know_of w.server) table.tally.todo)
    → is_held x.tag (all_received (listed w.server.running ++ waiting)) ≡ false
    → IsAnswered w table (coming ++ abort_lines aborts) (answers (queued x.tag (Ok x.command) s) (Reply.Ack x.tag ∷ []))
joins w table left x waiting coming aborts s r on last ledger running waits_same know error calm fits free =
    let n = r.near in
    let busy : List Line = listed w.server.running in
    let now : List Line = waiting ++ x ∷ [] in
    let standard : AreStandard (x ∷ coming) = standard_behind waiting (x ∷ coming) (standard_behind busy (waiting ++ x ∷ coming) n.standard)
    in
    let ws : List Wanted = w.client.program.features in
    let lines : busy ++ (waiting ++ x ∷ coming) ≡ listed s.running ++ (now ++ coming) = one_behind busy waiting x coming
    ∙ ap (λ (o : Option Line). listed o ++ (now ++ coming)) (sym running) in
    quiet_answer w table left (coming ++ abort_lines aborts) (answers (queued x.tag (Ok x.command) s) (Reply.Ack x.tag ∷ []))
    (all_received (busy ++ now) ++ all_sent coming) table.event table.tally.failed
    (record { on = on; last = last; ledger = ledger ∙ sym (append-nil w.server.ledger) })
    r.progress
    (subst (λ (st : List OpenCommand). Reads ws (tabled st table.event table.tally) (Reply.Ack x.tag ∷ [])
    (tabled (all_received (busy ++ now) ++ all_sent coming) table.event table.tally)) (sym n.standard_is) (
      tabled (all_received (busy ++ waiting) ++ received x ∷ all_sent coming) table.event table.tally,
      ack ws (busy ++ waiting) x (all_sent coming) table.event table.tally standard.0 free,
      ap (λ (st : List OpenCommand). tabled st table.event table.tally) (received_behind busy waiting x coming),
    ))
    tt
    (record {
      queued = now;
      coming = coming;
      aborts = aborts;
      by = record {
        waiting_is = ap (λ (l : List Waiting). l ++ waits x ∷ []) (waits_same ∙ n.waiting_is) ∙ sym (wait_more waiting (x ∷ []));
        up_is = refl;
        standard_is = ap (λ (o : Option Line). all_received (listed o ++ now) ++ all_sent coming) (sym running);
        event_is = n.event_is;
        standard = subst AreStandard lines n.standard;
        idle = λ e. absurd (false≢true (sym error ∙ e));
        stopped = λ e. absurd (calm e);
        clear_first = subst (IsClearFirst table.tally.failed) lines n.clear_first;
        asked_last = subst IsAskedLast lines n.asked_last;
        clean = λ e.
            let c = n.clean e in
            record {
              steps = c.steps;
              todo = c.todo;
              commands = c.commands ∙ ap commands_in lines;
              sane = c.sane;
              touches = c.touches;
              fits = λ f. subst (λ (k : Know). Fits k table.tally.todo) (sym know) (fits e);
            };
      };
    })

-- a standard line is read
pub reads_standard : (w : World) (table : Table) (left : List Wanted) (x : Line) (waiting coming : List Line) (aborts : List ℕ)
    → IsReading w table left x waiting coming aborts → IsAnswered w table (coming ++ abort_lines aborts) (server_read w.server (Ok x))
reads_standard w table left x waiting coming aborts r =
    subst (λ (a : Answer). IsAnswered w table (coming ++ abort_lines aborts) a) (sym (stands_is s x waiting n.waiting_is free plain))
    (go s.error refl (is_clear (Ok x.command)) refl)
  where
    s : Server
    s = w.server

    n : IsNearBy table left w.up w.server.running w.server.waiting w.server.error (know_of w.server) waiting (x ∷ coming)
        aborts
    n = r.near

    free : is_held x.tag (all_received (listed w.server.running ++ waiting)) ≡ false
    free = apart_from (all_received (listed w.server.running ++ waiting)) (sent_now x) (all_sent coming)
        (subst AreDistinct n.standard_is r.distinct)

    standard : AreStandard (x ∷ coming)
    standard = standard_behind waiting (x ∷ coming) (standard_behind (listed w.server.running) (waiting ++ x ∷ coming) n.standard)

    plain : is_abort (Ok x.command) ≡ false
    plain = standard.1

    out : List Line
    out = coming ++ abort_lines aborts

    t : Tag
    t = x.tag

    room : nat_le 64 (length w.server.waiting) ≡ false
    room = ap (λ (l : List Waiting). nat_le 64 (length l)) n.waiting_is
        ∙ lt-leb 64 (length (all_wait waiting)) (omega (
          arith,
          wait_long waiting,
          few_wait (listed w.server.running) waiting (sent_now x ∷ all_sent coming),
          subst (λ (hs : List OpenCommand). count_open hs ≤ 16) n.standard_is r.few,
        ))

    test : (e b : Bool) → w.server.error ≡ e → is_clear (Ok x.command) ≡ b
        → (w.server.error && not (is_clear (Ok x.command))) ≡ (e && not b)
    test e b f g = ap (λ (z : Bool). z && not (is_clear (Ok x.command))) f ∙ ap (λ (z : Bool). e && not z) g

    no_wait : w.server.error ≡ true → listed w.server.running ++ (waiting ++ x ∷ coming) ≡ x ∷ coming
    no_wait e = let idle = n.idle e in ap (λ (o : Option Line). listed o ++ (waiting ++ x ∷ coming)) idle.0
        ∙ ap (λ (l : List Line). l ++ x ∷ coming) idle.1

    clearing : is_clear (Ok x.command) ≡ true → is_clearing x.command ≡ true
    clearing e = sym (clear_same x.command) ∙ e

    calm : w.server.error ≡ true → is_clear (Ok x.command) ≡ true → table.tally.failed ≡ false
    calm e b = let first : IsClearFirst table.tally.failed (x ∷ coming) = subst (IsClearFirst table.tally.failed) (no_wait e) n.clear_first
        in first.0 (clearing b)

    fits : w.server.error ≡ true → is_clear (Ok x.command) ≡ true → table.tally.failed ≡ false → Fits (know_of w.server) table.tally.todo
    fits e b f =
        let c : IsClean table.tally left (listed w.server.running ++ (waiting ++ x ∷ coming)) w.server.error
        (know_of w.server) = n.clean f in
        let first : IsFirstStep c.steps x.command (commands_in coming) =
        first_step c.steps x.command (commands_in coming) (c.commands ∙ ap commands_in (no_wait e)) in
        let todo : table.tally.todo ≡ record { command = x.command; does = first.does } ∷ (first.rest ++ table.tally.unsent) = c.todo
        ∙ ap (λ (l : List Planned). l ++ table.tally.unsent) first.is in
        let sane : IsSane (record { command = x.command; does = first.does } ∷ (first.rest ++ table.tally.unsent)) =
        subst IsSane todo c.sane
        in
        subst (Fits (know_of w.server)) (sym todo) (sane.0 (clearing b) (know_of w.server))

    go : (e : Bool) → w.server.error ≡ e → (b : Bool) → is_clear (Ok x.command) ≡ b
        → IsAnswered w table out (stands w.server t (Ok x.command))
    go true e false b =
        subst (λ (a : Answer). IsAnswered w table out a) (sym (if_true {A = Answer} _ _ _ (test true false e b)))
        (refused w table left x waiting coming aborts r e b)
    go true e true b =
        subst (λ (a : Answer). IsAnswered w table out a) (sym (if_false {A = Answer} _ _ _ (test true true e b)
        ∙ if_true {A = Answer} _ _ _ e))
        (joins w table left x waiting coming aborts (record (w.server) { error = false }) r refl refl refl refl refl refl refl
        (λ f. absurd (false≢true (sym (calm e b) ∙ f))) (fits e b) free)
    go false e b g =
        subst (λ (a : Answer). IsAnswered w table out a) (sym (if_false {A = Answer} _ _ _ (test false b e g)
        ∙ (if_false {A = Answer} _ _ _ e ∙ if_false {A = Answer} _ _ _ room)))
        (joins w table left x waiting coming aborts w.server r refl refl refl refl refl refl e
        (λ f. absurd (false≢true (sym e ∙ n.stopped f))) (λ f. (n.clean f).fits e) free)

-- if there is no error, a standard line joins what waits
pub reads_queued : (w : World) (table : Table) (left : List Wanted) (x : Line) (waiting coming : List Line) (aborts : List ℕ)
    → IsReading w table left x waiting coming aborts → w.server.error ≡ false
    → server_read w.server (Ok x) ≡ answers (queued x.tag (Ok x.command) w.server) (Reply.Ack x.tag ∷ [])
reads_queued w table left x waiting coming aborts r error =
    let n = r.near in
    let free : is_held x.tag (all_received (listed w.server.running ++ waiting)) ≡ false =
    apart_from (all_received (listed w.server.running ++ waiting)) (sent_now x) (all_sent coming)
    (subst AreDistinct n.standard_is r.distinct) in
    let standard : AreStandard (x ∷ coming) =
    standard_behind waiting (x ∷ coming) (standard_behind (listed w.server.running) (waiting ++ x ∷ coming) n.standard) in
    let room : nat_le 64 (length w.server.waiting) ≡ false =
    ap (λ (l : List Waiting). nat_le 64 (length l)) n.waiting_is
    ∙ lt-leb 64 (length (all_wait waiting)) (omega (
      arith,
      wait_long waiting,
      few_wait (listed w.server.running) waiting (sent_now x ∷ all_sent coming),
      subst (λ (hs : List OpenCommand). count_open hs ≤ 16) n.standard_is r.few,
    )) in
    let clear : Bool = not (is_clear (Ok x.command)) in
    stands_is w.server x waiting n.waiting_is free standard.1
    ∙ (if_false {A = Answer} _ _ _ (ap (λ (b : Bool). b && clear) error) ∙ (if_false {A = Answer} _ _ _ error
    ∙ if_false {A = Answer} _ _ _ room))

-- ---- an abort

tidy_pairs : (ls : List Line) → AreStandard ls → IsTidy None (all_fail 9007 (all_wait ls))
tidy_pairs [] h = tt
tidy_pairs (l ∷ ls) h = (h.0, (refl, h.0, tidy_pairs ls h.2))

-- if a standard command fails, and those that wait fail after it, each error is followed at once by its end
pub tidy_pair_and_pairs : (x : Line) (ls : List Line) (code : ℕ) (name : Option Kind) → is_event_tag x.tag ≡ false → AreStandard ls
    → IsTidy None (fails x.tag code name ++ all_fail 9007 (all_wait ls))
tidy_pair_and_pairs x ls code name sort sorts = (sort, (refl, sort, tidy_pairs ls sorts))

tidy_running : (running : Option Line) (ls : List Line) (t : Tag) → AreStandard (listed running ++ ls)
    → IsTidy None (running_fails running ++ (all_fail 9007 (all_wait ls) ++ Reply.Done t ∷ []))
tidy_running None ls t h = tidy_more None (all_fail 9007 (all_wait ls)) (Reply.Done t ∷ []) (tidy_pairs ls h) tt
tidy_running (Some x) ls t h = (h.0, (refl, h.0, tidy_more None (all_fail 9007 (all_wait ls)) (Reply.Done t ∷ []) (tidy_pairs ls h.2) tt))

-- whether these failures make something fail
abbrev flag_of : List Line → Bool → Bool
flag_of [] f = f
flag_of (l ∷ ls) f = true

breaks_flag : (ls : List Line) (y : Tally) → breaks ls y ≡ record y { failed = flag_of ls y.failed }
breaks_flag [] y = refl
breaks_flag (l ∷ ls) y = refl

no_flag : (ls : List Line) (f : Bool) → flag_of ls f ≡ false → (ls ≡ []) × (f ≡ false)
no_flag [] f e = (refl, e)
no_flag (l ∷ ls) f e = absurd (false≢true (sym e))

-- the tally after an abort keeps what is planned if nothing ran or waited
still_clean : (w : World) (table : Table) (left : List Wanted) (queued : List Line) (know : Know)
    → IsClean table.tally left (listed w.server.running ++ (queued ++ [])) w.server.error know
    → listed w.server.running ++ queued ≡ []
    → IsClean (record (table.tally) { failed = flag_of (listed w.server.running ++ queued) table.tally.failed }) left []
    true know
still_clean w table left queued know c none =
    let lines : listed w.server.running ++ (queued ++ []) ≡ [] = sym (append_assoc (listed w.server.running) queued [])
    ∙ (append-nil (listed w.server.running ++ queued) ∙ none) in
    let steps : c.steps ≡ [] = no_steps c.steps (c.commands ∙ ap commands_in lines) in
    record {
      steps = [];
      todo = c.todo ∙ ap (λ (l : List Planned). l ++ table.tally.unsent) steps;
      commands = refl;
      sane = c.sane;
      touches = c.touches;
      fits = λ e. absurd (false≢true (sym e));
    }

-- an abort is read, with no standard line before it: the answer shows what an event of the server has to show
pub reads_abort : (w : World) (table : Table) (left : List Wanted) (k : ℕ) (queued : List Line) (aborts : List ℕ)
    → IsNearBy table left w.up w.server.running w.server.waiting w.server.error (know_of w.server) queued [] (k ∷ aborts)
    → IsProgress w.client.program.features w.client.last table.tally.features table.tally.points (contacts w.server.ledger) left
    → IsAnswered w table (abort_lines aborts) (server_read w.server (Ok (abort_line k)))
reads_abort w table left k queued aborts n progress =
    let s : Server = w.server in
    let busy : List Line = listed s.running ++ queued in
    let standard : AreStandard busy = subst AreStandard (sym (append_assoc (listed s.running) queued []) ∙ append-nil busy) n.standard in
    let unused : (runs_under (abort_tag k) s.running || waits_under (abort_tag k) s.waiting) ≡ false =
    ap (λ (l : List Waiting). runs_under (abort_tag k) s.running || waits_under (abort_tag k) l) n.waiting_is
    ∙ event_not_in_use (abort_tag k) s.running queued standard refl in
    let is : server_read s (Ok (abort_line k)) ≡ aborted s (abort_tag k) = if_false {A = Answer} _ _ _ unused in
    let flag : Bool = flag_of busy table.tally.failed in
    let ws : List Wanted = w.client.program.features in
    let said : List Reply = Reply.Ack (abort_tag k) ∷ (running_fails s.running
    ++ (all_fail 9007 s.waiting ++ Reply.Done (abort_tag k) ∷ [])) in
    let said_is : said ≡ Reply.Ack (abort_tag k) ∷ (running_fails s.running
    ++ (all_fail 9007 (all_wait queued) ++ Reply.Done (abort_tag k) ∷ [])) =
    ap (λ (l : List Waiting). Reply.Ack (abort_tag k) ∷ (running_fails s.running ++ (all_fail 9007 l ++ Reply.Done (abort_tag k) ∷ [])))
    n.waiting_is in
    let reads : Reads ws (tabled (all_received busy ++ []) (abort_held k ∷ abort_helds aborts) table.tally)
    (Reply.Ack (abort_tag k) ∷ (running_fails s.running ++ (all_fail 9007 (all_wait queued) ++ Reply.Done (abort_tag k) ∷ [])))
    (tabled [] (abort_helds aborts) (breaks busy table.tally)) =
    abort_reads ws k s.running queued (abort_helds aborts) table.tally standard in
    subst (λ (a : Answer). IsAnswered w table (abort_lines aborts) a) (sym is)
    (quiet_answer w table left (abort_lines aborts) (aborted s (abort_tag k)) [] (abort_helds aborts) flag
    (record { on = refl; last = refl; ledger = sym (append-nil s.ledger) })
    progress
    (subst (λ (rs : List Reply). Reads ws table rs (tabled [] (abort_helds aborts) (record (table.tally) { failed = flag }))) (sym said_is)
    (subst (λ (y : Tally). Reads ws table (Reply.Ack (abort_tag k)
    ∷ (running_fails s.running ++ (all_fail 9007 (all_wait queued) ++ Reply.Done (abort_tag k) ∷ [])))
    (tabled [] (abort_helds aborts) y)) (breaks_flag busy table.tally)
    (subst (λ (hs : List OpenCommand). Reads ws (tabled hs table.event table.tally)
    (Reply.Ack (abort_tag k) ∷ (running_fails s.running ++ (all_fail 9007 (all_wait queued) ++ Reply.Done (abort_tag k) ∷ [])))
    (tabled [] (abort_helds aborts) (breaks busy table.tally))) (sym n.standard_is)
    (subst (λ (hs : List OpenCommand). Reads ws (tabled (all_received busy ++ []) hs table.tally)
    (Reply.Ack (abort_tag k) ∷ (running_fails s.running ++ (all_fail 9007 (all_wait queued) ++ Reply.Done (abort_tag k) ∷ [])))
    (tabled [] (abort_helds aborts) (breaks busy table.tally))) (sym n.event_is) reads))))
    (subst (λ (rs : List Reply). IsTidy None rs) (sym said_is) (tidy_running s.running queued (abort_tag k) standard))
    (record {
      queued = [];
      coming = [];
      aborts = aborts;
      by = record {
        waiting_is = refl;
        up_is = refl;
        standard_is = refl;
        event_is = refl;
        standard = tt;
        idle = λ e. (refl, refl);
        stopped = λ e. refl;
        clear_first = tt;
        asked_last = tt;
        clean = λ e. let none = no_flag busy table.tally.failed e in still_clean w table left queued (know_of s) (n.clean none.1) none.0;
      };
    }))
