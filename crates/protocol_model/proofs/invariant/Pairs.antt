-- What the answers of a server do to the table of its client.
use Rattle.protocol_model.proofs.Names.{[], ◌&&◌, ◌++◌, ◌∙◌, ◌∷◌, ◌≡◌, all_fail, ap, append_assoc, asks_data, Bool, counted_next, Datum, Effect}
use Rattle.protocol_model.proofs.Names.{fails, false, false≢true, fits, heard_in, is_event_tag, is_held, judged, judged_done, judged_given, Kind}
use Rattle.protocol_model.proofs.Names.{kind_of, Line, List, ne_eqb, None, not, OpenCommand, Option, put_before, refl, Reply, running_fails, settled}
use Rattle.protocol_model.proofs.Names.{Some, Stage, Std, subst, suc, suc-ne-zero, sym, Table, Tag, tag_is, tallied, Tally, true, Wanted, ℕ}
use Rattle.dme_line.specs.declared.tags.Tag.TheVariants.{Event}
use Rattle.protocol_model.specs.Replies.{Mark}
use Rattle.protocol_model.proofs.HeardTables.{heard}
use Rattle.protocol_model.proofs.table.Basics.{if_cases, tag_is-refl}
use Rattle.protocol_model.proofs.table.Walks.{two, heard_at, heard_past}
use Rattle.protocol_model.proofs.table.Replying.{tabled, fine, standard_step, event_step, Reads, reads_more}
use Rattle.protocol_model.proofs.invariant.Holding.{listed, received, sent_now, all_received, all_wait, abort_tag, abort_held, AreStandard}

-- a reply on a standard tag
pub standard_hears : (ws : List Wanted) (b : Table) (t : Tag) (m : Mark) (hs : List OpenCommand) (e : Effect) → is_event_tag t ≡ false
    → heard_in (not b.tally.failed) b.standard t m ≡ two hs e → heard ws b t m ≡ fine (tabled hs b.event (tallied ws e b.tally))
standard_hears ws b (Std n) m hs e sort is = standard_step ws b n m hs e is
standard_hears ws b (Event n) m hs e sort is = absurd (false≢true (sym sort))

-- a line as an open command at a stage
abbrev pub staged_line : Line → Stage → OpenCommand
staged_line l s = record { tag = l.tag; kind = kind_of l.command; stage = s }

-- a tally in which a command has failed
abbrev pub broken : Tally → Tally
broken y = record y { failed = true }

-- an error and the end of the first command
pub pair : (ws : List Wanted) (x : Line) (hs ev : List OpenCommand) (y : Tally) (code : ℕ) (name : Option Kind) → is_event_tag x.tag ≡ false
    → Reads ws (tabled (received x ∷ hs) ev y) (fails x.tag code name) (tabled hs ev (broken y))
pair ws x hs ev y code name sort = (
  tabled (staged_line x Stage.Failed ∷ hs) ev (broken y),
  standard_hears ws (tabled (received x ∷ hs) ev y) x.tag Mark.Error (staged_line x Stage.Failed ∷ hs) Effect.Failure sort
      (heard_at (not y.failed) (received x) hs x.tag Mark.Error (tag_is-refl x.tag)),
  (
    tabled hs ev (broken y),
    standard_hears ws (tabled (staged_line x Stage.Failed ∷ hs) ev (broken y)) x.tag Mark.Done hs Effect.Quiet sort
        (heard_at false (staged_line x Stage.Failed) hs x.tag Mark.Done (tag_is-refl x.tag)),
    refl,
  ),
)

-- the tally after the failures of these commands
abbrev pub breaks : List Line → Tally → Tally
breaks [] y = y
breaks (x ∷ xs) y = broken y

breaks_broken : (xs : List Line) (y : Tally) → breaks xs (broken y) ≡ broken y
breaks_broken [] y = refl
breaks_broken (x ∷ xs) y = refl

-- the errors and ends of all that wait take them off the open commands, and something has failed if any did wait
pub pairs : (ws : List Wanted) (queued : List Line) (hs ev : List OpenCommand) (y : Tally) → AreStandard queued
    → Reads ws (tabled (all_received queued ++ hs) ev y) (all_fail 9007 (all_wait queued)) (tabled hs ev (breaks queued y))
pairs ws [] hs ev y sort = refl
pairs ws (x ∷ xs) hs ev y sort =
    reads_more ws (fails x.tag 9007 (Some (kind_of x.command))) (all_fail 9007 (all_wait xs)) (tabled (all_received (x ∷ xs) ++ hs) ev y)
    (tabled (all_received xs ++ hs) ev (broken y)) (tabled hs ev (broken y))
    (pair ws x (all_received xs ++ hs) ev y 9007 (Some (kind_of x.command)) sort.0)
    (subst (λ (z : Tally). Reads ws (tabled (all_received xs ++ hs) ev (broken y)) (all_fail 9007 (all_wait xs)) (tabled hs ev z))
    (breaks_broken xs y) (pairs ws xs hs ev (broken y) sort.2))

-- a refused command, and then all that wait
pub pair_and_pairs : (ws : List Wanted) (x : Line) (queued : List Line) (hs ev : List OpenCommand) (y : Tally) (code : ℕ)
    (name : Option Kind)
    → is_event_tag x.tag ≡ false → AreStandard queued → Reads ws (tabled (received x ∷ (all_received queued ++ hs)) ev y)
    (fails x.tag code name ++ all_fail 9007 (all_wait queued)) (tabled hs ev (broken y))
pair_and_pairs ws x queued hs ev y code name sort sorts =
    reads_more ws (fails x.tag code name) (all_fail 9007 (all_wait queued)) (tabled (received x ∷ (all_received queued ++ hs)) ev y)
    (tabled (all_received queued ++ hs) ev (broken y)) (tabled hs ev (broken y))
    (pair ws x (all_received queued ++ hs) ev y code name sort)
    (subst (λ (z : Tally). Reads ws (tabled (all_received queued ++ hs) ev (broken y)) (all_fail 9007 (all_wait queued)) (tabled hs ev z))
    (breaks_broken queued y) (pairs ws queued hs ev (broken y) sorts))

-- so do those of what runs, and then of all that wait
pub running_pairs : (ws : List Wanted) (running : Option Line) (queued : List Line) (hs ev : List OpenCommand) (y : Tally)
    → AreStandard (listed running ++ queued) → Reads ws (tabled (all_received (listed running ++ queued) ++ hs) ev y) (running_fails running
    ++ all_fail 9007 (all_wait queued)) (tabled hs ev (breaks (listed running ++ queued) y))
running_pairs ws None queued hs ev y sort = pairs ws queued hs ev y sort
running_pairs ws (Some x) queued hs ev y sort = pair_and_pairs ws x queued hs ev y 9007 (Some (kind_of x.command)) sort.0 sort.2

-- the receipt of a command that follows others
ack_in : (front : Bool) (busy : List Line) (x : Line) (hs : List OpenCommand) → is_held x.tag (all_received busy) ≡ false
    → heard_in front (all_received busy ++ sent_now x ∷ hs) x.tag Mark.Ack ≡ two (all_received busy ++ received x ∷ hs) Effect.Quiet
ack_in front [] x hs free = heard_at front (sent_now x) hs x.tag Mark.Ack (tag_is-refl x.tag)
ack_in front (l ∷ ls) x hs free =
    if_cases {A = Bool} (tag_is l.tag x.tag) true (is_held x.tag (all_received ls)) false
    (heard_in front (all_received (l ∷ ls) ++ sent_now x ∷ hs) x.tag Mark.Ack
    ≡ two (all_received (l ∷ ls) ++ received x ∷ hs) Effect.Quiet) free
    (λ same no_way. absurd (false≢true (sym no_way)))
    (λ other rest. heard_past front (received l) (all_received ls ++ sent_now x ∷ hs) x.tag Mark.Ack other
    ∙ ap (put_before (received l)) (ack_in (front && false) ls x hs rest))

-- the receipt of a command that was just sent, after received ones under other tags, makes it a received one
pub ack : (ws : List Wanted) (busy : List Line) (x : Line) (hs ev : List OpenCommand) (y : Tally) → is_event_tag x.tag ≡ false
    → is_held x.tag (all_received busy) ≡ false → heard ws (tabled (all_received busy ++ sent_now x ∷ hs) ev y) x.tag Mark.Ack
    ≡ fine (tabled (all_received busy ++ received x ∷ hs) ev y)
ack ws busy x hs ev y sort free = standard_hears ws (tabled (all_received busy ++ sent_now x ∷ hs) ev y) x.tag Mark.Ack (all_received busy
    ++ received x ∷ hs) Effect.Quiet sort (ack_in (not y.failed) busy x hs free)

-- the end of the first command, if nothing has failed
pub done_first : (ws : List Wanted) (x : Line) (hs ev : List OpenCommand) (y : Tally) → is_event_tag x.tag ≡ false → y.failed ≡ false
    → asks_data (kind_of x.command) ≡ false → Reads ws (tabled (received x ∷ hs) ev y) (Reply.Done x.tag ∷ [])
    (tabled hs ev (counted_next ws (kind_of x.command) None y.todo y))
done_first ws x hs ev y sort calm asks = (
  tabled hs ev (counted_next ws (kind_of x.command) None y.todo y),
  standard_hears ws (tabled (received x ∷ hs) ev y) x.tag Mark.Done hs (Effect.Count (kind_of x.command) None) sort
      (heard_at (not y.failed) (received x) hs x.tag Mark.Done (tag_is-refl x.tag)
      ∙ (ap (λ (b : Bool). settled (received x) hs (judged_done (not b) (asks_data (kind_of x.command)) Stage.Received)) calm
      ∙ ap (λ (b : Bool). settled (received x) hs (judged_done true b Stage.Received)) asks)),
  refl,
)

-- and the data and the end of one that asks for them: it is counted with them
pub given_first : (ws : List Wanted) (x : Line) (p : Datum) (hs ev : List OpenCommand) (y : Tally) → is_event_tag x.tag ≡ false
    → y.failed ≡ false
    → fits (kind_of x.command) p ≡ true → Reads ws (tabled (received x ∷ hs) ev y) (Reply.Given x.tag p ∷ Reply.Done x.tag ∷ [])
    (tabled hs ev (counted_next ws (kind_of x.command) (Some p) y.todo y))
given_first ws x p hs ev y sort calm asks = (
  tabled (staged_line x (Stage.Given p) ∷ hs) ev y,
  standard_hears ws (tabled (received x ∷ hs) ev y) x.tag (Mark.Given p) (staged_line x (Stage.Given p) ∷ hs) Effect.Quiet sort
      (heard_at (not y.failed) (received x) hs x.tag (Mark.Given p) (tag_is-refl x.tag)
      ∙ (ap (λ (b : Bool). settled (received x) hs (judged (not b) (kind_of x.command) Stage.Received (Mark.Given p))) calm
      ∙ ap (λ (b : Bool). settled (received x) hs (judged_given (true && b) Stage.Received p)) asks)),
  (
    tabled hs ev (counted_next ws (kind_of x.command) (Some p) y.todo y),
    standard_hears ws (tabled (staged_line x (Stage.Given p) ∷ hs) ev y) x.tag Mark.Done hs (Effect.Count (kind_of x.command) (Some p)) sort
        (heard_at (not y.failed) (staged_line x (Stage.Given p)) hs x.tag Mark.Done (tag_is-refl x.tag)
        ∙ ap (λ (b : Bool). settled (staged_line x (Stage.Given p)) hs
        (judged_done (not b) (asks_data (kind_of x.command)) (Stage.Given p))) calm),
    refl,
  ),
)

-- an abort: received, and ended
not_zero : (k : ℕ) → tag_is (Event (suc k)) (Event 0) ≡ false
not_zero k = ne_eqb (suc k) 0 (λ (e : suc k ≡ 0). suc-ne-zero k e)

-- an abort as an open command that was received
abbrev pub abort_received : ℕ → OpenCommand
abort_received k = record { tag = abort_tag k; kind = Kind.AbortE; stage = Stage.Received }

-- the receipt of an abort that was just sent, the first event command, makes it a received one
pub abort_acked : (ws : List Wanted) (k : ℕ) (st hs : List OpenCommand) (y : Tally)
    → heard ws (tabled st (abort_held k ∷ hs) y) (abort_tag k) Mark.Ack ≡ fine (tabled st (abort_received k ∷ hs) y)
abort_acked ws k st hs y = event_step ws (tabled st (abort_held k ∷ hs) y) (suc k) Mark.Ack (abort_received k ∷ hs) Effect.Quiet
    (not_zero k) (heard_at true (abort_held k) hs (abort_tag k) Mark.Ack (tag_is-refl (abort_tag k)))

-- the end of a received abort, the first event command, takes it off the open commands and counts nothing
pub abort_ended : (ws : List Wanted) (k : ℕ) (st hs : List OpenCommand) (y : Tally)
    → heard ws (tabled st (abort_received k ∷ hs) y) (abort_tag k) Mark.Done ≡ fine (tabled st hs y)
abort_ended ws k st hs y = event_step ws (tabled st (abort_received k ∷ hs) y) (suc k) Mark.Done hs (Effect.Count Kind.AbortE None)
    (not_zero k) (heard_at true (abort_received k) hs (abort_tag k) Mark.Done (tag_is-refl (abort_tag k)))

-- all that runs and waits fails between the two
pub abort_reads : (ws : List Wanted) (k : ℕ) (running : Option Line) (queued : List Line) (hs : List OpenCommand) (y : Tally)
    → AreStandard (listed running ++ queued)
    → Reads ws (tabled (all_received (listed running ++ queued) ++ []) (abort_held k ∷ hs) y)
    (Reply.Ack (abort_tag k) ∷ (running_fails running ++ (all_fail 9007 (all_wait queued) ++ Reply.Done (abort_tag k) ∷ [])))
    (tabled [] hs (breaks (listed running ++ queued) y))
abort_reads ws k running queued hs y sorts =
    let busy : List Line = listed running ++ queued in
    let all : List Reply = running_fails running ++ all_fail 9007 (all_wait queued) in
    let fell : Reads ws (tabled (all_received busy ++ []) (abort_received k ∷ hs) y) all
    (tabled [] (abort_received k ∷ hs) (breaks busy y)) = running_pairs ws running queued [] (abort_received k ∷ hs) y sorts in
    let last : Reads ws (tabled [] (abort_received k ∷ hs) (breaks busy y)) (Reply.Done (abort_tag k) ∷ []) (tabled [] hs (breaks busy y)) =
    (tabled [] hs (breaks busy y), abort_ended ws k [] hs (breaks busy y), refl) in (
      tabled (all_received busy ++ []) (abort_received k ∷ hs) y,
      abort_acked ws k (all_received busy ++ []) hs y,
      subst (λ (rs : List Reply). Reads ws (tabled (all_received busy ++ []) (abort_received k ∷ hs) y) rs (tabled [] hs (breaks busy y)))
          (append_assoc (running_fails running) (all_fail 9007 (all_wait queued)) (Reply.Done (abort_tag k) ∷ []))
          (reads_more ws all (Reply.Done (abort_tag k) ∷ []) _ (tabled [] (abort_received k ∷ hs) (breaks busy y)) _ fell last),
    )
