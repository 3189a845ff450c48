-- Turns as events: the parts of a turn, one after another.
use Rattle.link_world.proofs.Names.{[], ◌++◌, ◌∙◌, ◌∷◌, ◌≡◌, after, ap, append-nil, AreWhile, AreWork, Bool, can, cond, ending, Event, false, happens}
use Rattle.link_world.proofs.Names.{inl, inr, IsClientTurn, IsOne, IsServerTurn, Job, List, None, Outcome, refl, run_of, Some, subst, suc, sym, Then}
use Rattle.link_world.proofs.Names.{true, TurnLeads, working, World, zero, ℕ}
use Rattle.protocol_model.specs.Rounds.{possible}
use Rattle.link_world.proofs.EventLists.{run_append, done_now, not_done}

-- one event, repeated n times
abbrev pub times : ℕ → Event → List Event
times zero e = []
times (suc n) e = times n e ++ e ∷ []

-- ---- an event while it can happen

while_more : (e : Event) (w : World) (es : List Event) → AreWhile e true w es
    → can e (run_of es w) ≡ true → AreWhile e true w (es ++ e ∷ [])
while_more e w [] h may = (refl, may, tt)
while_more e w (f ∷ fs) h may = (
  h.0,
  h.1,
  while_more e (happens e w) fs h.2
      (subst (λ (x : World). can e (run_of fs x) ≡ true)
      (ap (λ (x : Event). after x w) h.0 ∙ done_now e w h.1) may),
)

while_ends : (e : Event) (w : World) (es : List Event) → AreWhile e true w es
    → can e (run_of es w) ≡ false → AreWhile e false w es
while_ends e w [] h never = never
while_ends e w (f ∷ fs) h never = (
  h.0,
  h.1,
  while_ends e (happens e w) fs h.2
      (subst (λ (x : World). can e (run_of fs x) ≡ false) (ap (λ (x : Event). after x w) h.0 ∙ done_now e w h.1)
      never),
)

-- n times so far, and a world after that
pub record SoFar (e : Event) (w v : World) : Type 0 where
  pub count : ℕ
  pub while : AreWhile e true w (times count e)
  pub leads : run_of (times count e) w ≡ v

pub not_yet : (e : Event) (w v : World) → w ≡ v → SoFar e w v
not_yet e w v same = record { count = 0; while = tt; leads = same }

pub once_more : (e : Event) (w v x : World) → SoFar e w v → can e v ≡ true → after e v ≡ x
    → SoFar e w x
once_more e w v x h may leads = record {
  count = suc h.count;
  while = while_more e w (times h.count e) h.while (subst (λ (u : World). can e u ≡ true) (sym h.leads) may);
  leads = run_append (times h.count e) (e ∷ []) w ∙ (ap (after e) h.leads ∙ leads);
}

pub all_done : (e : Event) (w v : World) → (h : SoFar e w v) → can e v ≡ false
    → AreWhile e false w (times h.count e)
all_done e w v h never =
    while_ends e w (times h.count e) h.while (subst (λ (u : World). can e u ≡ false) (sym h.leads) never)

-- ---- what a server has to do

work_more : (answer : Job → ℕ → Outcome) (e : Event) (w : World) (es : List Event) → AreWork answer true w es
    → working (ending answer (run_of es w)) (run_of es w) ≡ Some e → AreWork answer true w (es ++ e ∷ [])
work_more answer e w [] h is = (is, tt)
work_more answer e w (f ∷ fs) h is = (h.0, work_more answer e (after f w) fs h.1 is)

work_ends : (answer : Job → ℕ → Outcome) (w : World) (es : List Event) → AreWork answer true w es
    → working (ending answer (run_of es w)) (run_of es w) ≡ None → AreWork answer false w es
work_ends answer w [] h is = is
work_ends answer w (f ∷ fs) h is = (h.0, work_ends answer (after f w) fs h.1 is)

pub record Worked (answer : Job → ℕ → Outcome) (w v : World) : Type 0 where
  pub events : List Event
  pub are : AreWork answer true w events
  pub leads : run_of events w ≡ v

pub no_work : (answer : Job → ℕ → Outcome) (w v : World) → w ≡ v → Worked answer w v
no_work answer w v same = record { events = []; are = tt; leads = same }

pub more_work : (answer : Job → ℕ → Outcome) (e : Event) (w v x : World) → Worked answer w v
    → working (ending answer v) v ≡ Some e → after e v ≡ x → Worked answer w x
more_work answer e w v x h is leads = record {
  events = h.events ++ e ∷ [];
  are = work_more answer e w h.events h.are (subst (λ (u : World). working (ending answer u) u ≡ Some e) (sym h.leads) is);
  leads = run_append h.events (e ∷ []) w ∙ (ap (after e) h.leads ∙ leads);
}

pub all_worked : (answer : Job → ℕ → Outcome) (w v : World) → (h : Worked answer w v)
    → working (ending answer v) v ≡ None → AreWork answer false w h.events
all_worked answer w v h is =
    work_ends answer w h.events h.are (subst (λ (u : World). working (ending answer u) u ≡ None) (sym h.leads) is)

-- ---- an event if it can happen

abbrev one : Event → World → List Event
one e w = cond (can e w) (e ∷ []) []

one_by : (e : Event) (b : Bool) → IsOne (cond b (Some e) None) false (cond b (e ∷ []) [])
one_by e true = inl refl
one_by e false = refl

run_one_by : (e : Event) (w : World) (b : Bool) → can e w ≡ b
    → run_of (cond b (e ∷ []) []) w ≡ after e w
run_one_by e w true is = refl
run_one_by e w false is = sym (not_done e w is)

run_one : (e : Event) (w : World) → run_of (one e w) w ≡ after e w
run_one e w = run_one_by e w (can e w) refl

-- ---- one part after another

both : (A B : Bool → World → List Event → Type 0) (cut : Bool) (w v : World) (front back : List Event)
    → A false w front → run_of front w ≡ v → B cut v back → Then A B cut w (front ++ back)
both A B cut w v front back a leads b = record {
  front = front;
  back = back;
  whole = refl;
  parts = inl (a, subst (λ (u : World). B cut u back) (sym leads) b);
}

only : (A B : Bool → World → List Event → Type 0) (w : World) (front : List Event) → A true w front
    → Then A B true w front
only A B w front a = record { front = front; back = []; whole = sym (append-nil front); parts = inr (refl, a, refl) }

-- ---- the turn of a client

pub sent_only : (count : ℕ) (w v : World) → SoFar Event.ClientSends w v
    → TurnLeads (IsClientTurn count) true w v
sent_only count w v h = record {
  events = times h.count Event.ClientSends;
  made = only (AreWhile Event.ClientSends) _ w (times h.count Event.ClientSends) h.while;
  leads = h.leads;
}

pub client_turned : (count : ℕ) (cut : Bool) (w v x y : World) → (s : SoFar Event.ClientSends w v)
    → can Event.ClientSends v ≡ false → after (Event.Down count) v ≡ x → (r : SoFar Event.ClientReads x y)
    → AreWhile Event.ClientReads cut x (times r.count Event.ClientReads)
    → TurnLeads (IsClientTurn count) cut w y
client_turned count cut w v x y s never came r while =
    let sends : List Event = times s.count Event.ClientSends in
    let downs : List Event = one (Event.Down count) v in
    let reads : List Event = times r.count Event.ClientReads in
    let there : run_of downs v ≡ x = run_one (Event.Down count) v ∙ came in record {
      events = sends ++ (downs ++ reads);
      made = both (AreWhile Event.ClientSends) _ cut w v sends (downs ++ reads)
          (all_done Event.ClientSends w v s never) s.leads
          (both (λ (cut : Bool) (u : World). IsOne (possible (Event.Down count) u) cut) (AreWhile Event.ClientReads) cut v x
          downs reads (one_by (Event.Down count) (can (Event.Down count) v)) there while);
      leads = run_append sends (downs ++ reads) w
          ∙ (ap (run_of (downs ++ reads)) s.leads
          ∙ (run_append downs reads v ∙ (ap (run_of reads) there ∙ r.leads)));
    }

-- ---- the turn of a server

pub heard_only : (answer : Job → ℕ → Outcome) (count : ℕ) (w x y : World) → after (Event.Up count) w ≡ x
    → SoFar Event.ServerReads x y → TurnLeads (IsServerTurn answer count) true w y
heard_only answer count w x y came r =
    let ups : List Event = one (Event.Up count) w in
    let reads : List Event = times r.count Event.ServerReads in
    let there : run_of ups w ≡ x = run_one (Event.Up count) w ∙ came in record {
      events = ups ++ reads;
      made = both (λ (cut : Bool) (u : World). IsOne (possible (Event.Up count) u) cut)
          (Then (AreWhile Event.ServerReads) (AreWork answer)) true w x ups reads
          (one_by (Event.Up count) (can (Event.Up count) w)) there
          (only (AreWhile Event.ServerReads) (AreWork answer) x reads r.while);
      leads = run_append ups reads w ∙ (ap (run_of reads) there ∙ r.leads);
    }

pub served_whole : (answer : Job → ℕ → Outcome) (count : ℕ) (cut : Bool) (w x y z : World)
    → after (Event.Up count) w ≡ x → (r : SoFar Event.ServerReads x y) → can Event.ServerReads y ≡ false
    → (h : Worked answer y z) → AreWork answer cut y h.events
    → TurnLeads (IsServerTurn answer count) cut w z
served_whole answer count cut w x y z came r never h work =
    let ups : List Event = one (Event.Up count) w in
    let reads : List Event = times r.count Event.ServerReads in
    let there : run_of ups w ≡ x = run_one (Event.Up count) w ∙ came in record {
      events = ups ++ (reads ++ h.events);
      made = both (λ (cut : Bool) (u : World). IsOne (possible (Event.Up count) u) cut)
          (Then (AreWhile Event.ServerReads) (AreWork answer)) cut w x ups (reads ++ h.events)
          (one_by (Event.Up count) (can (Event.Up count) w)) there
          (both (AreWhile Event.ServerReads) (AreWork answer) cut x y reads h.events
          (all_done Event.ServerReads x y r never) r.leads work);
      leads = run_append ups (reads ++ h.events) w
          ∙ (ap (run_of (reads ++ h.events)) there
          ∙ (run_append reads h.events x ∙ (ap (run_of h.events) r.leads ∙ h.leads)));
    }
