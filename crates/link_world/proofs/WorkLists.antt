-- What the server does, one thing after another.
use Rattle.link_world.proofs.Names.{[], ◌++◌, ◌<◌, ◌∙◌, ◌∷◌, ◌≡◌, after, ap, AreWork, Bool, can, cond, contact_count, ended, ending, Event, false}
use Rattle.link_world.proofs.Names.{happens, IsRunnable, Job, Leading, Line, List, Makes, None, Option, Outcome, run_of, running_job, Some, Staged}
use Rattle.link_world.proofs.Names.{subst, sym, true, with_world, working, World, WorldValue, ℕ}
use Rattle.link_world.proofs.EventLists.{any_more, leads_more, done_now}
use Rattle.link_world.proofs.ServerWork.{work_left, turn_less, machine_less}

-- so far
abbrev pub Working : (Job → ℕ → Outcome) → Bool → World → List Event → Type 0
Working answer cut w es = AreWork answer true w es

-- what is next
abbrev pub next : (Job → ℕ → Outcome) → World → Option Event
next answer w = working (ending answer w) w

work_more : (answer : Job → ℕ → Outcome) (e : Event) (w : World) (es : List Event) → AreWork answer true w es
    → next answer (run_of es w) ≡ Some e → AreWork answer true w (es ++ e ∷ [])
work_more answer e w [] h is = (is, tt)
work_more answer e w (f ∷ fs) h is = (h.0, work_more answer e (after f w) fs h.1 is)

work_ends : (answer : Job → ℕ → Outcome) (w : World) (es : List Event) → AreWork answer true w es
    → next answer (run_of es w) ≡ None → AreWork answer false w es
work_ends answer w [] h is = is
work_ends answer w (f ∷ fs) h is = (h.0, work_ends answer (after f w) fs h.1 is)

pub working_more : (answer : Job → ℕ → Outcome) (e : Event) (b : Bool) (l k m : Staged)
    → Makes (Working answer) false (Some b) l k → next answer k.world ≡ Some e
    → Leading (e ∷ []) k m → Makes (Working answer) false (Some true) l m
working_more answer e b l k m h is leads = record {
  events = h.events ++ e ∷ [];
  made = work_more answer e l.world h.events h.made (subst (λ (x : Staged). next answer x.world ≡ Some e) h.leads.is is);
  leads = leads_more l k m h.events (e ∷ []) h.leads leads;
  told_is = any_more h.events e;
}

pub working_ends : (answer : Job → ℕ → Outcome) (b : Bool) (l k : Staged)
    → Makes (Working answer) false (Some b) l k → next answer k.world ≡ None
    → Makes (AreWork answer) false (Some b) l k
working_ends answer b l k h is = record {
  events = h.events;
  made = work_ends answer l.world h.events h.made (subst (λ (x : Staged). next answer x.world ≡ None) h.leads.is is);
  leads = h.leads;
  told_is = h.told_is;
}

-- ---- it ends

turn_only : (e : Event) (w : World) (b : Bool) → cond {A = Option Event} b (Some Event.ServerTurn) None ≡ Some e → e ≡ Event.ServerTurn
turn_only e w true is = cc
turn_only e w false is = absurd (cc)

next_less : (answer : Job → ℕ → Outcome) (e : Event) (w : World) (job : Option Job)
    → working (ended answer (contact_count w.server.server.ledger) job) w ≡ Some e → can e w ≡ true
    → ((line : Line) → w.server.server.running ≡ Some line → IsRunnable w.server.server line)
    → work_left (happens e w) < work_left w
next_less answer e w None is may fine =
    let same : e ≡ Event.ServerTurn = turn_only e w (can Event.ServerTurn w) is in
    subst (λ (x : Event). work_left (happens x w) < work_left w) (sym same)
    (turn_less w (subst (λ (x : Event). can x w ≡ true) same may))
next_less answer e w (Some job) is may fine =
    let same : e ≡ Event.Machine (answer job (contact_count w.server.server.ledger)) = cc in
    subst (λ (x : Event). work_left (happens x w) < work_left w) (sym same)
    (machine_less w (answer job (contact_count w.server.server.ledger)) (subst (λ (x : Event). can x w ≡ true) same may) fine)

pub work_less : (answer : Job → ℕ → Outcome) (e : Event) (l m : WorldValue) → next answer l.world ≡ Some e → can e l.world ≡ true
    → ((line : Line) → l.world.server.server.running ≡ Some line → IsRunnable l.world.server.server line)
    → (m ≡ with_world l (after e l.world)) → work_left m.world < work_left l.world
work_less answer e l m is may fine leads =
    let same : m.world ≡ happens e l.world = ap (λ (k : WorldValue). k.world) (leads)
    ∙ done_now e l.world may in
    subst (λ (w : World). work_left w < work_left l.world) (sym same)
    (next_less answer e l.world (running_job l.world.server.server) is may fine)

-- what is next, as the machine answered at first
pub next_is : (now first : Job → ℕ → Outcome) (w : World) (o : Option Event) → now ≡ first → next now w ≡ o → next first w ≡ o
next_is now first w o same is = subst (λ (a : Job → ℕ → Outcome). next a w ≡ o) same is
