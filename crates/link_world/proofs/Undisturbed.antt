-- What comes of a list of events of which none disturbs, and of one for which memory sufficed.
use Rattle.link_world.proofs.Names.{[], ◌∙◌, ◌∷◌, ◌≡◌, ◌≤◌, acts_in, acts_planned, ap, AreFirstActs, AreFirstLines, AreFirstOf, AreUndisturbed, Bool}
use Rattle.link_world.proofs.Names.{can, cond, Event, false, false≢true, first_plan, FollowsPlan, Happened, happens, HasRun, IsCarried, IsNew}
use Rattle.link_world.proofs.Names.{IsProgram, IsReached, List, refl, Refused, run_of, run_same, start, subst, sym, true, undisturbed_acts}
use Rattle.link_world.proofs.Names.{undisturbed_counts, undisturbed_lines, Wanting, wanting, World, WorldValue, ℕ}
use Rattle.link_world.specs.Runs.{Answer, Follows}
use Rattle.link_world.proofs.Reached.{carried}

-- ---- the events that happened

pub after_can : (e : Event) (w : World) (b : Bool) → can e w ≡ b → b ≡ true
    → cond b (happens e w) w ≡ happens e w
after_can e w true is may = refl
after_can e w false is may = absurd (false≢true may)

after_cannot : (e : Event) (w : World) (b : Bool) → can e w ≡ b → b ≡ false → cond b (happens e w) w ≡ w
after_cannot e w true is never = absurd (false≢true (sym never))
after_cannot e w false is never = refl

-- those of a list of which none disturbs, that lead from one world to another
record Quietly (w v : World) : Type 0 where
  pub events : List Event
  pub quiet : AreUndisturbed events
  pub leads : v ≡ run_of events w

quietly : (w v : World) (events : List Event) (xs : List Answer) → AreUndisturbed events → Follows w events xs v
    → Quietly w v
quietly w v [] [] q h = record { events = []; quiet = tt; leads = h }
quietly w v [] (x ∷ xs) q h = absurd h
quietly w v (e ∷ es) [] q h = absurd h
quietly w v (e ∷ es) (Happened ∷ xs) q h =
    let more : Quietly (happens e w) v = quietly (happens e w) v es xs q.1 h.1 in record {
      events = e ∷ more.events;
      quiet = (q.0, more.quiet);
      leads = more.leads ∙ ap (run_of more.events) (sym (after_can e w (can e w) refl h.0));
    }
quietly w v (e ∷ es) (Refused ∷ xs) q h = quietly w v es xs q.1 h.1
quietly w v (e ∷ es) (Wanting ∷ xs) q h = quietly w v es xs q.1 h.2

-- if memory sufficed, all events lead there
all_lead : (w v : World) (events : List Event) (xs : List Answer) → wanting xs ≡ 0 → Follows w events xs v
    → v ≡ run_of events w
all_lead w v [] [] none h = h
all_lead w v [] (x ∷ xs) none h = absurd h
all_lead w v (e ∷ es) [] none h = absurd h
all_lead w v (e ∷ es) (Happened ∷ xs) none h =
    all_lead (happens e w) v es xs none h.1 ∙ ap (run_of es) (sym (after_can e w (can e w) refl h.0))
all_lead w v (e ∷ es) (Refused ∷ xs) none h =
    all_lead w v es xs none h.1 ∙ ap (run_of es) (sym (after_cannot e w (can e w) refl h.0))
all_lead w v (e ∷ es) (Wanting ∷ xs) none h = absurd (cc)

pub run_leads : (w v : World) (events : List Event) (done not_now memory : ℕ)
    → HasRun w events v done not_now memory → memory ≡ 0 → v ≡ run_of events w
run_leads w v events done not_now memory h none = all_lead w v events h.answers (h.memory_are ∙ none) h.leads

-- ---- the program and the window of a world to which events have led

pub program_is : (l : WorldValue) → IsReached l → IsProgram l.world.client.client.program
program_is l h =
    subst IsProgram (sym (ap (λ (w : World). w.client.client.program) h.reached
    ∙ run_same h.events (start h.program l.setup.tools h.window))) h.is_program

pub window_few : (l : WorldValue) → IsReached l → l.world.client.client.window ≤ 16
window_few l h = let c : IsCarried l.world = carried l h in c.inv.window

-- ---- the claims

abbrev Runs : WorldValue → World → List Event → ℕ → ℕ → ℕ → Type 0
Runs l v events done not_now memory = HasRun l.world events v done not_now memory

ran : (l : WorldValue) (v : World) (events : List Event) (done not_now memory : ℕ) → Runs l v events done not_now memory
    → AreUndisturbed events
    → Quietly l.world v
ran l v events done not_now memory h q = let r = h
    in quietly l.world v events r.answers q r.leads

from_new : (l : WorldValue) (v : World) → IsNew l.world → (q : Quietly l.world v)
    → run_of q.events (start l.world.client.client.program l.world.server.server.rack l.world.client.client.window) ≡ v
from_new l v new q = sym (q.leads ∙ ap (run_of q.events) new)

new_lines : (l : WorldValue) (v : World) (events : List Event) (done not_now memory : ℕ) → IsReached l → Runs l v events done not_now memory
    → IsNew l.world → AreUndisturbed events
    → AreFirstLines v.written (first_plan l.world)
new_lines l v events done not_now memory h runs new quiet =
    let q : Quietly l.world v = ran l v events done not_now memory runs quiet in
    subst (λ (w : World). AreFirstLines w.written (first_plan l.world)) (from_new l v new q)
    (undisturbed_lines l.world.client.client.program l.world.server.server.rack
    l.world.client.client.window q.events (program_is l h) (window_few l h) q.quiet)

new_acts : (l : WorldValue) (v : World) (events : List Event) (done not_now memory : ℕ) → IsReached l → Runs l v events done not_now memory
    → IsNew l.world → AreUndisturbed events
    → AreFirstActs (acts_in v.server.server.ledger) (acts_planned (first_plan l.world))
new_acts l v events done not_now memory h runs new quiet =
    let q : Quietly l.world v = ran l v events done not_now memory runs quiet in
    subst (λ (w : World). AreFirstActs (acts_in w.server.server.ledger) (acts_planned (first_plan l.world))) (from_new l v new q)
    (undisturbed_acts l.world.client.client.program l.world.server.server.rack
    l.world.client.client.window q.events (program_is l h) (window_few l h) q.quiet)

new_counts : (l : WorldValue) (v : World) (events : List Event) (done not_now memory : ℕ) → IsReached l
    → Runs l v events done not_now memory → IsNew l.world → AreUndisturbed events
    → AreFirstOf v.client.client.table.tally.counted (acts_in v.server.server.ledger)
new_counts l v events done not_now memory h runs new quiet =
    let q : Quietly l.world v = ran l v events done not_now memory runs quiet in
    subst (λ (w : World). AreFirstOf w.client.client.table.tally.counted (acts_in w.server.server.ledger)) (from_new l v new q)
    (undisturbed_counts l.world.client.client.program l.world.server.server.rack
    l.world.client.client.window q.events (program_is l h) (window_few l h) q.quiet)

pub new_follows : (l : WorldValue) (v : World) (events : List Event) (done not_now memory : ℕ) → IsReached l
    → Runs l v events done not_now memory → IsNew l.world → AreUndisturbed events → FollowsPlan (first_plan l.world) v
new_follows l v events done not_now memory h runs new quiet = record {
  lines = new_lines l v events done not_now memory h runs new quiet;
  acts = new_acts l v events done not_now memory h runs new quiet;
  counted = new_counts l v events done not_now memory h runs new quiet;
}
