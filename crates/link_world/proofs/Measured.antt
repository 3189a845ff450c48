-- What is left of a program is measured, if the rack and the machine give what that takes.
use Rattle.link_world.proofs.Names.{[], ◌++◌, ◌∙◌, ◌≡◌, ◌≤◌, ◌⊎◌, all_of, ap, append-nil, AreAllBusy, AreBusy, AreTurns, CanFinish, CanMeasure, Event}
use Rattle.link_world.proofs.Names.{false, false≢true, Finishes, HasMeasured, inl, inr, IsReached, IsRound, Job, length, List, Meaning, Outcome}
use Rattle.link_world.proofs.Names.{rejoined, rejoining, run_of, run_window, start, State, subst, sym, true, World, WorldValue, ℕ}
use Rattle.protocol_model.specs.PlainExecution.{as_measured, plain_execution}
use Rattle.protocol_model.proofs.quiet_run.Finished.{done, features}
use Rattle.link_world.proofs.EventLists.{run_append}

-- a world is Done, with what was measured before and what is plainly measured then
pub record IsMeasured (answer : Job → ℕ → Outcome) (w v : World) : Type 0 where
  pub done : v.client.client.state ≡ State.Done
  pub measured : HasMeasured answer w v

-- quiet rounds from a world, both ends of which came to the next connection, measure what is left
abbrev Measures : (Job → ℕ → Outcome) → List (List Event) → World → Type 0
Measures answer rounds w = CanFinish w → CanMeasure answer w → AreAllBusy answer (rejoined w) rounds
    → IsMeasured answer w (run_of (all_of rounds) (rejoined w))

window_of : (l : WorldValue) → (h : IsReached l) → l.world.client.client.window ≡ h.window
window_of l h =
    ap (λ (w : World). w.client.client.window) h.reached ∙ run_window h.events (start h.program l.setup.tools h.window)

measures : (answer : Job → ℕ → Outcome) (rounds : List (List Event)) (l : WorldValue) (h : IsReached l)
    → 1 ≤ l.world.client.client.window → Measures answer rounds l.world
measures answer rounds l h some =
    let some : 1 ≤ h.window = subst (λ (n : ℕ). 1 ≤ n) (window_of l h) some in
    subst (Measures answer rounds) (sym h.reached) (λ may can busy. record {
      done = done answer h.program l.setup.tools h.window h.events rounds h.is_program some h.few may can busy;
      measured = features answer h.program l.setup.tools h.window h.events rounds h.is_program some h.few may can busy;
    })

-- the rounds of a run that was not cut
pub record Rounds (answer : Job → ℕ → Outcome) (w : World) (events : List Event) : Type 0 where
  pub rounds : List (List Event)
  pub busy : AreAllBusy answer w rounds
  pub whole : events ≡ all_of rounds

all_alone : (xs rest : List Event) → rest ≡ [] → xs ++ rest ≡ xs
all_alone xs rest none = ap (λ (ys : List Event). xs ++ ys) none ∙ append-nil xs

rounds_at : (answer : Job → ℕ → Outcome) (turns : ℕ) (w : World) (events : List Event)
    → (h : AreTurns answer turns false w events)
    → ((AreAllBusy answer w h.rounds × (length h.rounds ≡ turns) × (h.rest ≡ []))
    ⊎ ((false ≡ true) × AreBusy answer w h.rounds × IsRound answer true (run_of (all_of h.rounds) w) h.rest))
    → Rounds answer w events
rounds_at answer turns w events h (inl end) =
    record { rounds = h.rounds; busy = end.0; whole = h.whole ∙ all_alone (all_of h.rounds) h.rest end.2 }
rounds_at answer turns w events h (inr end) = absurd (false≢true end.0)

pub finish_measures : (answer : Job → ℕ → Outcome) (turns : ℕ) (l m : WorldValue) → IsReached l → CanFinish l.world
    → 1 ≤ l.world.client.client.window → CanMeasure answer l.world
    → (Finishes answer turns l.world m.world) → IsMeasured answer l.world m.world
finish_measures answer turns l m h may some can finishes =
    let f : Finishes answer turns l.world m.world = finishes in
    let r : Rounds answer (rejoined l.world) f.events =
    rounds_at answer turns (rejoined l.world) f.events f.made f.made.end in
    let there : m.world ≡ run_of (all_of r.rounds) (rejoined l.world) =
    f.leads ∙ (run_append (rejoining l.world) f.events l.world
    ∙ ap (λ (es : List Event). run_of es (rejoined l.world)) r.whole) in
    subst (IsMeasured answer l.world) (sym there) (measures answer r.rounds l h some may can r.busy)

-- ---- of a whole program

-- what is held is what the program plainly measures, its touches numbered from 0 on
pub wholly : (answer : Job → ℕ → Outcome) (p : Meaning) (rack : List (List ℕ)) (window : ℕ) (v : World)
    → HasMeasured answer (start p rack window) v → as_measured v.client.client.table.tally.features ≡ plain_execution answer 0 p.features
wholly answer p rack window v h = ap as_measured h.whole ∙ h.plain
