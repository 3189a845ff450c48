-- What is left of a program, brought to its end.
use Rattle.link_world.proofs.Names.{[], ◌↔◌, ◌∙◌, ◌≡◌, ◌≤◌, ap, AreFirstOfJoining, AreTurns, Bool, CanFinish, CanMeasure, commands_most, due, Err}
use Rattle.link_world.proofs.Names.{Event, false, Finishes, FitsState, HasMeasured, IfOk, inl, inr, is_some, IsErrOf, IsFinish, IsReached, IsSameKind}
use Rattle.link_world.proofs.Names.{Job, length, List, Makes, no_trace, None, Ok, OnOk, Option, Outcome, plan_left, refl, rejoined, rejoining, Result}
use Rattle.link_world.proofs.Names.{rules, run_of, State, Stops, subst, sym, true, unwatched, with_world, World, WorldFault, WorldValue, ℕ}
use Rattle.link_world.proofs.EventLists.{run_append, leads_value, leads_world}
use Rattle.link_world.proofs.Rejoining.{IsJoined, joined_at, joined_due, left_few}
use Rattle.link_world.proofs.SameKind.{same_run, same_then}

-- a call came to the next connection
abbrev pub Joined : WorldValue → WorldValue → Type 0
Joined l k = k ≡ with_world l (rejoined l.world)

joined_world : (l k : WorldValue) → k ≡ with_world l (rejoined l.world) → k.world ≡ rejoined l.world
joined_world l k is = ap (λ (x : WorldValue). x.world) is

behind_joining : (l k : WorldValue) → Joined l k → CanFinish l.world → FitsState l.world.client.client.state l.world.client.client.on
    → IsJoined l.world k.world
behind_joining l k joined may fits =
    subst (IsJoined l.world) (sym (joined_world l k (joined))) (joined_at l.world may fits)

pub due_behind : (l k : WorldValue) → Joined l k → CanFinish l.world → FitsState l.world.client.client.state l.world.client.client.on
    → 1 ≤ l.world.client.client.window → is_some (due k.world.client.client) ≡ true
due_behind l k joined may fits some = joined_due l.world k.world (behind_joining l k joined may fits) some

pub short_behind : (l k : WorldValue) → Joined l k → CanFinish l.world → FitsState l.world.client.client.state l.world.client.client.on
    → IsReached l → length k.world.client.client.table.tally.unsent ≤ commands_most
short_behind l k joined may fits h =
    subst (λ (n : ℕ). n ≤ commands_most) (sym (ap length (behind_joining l k joined may fits).unsent)) (left_few l h)

pub few_behind : (l k : WorldValue) (turns : ℕ) → Joined l k → CanFinish l.world
    → FitsState l.world.client.client.state l.world.client.client.on → turns ≤ length k.world.client.client.table.tally.unsent
    → turns ≤ length (plan_left l.world)
few_behind l k turns joined may fits few =
    subst (λ (n : ℕ). turns ≤ n) (ap length (behind_joining l k joined may fits).unsent) few

pub finished : (answer : Job → ℕ → Outcome) (turns : ℕ) (l k m : WorldValue) → Joined l k
    → Makes (AreTurns answer turns) false None (unwatched k) (unwatched m) → Finishes answer turns l.world m.world
finished answer turns l k m joined h =
    let there : k.world ≡ rejoined l.world = joined_world l k (joined) in record {
      events = h.events;
      made = subst (λ (w : World). AreTurns answer turns false w h.events) there h.made;
      leads =
          leads_world h.events (unwatched k) (unwatched m) h.leads
          ∙ (ap (λ (w : World). run_of h.events w) there ∙ sym (run_append (rejoining l.world) h.events l.world));
    }

pub stopped_turning : (answer : Job → ℕ → Outcome) (l k m : WorldValue) → Joined l k
    → Makes (AreTurns answer 0) true None (unwatched k) (unwatched m) → Stops answer l.world m.world
stopped_turning answer l k m joined h =
    let there : k.world ≡ rejoined l.world = joined_world l k (joined) in record {
      joins = rejoining l.world;
      events = h.events;
      made = inr (refl, subst (λ (w : World). AreTurns answer 0 true w h.events) there h.made);
      leads =
          leads_world h.events (unwatched k) (unwatched m) h.leads
          ∙ (ap (λ (w : World). run_of h.events w) there ∙ sym (run_append (rejoining l.world) h.events l.world));
    }

pub stopped_joining : (answer : Job → ℕ → Outcome) (l m : WorldValue) → Makes AreFirstOfJoining true None (unwatched l) (unwatched m)
    → Stops answer l.world m.world
stopped_joining answer l m h = record {
  joins = h.events;
  events = [];
  made = inl (h.made, refl);
  leads = leads_world h.events (unwatched l) (unwatched m) h.leads ∙ sym (run_append h.events [] l.world);
}

pub same_made : (are : Bool → World → List Event → Type 0) (cut : Bool) (told : Option Bool) (l m : WorldValue)
    → Makes are cut told (unwatched l) (unwatched m) → IsSameKind l m
same_made are cut told l m h =
    same_run h.events l m (leads_value h.events l m no_trace no_trace h.leads)

pub same_joined : (l k : WorldValue) → Joined l k → IsSameKind l k
same_joined l k joined = same_run (rejoining l.world) l k (joined)

pub same_turned : (are : Bool → World → List Event → Type 0) (cut : Bool) (told : Option Bool) (l k m : WorldValue) → Joined l k
    → Makes are cut told (unwatched k) (unwatched m) → IsSameKind l m
same_turned are cut told l k m joined h = same_then l k m (same_joined l k joined) (same_made are cut told k m h)

-- what holds of each answer holds of all
pub finish_is : (answer : Job → ℕ → Outcome) (l m : WorldValue) (r : Result ℕ WorldFault) → OnOk r (CanFinish l.world)
    → (IsErrOf r WorldFault.NotNow ↔ ¬ (CanFinish l.world)) → (IsErrOf r WorldFault.NotNow → m ≡ l)
    → IfOk r (λ turns. Finishes answer turns l.world m.world) → IfOk r (λ turns. turns ≤ length (plan_left l.world))
    → OnOk r (CanMeasure answer l.world → m.world.client.client.state ≡ State.Done)
    → OnOk r (CanMeasure answer l.world → HasMeasured answer l.world m.world)
    → (IsErrOf r WorldFault.Memory → CanFinish l.world × Stops answer l.world m.world) → IsFinish answer l r m
finish_is answer l m (Ok turns) can not_now unchanged finishes few done measured memory =
    (can, record { finishes = finishes; few = few; done = done; measured = measured })
finish_is answer l m (Err WorldFault.NotNow) can not_now unchanged finishes few done measured memory =
    (not_now.0 (search rules), unchanged (search rules))
finish_is answer l m (Err WorldFault.Memory) can not_now unchanged finishes few done measured memory = memory (search rules)
