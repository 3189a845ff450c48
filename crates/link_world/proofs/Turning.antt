-- A quiet round that begins with a command that is due, and such rounds one after another.
use Rattle.link_world.proofs.Names.{[], ◌<◌, ◌∙◌, ◌∷◌, ◌≡◌, ◌≢◌, ap, Bool, due, Err, Event, false, false≢true, happens, is_some, IsReached, IsRound}
use Rattle.link_world.proofs.Names.{Job, List, Makes, None, Ok, OnErr, Option, Outcome, refl, Result, run_of, Some, staged, subst, sym, TraceValue}
use Rattle.link_world.proofs.Names.{true, unwatched, World, WorldValue, ℕ}
use Rattle.link_world.specs.Parts.{is_any}
use Rattle.link_world.proofs.EventLists.{leads_unwatched, leads_value, leads_world}
use Rattle.link_world.proofs.Reached.{never_faulted_behind}
use Rattle.link_world.proofs.Resting.{round_still, round_fewer}
use Rattle.link_world.proofs.Unsent.{unsent}

any_there : (es : List Event) → es ≢ [] → true ≡ is_any es
any_there [] some = absurd (some refl)
any_there (e ∷ es) some = refl

-- a round that was made when something was due did something
pub turn_made : (answer : Job → ℕ → Outcome) (told : Option Bool) (l m : WorldValue) (t u : TraceValue) → IsReached l
    → is_some (due l.world.client.client) ≡ true → Makes (IsRound answer) false told (staged l t) (staged m u)
    → Makes (IsRound answer) false (Some true) (unwatched l) (unwatched m)
turn_made answer told l m t u reached some h = record {
  events = h.events;
  made = h.made;
  leads = leads_unwatched h.events l m (leads_value h.events l m t u h.leads);
  told_is = any_there h.events
      (round_fewer answer l.world h.events h.made some (never_faulted_behind l Event.ClientSends reached some)).0;
}

-- and left less to be sent
pub turn_fewer : (answer : Job → ℕ → Outcome) (told : Option Bool) (l m : WorldValue) (t u : TraceValue) → IsReached l
    → is_some (due l.world.client.client) ≡ true
    → (Makes (IsRound answer) false told (staged l t) (staged m u))
    → unsent m.world < unsent l.world
turn_fewer answer told l m t u reached some made =
    let h = made in
    subst (λ (k : WorldValue). unsent k.world < unsent l.world) (sym (leads_value h.events l m t u h.leads))
    (round_fewer answer l.world h.events h.made some
    (never_faulted_behind l Event.ClientSends reached some)).1

-- if nothing is due after it, the next does nothing
pub turn_still : (answer : Job → ℕ → Outcome) (told : Option Bool) (l m : WorldValue) (t u : TraceValue)
    → Makes (IsRound answer) false told (staged l t) (staged m u) → due m.world.client.client ≡ None → IsRound answer false m.world []
turn_still answer told l m t u h none =
    let same : m.world ≡ run_of h.events l.world = leads_world h.events (staged l t) (staged m u) h.leads in
    subst (λ (w : World). IsRound answer false w []) (sym same)
    (round_still answer l.world h.events h.made (subst (λ (w : World). due w.client.client ≡ None) same none))

-- cut
pub turn_cut : (answer : Job → ℕ → Outcome) (told : Option Bool) (l m : WorldValue) (t u : TraceValue)
    → Makes (IsRound answer) true told (staged l t) (staged m u) → Makes (IsRound answer) true told (unwatched l) (unwatched m)
turn_cut answer told l m t u h = record {
  events = h.events;
  made = h.made;
  leads = leads_unwatched h.events l m (leads_value h.events l m t u h.leads);
  told_is = h.told_is;
}

-- ---- one after another

pub none_due : {A : Type 0} (o : Option A) → is_some o ≡ false → o ≡ None
none_due None is = refl
none_due (Some a) is = absurd (false≢true (sym is))

pub due_there : {A : Type 0} (o : Option A) → is_some o ≡ true → o ≡ None → ⊥
due_there o some none = false≢true (sym (ap is_some none) ∙ some)

-- as a machine answered at first
pub still_as : (now first : Job → ℕ → Outcome) (w : World) → now ≡ first → IsRound now false w []
    → IsRound first false w []
still_as now first w same h = subst (λ (a : Job → ℕ → Outcome). IsRound a false w []) same h

-- what holds is stated of an error
pub on_err : {A E : Type 0} (r : Result A E) (P : Type 0) → P → OnErr r P
on_err (Ok a) P p = tt
on_err (Err fault) P p = p
