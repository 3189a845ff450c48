-- What an event answers; and no event changes the setup, the program or the window.
use Rattle.link_world.proofs.Names.{[], ◌∙◌, ◌∷◌, ◌≡◌, ap, can, Err, Event, false, happens, HappensIf, IsAnswer, IsErrOf, IsSameKind, Leads, List, Ok}
use Rattle.link_world.proofs.Names.{refl, Result, rules, run_of, run_same, run_window, sym, takes_memory, true, with_world, World, WorldFault}
use Rattle.link_world.proofs.Names.{WorldValue}
use Rattle.link_world.proofs.Undisturbed.{after_can}

pub answered : (e : Event) (w : World) (r : Result (Unit {0}) WorldFault) → HappensIf r (can e w)
    → (IsErrOf r WorldFault.Memory → takes_memory e ≡ true) → IsAnswer e w r
answered e w (Ok u) may takes = may.0
answered e w (Err WorldFault.NotNow) may takes = may.1 (search rules)
answered e w (Err WorldFault.Memory) may takes = (may.2 (search rules), takes (search rules))

pub answer_refused : (e : Event) (w : World) (r : Result (Unit {0}) WorldFault) → IsAnswer e w r → IsErrOf r WorldFault.NotNow
    → can e w ≡ false
answer_refused e w (Ok u) a is = absurd (cc)
answer_refused e w (Err WorldFault.NotNow) a is = a
answer_refused e w (Err WorldFault.Memory) a is = absurd (cc)

pub answer_wanting : (e : Event) (w : World) (r : Result (Unit {0}) WorldFault) → IsAnswer e w r → IsErrOf r WorldFault.Memory
    → (can e w ≡ true) × (takes_memory e ≡ true)
answer_wanting e w (Ok u) a is = absurd (cc)
answer_wanting e w (Err WorldFault.NotNow) a is = absurd (cc)
answer_wanting e w (Err WorldFault.Memory) a is = a

same_kind : (l m : WorldValue) (e : Event) → can e l.world ≡ true
    → (m ≡ with_world l (happens e l.world)) → IsSameKind l m
same_kind l m e may is =
    let new : m ≡ with_world l (happens e l.world) = is in record {
      setup = ap (λ (k : WorldValue). k.setup) new;
      program =
          ap (λ (k : WorldValue). k.world.client.client.program) new
          ∙ (ap (λ (w : World). w.client.client.program) (sym (after_can e l.world (can e l.world) refl may))
          ∙ run_same (e ∷ []) l.world);
      window =
          ap (λ (k : WorldValue). k.world.client.client.window) new
          ∙ (ap (λ (w : World). w.client.client.window) (sym (after_can e l.world (can e l.world) refl may))
          ∙ run_window (e ∷ []) l.world);
    }

pub same_behind : (l m : WorldValue) (e : Event) (r : Result (Unit {0}) WorldFault) → HappensIf r (can e l.world)
    → Leads r l m (with_world l (happens e l.world)) → IsSameKind l m
same_behind l m e (Ok u) may leads = same_kind l m e may.0 leads.0
same_behind l m e (Err fault) may leads = record {
  setup = ap (λ (k : WorldValue). k.setup) leads.1;
  program = ap (λ (k : WorldValue). k.world.client.client.program) leads.1;
  window = ap (λ (k : WorldValue). k.world.client.client.window) leads.1;
}

-- after any list of events
pub same_run : (es : List Event) (l m : WorldValue) → m ≡ with_world l (run_of es l.world) → IsSameKind l m
same_run es l m is = record {
  setup = ap (λ (k : WorldValue). k.setup) is;
  program = ap (λ (k : WorldValue). k.world.client.client.program) is ∙ run_same es l.world;
  window = ap (λ (k : WorldValue). k.world.client.client.window) is ∙ run_window es l.world;
}

pub same_then : (l k m : WorldValue) → IsSameKind l k → IsSameKind k m → IsSameKind l m
same_then l k m first then = record {
  setup = then.setup ∙ first.setup;
  program = then.program ∙ first.program;
  window = then.window ∙ first.window;
}
