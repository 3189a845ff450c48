-- A list of events with one more at its end.
use Rattle.link_world.proofs.Names.{[], ◌++◌, ◌+◌, ◌<◌, ◌∙◌, ◌∷◌, ◌≡◌, ◌≤◌, ap, arith, can, Event, false, Happened, happened, happens, HasRun, length}
use Rattle.link_world.proofs.Names.{List, Refused, refused, slice_index_or, subst, suc, sym, take, take_all, take_more, takes_memory, true, Wanting}
use Rattle.link_world.proofs.Names.{wanting, World, ℕ}
use Rattle.link_world.specs.Runs.{Answer, Follows}

-- one event with its answer
abbrev Led : World → Event → Answer → World → Type 0
Led w e a v = Follows w (e ∷ []) (a ∷ []) v

leads_more : (w u v : World) (es : List Event) (xs : List Answer) (e : Event) (a : Answer) → Follows w es xs u
    → Led u e a v → Follows w (es ++ e ∷ []) (xs ++ a ∷ []) v
leads_more w u v [] [] e a h one = subst (λ (x : World). Led x e a v) h one
leads_more w u v [] (b ∷ xs) e a h one = absurd h
leads_more w u v (f ∷ es) [] e a h one = absurd h
leads_more w u v (f ∷ es) (Happened ∷ xs) e a h one = (h.0, leads_more (happens f w) u v es xs e a h.1 one)
leads_more w u v (f ∷ es) (Refused ∷ xs) e a h one = (h.0, leads_more w u v es xs e a h.1 one)
leads_more w u v (f ∷ es) (Wanting ∷ xs) e a h one = (h.0, h.1, leads_more w u v es xs e a h.2 one)

happened_more : (xs : List Answer) (a : Answer) → happened (xs ++ a ∷ []) ≡ happened xs + happened (a ∷ [])
happened_more [] a = omega arith
happened_more (Happened ∷ xs) a = ap suc (happened_more xs a) ∙ omega arith
happened_more (Refused ∷ xs) a = happened_more xs a
happened_more (Wanting ∷ xs) a = happened_more xs a

refused_more : (xs : List Answer) (a : Answer) → refused (xs ++ a ∷ []) ≡ refused xs + refused (a ∷ [])
refused_more [] a = omega arith
refused_more (Happened ∷ xs) a = refused_more xs a
refused_more (Refused ∷ xs) a = ap suc (refused_more xs a) ∙ omega arith
refused_more (Wanting ∷ xs) a = refused_more xs a

wanting_more : (xs : List Answer) (a : Answer) → wanting (xs ++ a ∷ []) ≡ wanting xs + wanting (a ∷ [])
wanting_more [] a = omega arith
wanting_more (Happened ∷ xs) a = wanting_more xs a
wanting_more (Refused ∷ xs) a = wanting_more xs a
wanting_more (Wanting ∷ xs) a = ap suc (wanting_more xs a) ∙ omega arith

more : (w u v : World) (events : List Event) (i : ℕ) (e : Event) (a : Answer) (done not_now memory : ℕ)
    → i < length events → e ≡ slice_index_or events i e
    → HasRun w (take i events) u done not_now memory → Led u e a v
    → HasRun w (take (i + 1) events) v (done + happened (a ∷ [])) (not_now + refused (a ∷ [])) (memory + wanting (a ∷ []))
more w u v events i e a done not_now memory short is h one = record {
  answers = h.answers ++ a ∷ [];
  leads = subst (λ (es : List Event). Follows w es (h.answers ++ a ∷ []) v) (sym next)
      (leads_more w u v (take i events) h.answers e a h.leads one);
  done_are = happened_more h.answers a ∙ ap (λ (n : ℕ). n + happened (a ∷ [])) h.done_are;
  not_now_are = refused_more h.answers a ∙ ap (λ (n : ℕ). n + refused (a ∷ [])) h.not_now_are;
  memory_are = wanting_more h.answers a ∙ ap (λ (n : ℕ). n + wanting (a ∷ [])) h.memory_are;
}
  where
    next : take (i + 1) events ≡ take i events ++ e ∷ []
    next = take_more events i e short ∙ ap (λ (x : Event). take i events ++ x ∷ []) (sym is)

nothing_more : (n : ℕ) → n + 0 ≡ n
nothing_more n = omega arith

pub ran_ok : (w u v : World) (events : List Event) (i : ℕ) (e : Event) (done not_now memory : ℕ) → i < length events
    → e ≡ slice_index_or events i e
    → HasRun w (take i events) u done not_now memory → can e u ≡ true → v ≡ happens e u
    → HasRun w (take (i + 1) events) v (done + 1) not_now memory
ran_ok w u v events i e done not_now memory short is h may so =
    subst (λ (n : ℕ). HasRun w (take (i + 1) events) v (done + 1) n memory) (nothing_more not_now)
    (subst (λ (n : ℕ). HasRun w (take (i + 1) events) v (done + 1) (not_now + 0) n) (nothing_more memory)
    (more w u v events i e Happened done not_now memory short is h (may, so)))

pub ran_refused : (w u v : World) (events : List Event) (i : ℕ) (e : Event) (done not_now memory : ℕ)
    → i < length events → e ≡ slice_index_or events i e
    → HasRun w (take i events) u done not_now memory → can e u ≡ false → v ≡ u
    → HasRun w (take (i + 1) events) v done (not_now + 1) memory
ran_refused w u v events i e done not_now memory short is h may so =
    subst (λ (n : ℕ). HasRun w (take (i + 1) events) v n (not_now + 1) memory) (nothing_more done)
    (subst (λ (n : ℕ). HasRun w (take (i + 1) events) v (done + 0) (not_now + 1) n) (nothing_more memory)
    (more w u v events i e Refused done not_now memory short is h (may, so)))

pub ran_wanting : (w u v : World) (events : List Event) (i : ℕ) (e : Event) (done not_now memory : ℕ)
    → i < length events → e ≡ slice_index_or events i e
    → HasRun w (take i events) u done not_now memory → takes_memory e ≡ true → can e u ≡ true → v ≡ u
    → HasRun w (take (i + 1) events) v done not_now (memory + 1)
ran_wanting w u v events i e done not_now memory short is h takes may so =
    subst (λ (n : ℕ). HasRun w (take (i + 1) events) v n not_now (memory + 1)) (nothing_more done)
    (subst (λ (n : ℕ). HasRun w (take (i + 1) events) v (done + 0) n (memory + 1)) (nothing_more not_now)
    (more w u v events i e Wanting done not_now memory short is h (takes, may, so)))

-- after the last event
pub ran_all : (w v : World) (events : List Event) (i done not_now memory : ℕ) → length events ≤ i
    → HasRun w (take i events) v done not_now memory → HasRun w events v done not_now memory
ran_all w v events i done not_now memory all h = subst (λ (es : List Event). HasRun w es v done not_now memory)
    (take_all i events all) h
