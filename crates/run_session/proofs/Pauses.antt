-- A pause ends.
use Rattle.run_session.proofs.Names.{[], May, ◌++◌, ◌+◌, ◌∷◌, ◌≡◌, ◌≤◌, confirms, drop, held, length, List, Pair, Ran, subst, sym, take, ℕ}
use Rattle.run_session.specs.Errors.{Talk}

pub pause_ends : (ps new : List ℕ) (p : Pair) (t : Talk) → new ≡ take 0 ps ++ drop (0 + 1) ps
    → length p.end.client.table.tally.todo ≤ held ps → (b : May) (first : Pair) (v : Talk) → Ran b first v ps p t → Ran b first v new p t
pause_ends [] new p t is few b first v ran = subst (λ (l : List ℕ). Ran b first v l p t) (sym is) ran
pause_ends (x ∷ ps) new p t is few b first v ran = subst (λ (l : List ℕ). Ran b first v l p t) (sym is) (confirms x ps p t ran few)
