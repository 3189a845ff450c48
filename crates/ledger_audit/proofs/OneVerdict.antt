-- A verdict is the only one.
use Rattle.ledger_audit.proofs.Names.{[], ◌<◌, ◌∷◌, ◌≡◌, ◌≤◌, ◌⊎◌, Act, AreAtMost, AreFewestUnsound, arith, cases_lt, Feature, inl, inr, List, refl}
use Rattle.ledger_audit.proofs.Names.{Wanted, ℕ}

-- numbers that are at most others, which are at most them, are the same
pub at_most_same : (starts others : List ℕ) → AreAtMost starts others → AreAtMost others starts → starts ≡ others
at_most_same [] [] h g = refl
at_most_same [] (o ∷ others) h g = absurd h
at_most_same (s ∷ starts) [] h g = absurd h
at_most_same (s ∷ starts) (o ∷ others) h g =
    let head : s ≡ o = omega (arith, h.0, g.0) in
    let tail : starts ≡ others = at_most_same starts others h.1 g.1 in cc

-- the count of the fewest features that are not sound is unique
pub fewest_same : (ws : List Wanted) (fs : List Feature) (l : List (ℕ × Act)) (j k : ℕ) → AreFewestUnsound ws fs l j
    → AreFewestUnsound ws fs l k → j ≡ k
fewest_same ws fs l j k h g = at (cases_lt j k) (cases_lt k j)
  where
    at : (j < k) ⊎ (k ≤ j) → (k < j) ⊎ (j ≤ k) → j ≡ k
    at (inl lt) other = absurd (h.unsound (g.before j lt))
    at (inr le) (inl lt) = absurd (g.unsound (h.before k lt))
    at (inr le) (inr ge) = omega arith
