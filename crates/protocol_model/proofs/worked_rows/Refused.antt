-- What the claim refuses.
use Rattle.protocol_model.proofs.Names.{[], ◌+◌, ◌∷◌, ◌≡◌, ◌≤◌, alike, alike_features, alike_wanted, ap, AreRuns, arith, at, drop, List, made}
use Rattle.protocol_model.proofs.Names.{MadeContact, Point, pos, Serves, suc, take, Touch, twice_features, twice_wanted, unsigned_abs, zero, ℕ}

-- one contact has none after it
none_behind : (n k : ℕ) (t : Touch) (p : Point) (m : MadeContact) → Serves n (t ∷ []) (p ∷ []) (take 1 (drop (suc k) (m ∷ []))) → ⊥
none_behind n zero t p m h = h
none_behind n (suc k) t p m h = h

-- nor does a run that begins after it have any
second_start : (s n t : ℕ) → s + 1 ≤ t → Serves n (alike ∷ []) (at (pos 10002) (pos 0) (pos 0) ∷ []) (take 1 (drop t (made 10002 ∷ []))) → ⊥
second_start s n zero l h = absurd (omega arith)
second_start s n (suc k) l h = none_behind n k alike (at (pos 10002) (pos 0) (pos 0)) (made 10002) h

-- one contact does not serve two features
pub one_contact_serves_once : (starts : List ℕ) → AreRuns alike_wanted alike_features starts 0 (made 10002 ∷ []) → ⊥
one_contact_serves_once [] h = h
one_contact_serves_once (s ∷ []) h = h.2
one_contact_serves_once (s ∷ t ∷ more) h = second_start s h.2.1.connection t h.2.0 h.2.1.serves

-- of three contacts the first and the last do not follow one another
two_of_three : (n s : ℕ) → Serves n (alike ∷ alike ∷ []) (at (pos 10002) (pos 0) (pos 0) ∷ at (pos 10004) (pos 0) (pos 0) ∷ [])
    (take 2 (drop s (made 10002 ∷ made 10003 ∷ made 10004 ∷ []))) → ⊥
two_of_three n zero h = let e : ◌≡◌ {A = ℕ} 10003 10004 = ap (λ (q : Point). unsigned_abs q.x) h.1.0.point_is in absurd (omega arith)
two_of_three n (suc zero) h = let e : ◌≡◌ {A = ℕ} 10003 10002 = ap (λ (q : Point). unsigned_abs q.x) h.0.point_is in absurd (omega arith)
two_of_three n (suc (suc zero)) h = h.1
two_of_three n (suc (suc (suc zero))) h = h
two_of_three n (suc (suc (suc (suc k)))) h = h

-- no contact within a run is left out
pub no_contact_is_left_out : (starts : List ℕ) → AreRuns twice_wanted twice_features starts 0 (made 10002 ∷ made 10003 ∷ made 10004 ∷ [])
    → ⊥
no_contact_is_left_out [] h = h
no_contact_is_left_out (s ∷ starts) h = two_of_three h.1.connection s h.1.serves
