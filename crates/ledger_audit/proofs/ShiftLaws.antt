-- The least shifts of touches against themselves, one count after the other.
use Rattle.ledger_audit.proofs.Names.{[], ◌++◌, ◌+◌, ◌-◌, ◌<◌, ◌∙◌, ◌∷◌, ◌≡◌, ◌≤◌, ◌⊎◌, ap, AreShifts, arith, cases_lt, get_or, inl, inr, IsCandidate}
use Rattle.ledger_audit.proofs.Names.{IsLeastShift, LastMeets, length, length-append, List, Meets, Option, Probed, subst, sym, ℕ}
use Rattle.std.proofs.Math.ListN.{get_or-append}
use Rattle.std.proofs.Math.Seq.{get_or-append_seam}

-- touches moved past their end meet themselves, so that the least shift is no more
pub shift_most : (x : ℕ → Option Probed) (count shift : ℕ) → IsLeastShift x count shift → shift ≤ count + 1
shift_most x count shift h = at (cases_lt (count + 1) shift)
  where
    at : (count + 1 < shift) ⊎ (shift ≤ count + 1) → shift ≤ count + 1
    at (inl lt) = absurd (h.least (count + 1) (omega arith) lt (record { each = λ k below. absurd (omega arith) }))
    at (inr le) = le

-- the first candidate
pub candidate_first : (x : ℕ → Option Probed) → IsCandidate x 0 1
candidate_first x = record {
  some = omega arith;
  meets = λ k lt. absurd (omega arith);
  none = λ other some lt m. absurd (omega arith);
}

-- if the last touch meets an equal one, the candidate is the least
pub candidate_is : (x : ℕ → Option Probed) (count shift : ℕ) → IsCandidate x count shift → LastMeets x count shift
    → IsLeastShift x count shift
candidate_is x count shift h last = record {
  some = h.some;
  meets = record { each = λ k lt. at k lt (cases_lt (shift + k + 1) count) };
  least = h.none;
}
  where
    at : (k : ℕ) → shift + k < count → (shift + k + 1 < count) ⊎ (count ≤ shift + k + 1) → x (shift + k) ≡ x k
    at k lt (inl under) = h.meets k under
    at k lt (inr over) = last.last k (omega arith)

-- it is then the candidate for one more touch
pub candidate_next : (x : ℕ → Option Probed) (count shift : ℕ) → IsLeastShift x count shift → IsCandidate x (count + 1) shift
candidate_next x count shift h = record {
  some = h.some;
  meets = λ k lt. h.meets.each k (omega arith);
  none = λ other some lt m. h.least other some lt (record { each = λ k below. m.each k (omega arith) });
}

-- a shift between a refused candidate and the next one would make the touches that the candidate serves meet by less than the least
between_refused : (x : ℕ → Option Probed) (count shift rest more other : ℕ) → IsCandidate x count shift → (LastMeets x count shift → ⊥)
    → shift + rest + 1 ≡ count → IsLeastShift x rest more → shift ≤ other → other < shift + more → Meets x count other → ⊥
between_refused x count shift rest more other h not e l from lt m = at (cases_lt shift other)
  where
    at : (shift < other) ⊎ (other ≤ shift) → ⊥
    at (inr same) = not (record { last = λ k is. let one : shift + k ≡ other + k = omega arith in ap x one ∙ m.each k (omega arith) })
    at (inl above) = l.least (other - shift) (omega arith) (omega arith) (record {
      each = λ k below.
          let far : x (shift + (other - shift + k)) ≡ x (other - shift + k) = h.meets (other - shift + k) (omega arith) in
          let one : shift + (other - shift + k) ≡ other + k = omega arith in
          sym far ∙ ap x one ∙ m.each k (omega arith);
    })

-- if it meets another one, the next candidate is further by the least shift of the touches that still met
pub candidate_moved : (x : ℕ → Option Probed) (count shift rest more : ℕ) → IsCandidate x count shift → (LastMeets x count shift → ⊥)
    → shift + rest + 1 ≡ count → IsLeastShift x rest more → IsCandidate x count (shift + more)
candidate_moved x count shift rest more h not e l = record {
  some = omega (arith, h.some);
  meets = λ k lt.
      let far : x (shift + (more + k)) ≡ x (more + k) = h.meets (more + k) (omega arith) in
      let near : x (more + k) ≡ x k = l.meets.each k (omega arith) in
      let one : shift + more + k ≡ shift + (more + k) = omega arith in
      ap x one ∙ far ∙ near;
  none = λ other some lt m. at other some lt m (cases_lt other shift);
}
  where
    at : (other : ℕ) → 1 ≤ other → other < shift + more → Meets x count other → (other < shift) ⊎ (shift ≤ other) → ⊥
    at other some lt m (inl under) = h.none other some under m
    at other some lt m (inr over) = between_refused x count shift rest more other h not e l over lt m

-- one more least shift
pub shifts_push : (x : ℕ → Option Probed) (shifts : List ℕ) (shift : ℕ) → AreShifts x shifts → IsLeastShift x (length shifts) shift
    → AreShifts x (shifts ++ shift ∷ [])
shifts_push x shifts shift h new = record { each = λ count lt. at count lt (cases_lt count (length shifts)) }
  where
    at : (count : ℕ) → count < length (shifts ++ shift ∷ []) → (count < length shifts) ⊎ (length shifts ≤ count)
        → IsLeastShift x count (get_or (shifts ++ shift ∷ []) count 0)
    at count lt (inl under) =
        subst (λ (d : ℕ). IsLeastShift x count d) (sym (get_or-append shifts (shift ∷ []) 0 count under)) (h.each count under)
    at count lt (inr over) =
        let is : length shifts ≡ count = omega (arith, length-append shifts (shift ∷ [])) in
        subst (λ (c : ℕ). IsLeastShift x c (get_or (shifts ++ shift ∷ []) c 0)) is
        (subst (λ (d : ℕ). IsLeastShift x (length shifts) d) (sym (get_or-append_seam shifts shift [] 0)) new)
