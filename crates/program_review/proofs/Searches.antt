-- The first of ascending numbers that passes a test.
use Rattle.program_review.proofs.Outside.{◌+◌, ◌-◌, ◌<◌, ◌∙◌, ◌≡◌, ◌≤◌, ap, arith, Bool, cond, false, false≢true, find, None, Option, range_with_len}
use Rattle.program_review.proofs.Outside.{refl, Some, suc, sym, true, zero, ℕ}

not_first : (p : ℕ → Bool) (from at : ℕ) → p from ≡ true → ((k : ℕ) → from ≤ k → k < at → p k ≡ false) → from < at → ⊥
not_first p from at e below l = false≢true (sym (below from (omega arith) l) ∙ e)

not_here : (p : ℕ → Bool) (from at : ℕ) → p from ≡ false → p at ≡ true → from ≡ at → ⊥
not_here p from at e t q = false≢true (sym e ∙ (ap p q ∙ t))

first_step : (p : ℕ → Bool) (b : Bool) (from at : ℕ) (o : Option ℕ) → p from ≡ b → from ≤ at → ((k : ℕ) → from ≤ k → k < at → p k ≡ false)
    → p at ≡ true → (from + 1 ≤ at → o ≡ Some at) → cond b (Some from) o ≡ Some at
first_step p true from at o e h below t r = let n = not_first p from at e below in ap Some (omega (arith, n))
first_step p false from at o e h below t r = let n = not_here p from at e t in r (omega (arith, n))

-- the first place of all is the one before which none passes
pub found_first : (p : ℕ → Bool) (n from at : ℕ) → from ≤ at → at < from + n → ((k : ℕ) → from ≤ k → k < at → p k ≡ false) → p at ≡ true
    → find p (range_with_len from n) ≡ Some at
found_first p zero from at h l below t = absurd (omega arith)
found_first p (suc n) from at h l below t = first_step p (p from) from at (find p (range_with_len (from + 1) n)) refl h below t
    (λ g. found_first p n (from + 1) at g (omega arith) (λ k a b. below k (omega arith) b) t)

none_step : (b : Bool) (from : ℕ) (o : Option ℕ) → b ≡ false → o ≡ None → cond b (Some from) o ≡ None
none_step true from o e f = absurd (false≢true (sym e))
none_step false from o e f = f

-- none passes
pub found_none : (p : ℕ → Bool) (n from : ℕ) → ((k : ℕ) → from ≤ k → k < from + n → p k ≡ false) → find p (range_with_len from n) ≡ None
found_none p zero from below = refl
found_none p (suc n) from below = none_step (p from) from (find p (range_with_len (from + 1) n)) (below from (omega arith) (omega arith))
    (found_none p n (from + 1) (λ k a b. below k (omega arith) (omega arith)))
