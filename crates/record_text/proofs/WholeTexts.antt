-- The whole lines of a text, found from its end.
use Rattle.std.proofs.Common.{◌≡◌, ℕ, zero, suc, ◌+◌, ◌-◌, ◌<◌, ◌≤◌, Bool, true, List, [], ◌∷◌, ◌++◌, length, take, drop, get_or}
use Rattle.std.proofs.Common.{refl, ap, sym, subst, ◌∙◌, arith, inl, inr, not, eqb}
use Rattle.std.specs.List.{list_all}
use Rattle.std.proofs.lemmas.Bool.{ne_eqb}
use Rattle.std.proofs.lemmas.List.{take-append-drop, take_more, drop_all}
use Rattle.record_text.specs.Beginnings.{AreWhole}

-- no line feed
pub record HasNone (torn : List ℕ) : Type 0 where
  pub none : list_all (λ b. not (eqb b 10)) torn ≡ true

pub none_behind : (bytes : List ℕ) (n : ℕ) → length bytes ≤ n → HasNone (drop n bytes)
none_behind bytes n h = record { none = rw (drop_all n bytes h) refl }

drop_suc : (n : ℕ) (xs : List ℕ) → n < length xs → (d : ℕ) → drop n xs ≡ get_or xs n d ∷ drop (suc n) xs
drop_suc n [] h d = absurd (omega arith)
drop_suc zero (y ∷ ys) h d = refl
drop_suc (suc n) (y ∷ ys) h d = drop_suc n ys (omega arith) d

back_one : (n : ℕ) → 0 < n → suc (n - 1) ≡ n
back_one n h = omega (arith, h)

-- one more byte that is no line feed
pub none_more : (bytes : List ℕ) (n : ℕ) → 0 < n → n ≤ length bytes → (get_or bytes (n - 1) 0 ≡ 10 → ⊥) → HasNone (drop n bytes)
    → HasNone (drop (n - 1) bytes)
none_more bytes n low high other h =
    let one = drop_suc (n - 1) bytes (omega (arith, low, high)) 0 in
    let rest : drop (suc (n - 1)) bytes ≡ drop n bytes = ap (λ (k : ℕ). drop k bytes) (back_one n low) in
    let is : eqb (get_or bytes (n - 1) 0) 10 ≡ Bool.false = ne_eqb (get_or bytes (n - 1) 0) 10 other in
    record { none = rw (one, rest, is) h.none }

pub whole_none : (bytes : List ℕ) (n : ℕ) → n ≡ 0 → HasNone (drop n bytes) → AreWhole bytes (take 0 bytes)
whole_none bytes n e h = record {
  ends = inl refl;
  torn = bytes;
  parts = refl;
  none = subst (λ (k : ℕ). list_all (λ b. not (eqb b 10)) (drop k bytes) ≡ true) e h.none;
}

pub whole_at : (bytes : List ℕ) (n : ℕ) → 0 < n → n ≤ length bytes → get_or bytes (n - 1) 0 ≡ 10 → HasNone (drop n bytes)
    → AreWhole bytes (take n bytes)
whole_at bytes n low high e h = record {
  ends = inr (take (n - 1) bytes, last);
  torn = drop n bytes;
  parts = take-append-drop n bytes;
  none = h.none;
}
  where
    sum : n - 1 + 1 ≡ n
    sum = omega (arith, low)

    last : take n bytes ≡ take (n - 1) bytes ++ 10 ∷ []
    last = ap (λ (k : ℕ). take k bytes) (sym sum) ∙ take_more bytes (n - 1) 0 (omega (arith, low, high))
        ∙ ap (λ (b : ℕ). take (n - 1) bytes ++ b ∷ []) e
