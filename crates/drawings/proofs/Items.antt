-- A list from one of its items on.
use Rattle.std.proofs.Common.{◌≡◌, sym, refl, add-one, arith, ℕ, ◌+◌, ◌<◌, ◌≤◌, List, [], ◌∷◌, length, length-drop, drop, get_or}
use Rattle.std.proofs.Math.Seq.{drop-cons}

pub drop_item : {A : Type 0} (i : ℕ) (xs : List A) (x : A) → i < length xs → x ≡ get_or xs i x → drop i xs ≡ x ∷ drop (i + 1) xs
drop_item i xs x h e = rw (← sym e) (rw (add-one, drop-cons xs i x) refl)

pub no_items : {A : Type 0} (xs : List A) → length xs < 1 → xs ≡ []
no_items [] h = refl
no_items (x ∷ xs) h = absurd (omega arith)

pub drop_past : {A : Type 0} (i : ℕ) (xs : List A) → length xs ≤ i → drop i xs ≡ []
drop_past i xs h = let e = length-drop i xs in no_items (drop i xs) (omega (arith, e))
