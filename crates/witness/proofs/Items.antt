-- A list from one of its items on.
use Rattle.std.proofs.Common.{◌≡◌, sym, refl, add-one, ℕ, ◌+◌, ◌<◌, List, ◌∷◌, length, drop, get_or}
use Rattle.std.proofs.Math.Seq.{drop-cons}

pub drop_item : {A : Type 0} (i : ℕ) (xs : List A) (x : A) → i < length xs → x ≡ get_or xs i x → drop i xs ≡ x ∷ drop (i + 1) xs
drop_item i xs x h e = rw (← sym e) (rw (add-one, drop-cons xs i x) refl)
