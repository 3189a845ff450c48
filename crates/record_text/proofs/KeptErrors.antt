-- What is kept of an error are its first bytes, whole, and as many as fit.
use Rattle.record_text.proofs.Names.{[], ◌++◌, ◌+◌, ◌-◌, ◌<◌, ◌∷◌, ◌≡◌, ◌≤◌, ap, arith, Bool, cond, false, fitting, flat_map, inl, inr, IsFitting}
use Rattle.record_text.proofs.Names.{length, length-append, List, nat_le, nat_tests, refl, suc, take, true, ℕ}
use Rattle.session_telling.specs.Visible.{visible}

has_room : (n m : ℕ) → nat_le n m ≡ true → n ≤ m
has_room n m h = grind (arith, nat_tests)

has_none : (n m : ℕ) → nat_le n m ≡ false → m < n
has_none n m h = grind (arith, nat_tests)

one_more_fits : (m n few all : ℕ) → n ≤ m → few ≤ m - n → all ≡ n + few → all ≤ m
one_more_fits m n few all room h e = omega (arith, room, h, e)

one_more_is_cut : (m n more all : ℕ) → m - n < more → all ≡ n + more → m < all
one_more_is_cut m n more all h e = omega (arith, h, e)

alone_is_cut : (m n all : ℕ) → m < n → all ≡ n + 0 → m < all
alone_is_cut m n all h e = omega (arith, h, e)

first_fits : (m b : ℕ) (bytes : List ℕ) (room : Bool) → nat_le (length (visible b)) m ≡ room
    → IsFitting (m - length (visible b)) bytes (fitting (m - length (visible b)) bytes)
    → IsFitting m (b ∷ bytes) (cond room (visible b ++ fitting (m - length (visible b)) bytes) [])
first_fits m b bytes true room h = record {
  count = suc h.count;
  whole = ap (λ (kept : List ℕ). visible b ++ kept) h.whole;
  few = one_more_fits m (length (visible b)) _ _ (has_room (length (visible b)) m room) h.few
      (length-append (visible b) (fitting (m - length (visible b)) bytes));
  all = elim h.all [
    | inl none ↦ inl (omega (arith, none))
    | inr more ↦ inr (one_more_is_cut m (length (visible b)) _ _ more
        (length-append (visible b) (flat_map visible (take (suc h.count) bytes))))
  ];
}
first_fits m b bytes false room h = record {
  count = 0;
  whole = refl;
  few = omega arith;
  all = inr (alone_is_cut m (length (visible b)) _ (has_none (length (visible b)) m room) (length-append (visible b) []));
}

pub fits : (m : ℕ) (text : List ℕ) → IsFitting m text (fitting m text)
fits m [] = record { count = 0; whole = refl; few = omega arith; all = inl (omega arith) }
fits m (b ∷ bytes) = first_fits m b bytes (nat_le (length (visible b)) m) refl (fits (m - length (visible b)) bytes)
