-- What fixed_um's readers answer, as the functions of the definitions give it.
use Rattle.dmis_program.proofs.Names.{◌&&◌, ◌∙◌, ◌≡◌, and_parts, ap, BadNumeral, Bool, component_limit, Decides-int_eq, Direction, Err, false, inl}
use Rattle.dmis_program.proofs.Names.{inr, is_zero_direction, IsDirection, List, None, numeral_refused, NumeralFault, Ok, Option, pos, Reads}
use Rattle.dmis_program.proofs.Names.{ReadsDirection, refl, Refusal, Result, Some, sym, true, unsigned_abs, value_of, value_of-is, volume_limit}
use Rattle.dmis_program.proofs.Names.{ZeroVector, ℕ, ℤ}
use Rattle.std.specs.Ordering.{int_eq}
use Rattle.dmis_program.specs.Positions.{component_of, direction_of, length_of}

pub length_of-is : (text : List ℕ) (limit : ℤ) (r : Result ℤ NumeralFault) → limit ≡ pos volume_limit → Reads 3 (unsigned_abs limit) text r
    → length_of text ≡ numeral_refused r
unfolding length_of
length_of-is text limit r e h = ap (λ (n : ℤ). numeral_refused {A = ℤ} (value_of 3 (unsigned_abs n) text)) (sym e)
    ∙ ap (numeral_refused {A = ℤ}) (value_of-is 3 (unsigned_abs limit) text r h)

pub component_of-is : (text : List ℕ) (r : Result ℤ NumeralFault) → Reads 6 component_limit text r → component_of text ≡ numeral_refused r
unfolding component_of
component_of-is text r h = ap (numeral_refused {A = ℤ}) (value_of-is 6 component_limit text r h)

-- a direction as it is read: none is the zero vector
abbrev pub read_direction : Result (Option Direction) NumeralFault → Result Direction Refusal
read_direction (Ok (Some d)) = Ok d
read_direction (Ok None) = Err ZeroVector
read_direction (Err fault) = Err (BadNumeral fault)

is_false : (b : Bool) → (b ≡ true → ⊥) → b ≡ false
is_false true h = absurd (h refl)
is_false false h = refl

-- what is no zero vector passes the test
pub not_zero_is : (d : Direction) → IsDirection d → is_zero_direction d ≡ false
not_zero_is d h =
    is_false (is_zero_direction d) (λ t.
    let p = and_parts (int_eq d.i (pos 0)) (int_eq d.j (pos 0) && int_eq d.k (pos 0)) t in
    let q = and_parts (int_eq d.j (pos 0)) (int_eq d.k (pos 0)) p.1 in
    h.not_zero ((Decides-int_eq d.i (pos 0)).0 p.0) ((Decides-int_eq d.j (pos 0)).0 q.0) ((Decides-int_eq d.k (pos 0)).0 q.1))

pub direction_of-is : (i j k : List ℕ) (r : Result (Option Direction) NumeralFault) → ReadsDirection i j k r
    → direction_of i j k ≡ read_direction r
unfolding direction_of
direction_of-is i j k (Ok (Some d)) h = rw (
  component_of-is i (Ok d.i) h.0,
  component_of-is j (Ok d.j) h.1,
  component_of-is k (Ok d.k) h.2,
  not_zero_is d h.3,
) refl
direction_of-is i j k (Ok None) h = rw (
  component_of-is i (Ok (pos 0)) h.0,
  component_of-is j (Ok (pos 0)) h.1,
  component_of-is k (Ok (pos 0)) h.2,
) refl
direction_of-is i j k (Err e) (inl h) = rw (component_of-is i (Err e) h) refl
direction_of-is i j k (Err e) (inr (inl h)) = rw (component_of-is i (Ok h.0) h.1, component_of-is j (Err e) h.2) refl
direction_of-is i j k (Err e) (inr (inr h)) = rw (
  component_of-is i (Ok h.0) h.2,
  component_of-is j (Ok h.1) h.3,
  component_of-is k (Err e) h.4,
) refl
