-- Rounded fractions: halves up without a sign is nearest and away from zero with one, and there is one nearest number.
use Rattle.fixed_um.proofs.Names.{◌*ℤ◌, ◌*◌, ◌+ℤ◌, ◌+◌, ◌-ℤ◌, ◌-◌, ◌<ℤ◌, ◌<◌, ◌^◌, ◌∙◌, ◌≡◌, ◌≤ℤ◌, ◌≤◌, ◌⊎◌, ap, arith, Bool, by_lt_z, cases_lt}
use Rattle.fixed_um.proofs.Names.{false, IfNone, IfSome, inl, inr, ints, IsRounded, mul-le-mul_right, negsuc, None, one-le-pow, Option, pos, pow-add}
use Rattle.fixed_um.proofs.Names.{refl, RoundsUp, signed, Some, SomeIff, subst, suc, sym, true, unsigned_abs, zero, ℕ, ℤ}
use Rattle.std.proofs.Math.IntN.{negsuc-*ℤ-pos, pos-*ℤ-pos}

-- the product of a number with a sign
signed-product : (negative : Bool) (m b : ℕ) → signed negative m *ℤ pos b ≡ signed negative (m * b)
signed-product false m b = pos-*ℤ-pos m b
signed-product true zero b = omega (arith, ints)
signed-product true (suc m) b = negsuc-*ℤ-pos m b

pub abs-signed : (negative : Bool) (m : ℕ) → unsigned_abs (signed negative m) ≡ m
abs-signed false m = refl
abs-signed true zero = refl
abs-signed true (suc m) = refl

-- p is nearest to a in steps of b
near_is : (negative : Bool) (a b p : ℕ) (r : ℤ) → r ≡ signed negative p → 2 * a < 2 * p + b → 2 * p ≤ 2 * a + b
    → 2 * unsigned_abs (r -ℤ signed negative a) ≤ b
near_is false a b p r e low high = omega (arith, ints)
near_is true a b p r e low high = omega (arith, ints)

half_is : (negative : Bool) (a b p : ℕ) (r : ℤ) → r ≡ signed negative p → 2 * a < 2 * p + b → 2 * unsigned_abs (r -ℤ signed negative a) ≡ b
    → unsigned_abs (signed negative a) ≤ unsigned_abs r
half_is false a b p r e low h = omega (arith, ints)
half_is true a b p r e low h = omega (arith, ints)

pub rounded_signed : (negative : Bool) (a b m : ℕ) → RoundsUp a b m → IsRounded (signed negative a) b (signed negative m)
rounded_signed negative a b m h =
    let low : 2 * a < 2 * (m * b) + b = omega (arith, h.below) in
    let high : 2 * (m * b) ≤ 2 * a + b = omega (arith, h.above) in
    record {
      near = near_is negative a b (m * b) _ (signed-product negative m b) low high;
      half = half_is negative a b (m * b) _ (signed-product negative m b) low;
    }

-- a fraction that is a whole number
pub rounds_exact : (m b : ℕ) → 0 < b → RoundsUp (m * b) b m
rounds_exact m b some = record { below = omega (arith, some); above = omega arith }

-- a common factor changes nothing
pub rounds_scaled : (a b m c : ℕ) → 0 < c → RoundsUp a b m → RoundsUp (a * c) (b * c) m
rounds_scaled a b m c some h =
    record {
      below = omega (arith, mul-le-mul_right c h.below, some);
      above = omega (arith, mul-le-mul_right c h.above);
    }

-- two multiples of b, at least b apart, are not both nearest to a
abbrev Side : ℤ → ℤ → ℕ → Type 0
Side p q b = (pos 0 ≤ℤ p) ⊎ ((q ≤ℤ pos 0) ⊎ ((p +ℤ pos (2 * b)) ≤ℤ q))

not_both : (a p q : ℤ) (b : ℕ) → 0 < b → (p +ℤ pos b) ≤ℤ q → Side p q b → 2 * unsigned_abs (p -ℤ a) ≤ b
    → (2 * unsigned_abs (p -ℤ a) ≡ b → unsigned_abs a ≤ unsigned_abs p) → 2 * unsigned_abs (q -ℤ a) ≤ b
    → (2 * unsigned_abs (q -ℤ a) ≡ b → unsigned_abs a ≤ unsigned_abs q) → ⊥
not_both a p q b some gap side f half_p g half_q =
    let tie_p : 2 * unsigned_abs (p -ℤ a) ≡ b = omega (arith, ints) in
    let tie_q : 2 * unsigned_abs (q -ℤ a) ≡ b = omega (arith, ints) in
    let near_p = half_p tie_p in
    let near_q = half_q tie_q in
    elim side [ inl h ↦ omega (arith, ints) | inr rest ↦ elim rest [ inl h ↦ omega (arith, ints) | inr h ↦ omega (arith, ints) ] ]

-- multiples of b keep their order, with b between them
record Apart (r s : ℤ) (b : ℕ) : Type 0 where
  gap : (r *ℤ pos b +ℤ pos b) ≤ℤ (s *ℤ pos b)
  side : Side (r *ℤ pos b) (s *ℤ pos b) b

apart : (r s : ℤ) (b : ℕ) → r <ℤ s → Apart r s b
apart (pos m) (pos n) b lt =
    let p = pos-*ℤ-pos m b in
    let q = pos-*ℤ-pos n b in
    let wide : suc m * b ≤ n * b = mul-le-mul_right b (omega (arith, ints)) in
    record { gap = omega (arith, ints, p, q, wide); side = inl (omega (arith, ints, p)) }
apart (pos m) (negsuc n) b lt = absurd (omega (arith, ints))
apart (negsuc m) (pos n) b lt =
    let p = negsuc-*ℤ-pos m b in
    let q = pos-*ℤ-pos n b in
    elim (cases_lt 0 n) [
      | inl some ↦
          let wide : 1 * b ≤ n * b = mul-le-mul_right b (omega arith) in
          record { gap = omega (arith, ints, p, q, wide); side = inr (inr (omega (arith, ints, p, q, wide))) }
      | inr none ↦
          let zero_n : n * b ≡ 0 * b = ap (λ (k : ℕ). k * b) (omega arith) in
          record { gap = omega (arith, ints, p, q, zero_n); side = inr (inl (omega (arith, ints, p, q, zero_n))) }
    ]
apart (negsuc m) (negsuc n) b lt =
    let p = negsuc-*ℤ-pos m b in
    let q = negsuc-*ℤ-pos n b in
    let wide : suc (suc n) * b ≤ suc m * b = mul-le-mul_right b (omega (arith, ints)) in
    record { gap = omega (arith, ints, p, q, wide); side = inr (inl (omega (arith, ints, p, q))) }

below : (a : ℤ) (b : ℕ) (r s : ℤ) → 0 < b → IsRounded a b r → IsRounded a b s → r <ℤ s → ⊥
below a b r s some f g lt =
    let h = apart r s b lt in
    not_both a (r *ℤ pos b) (s *ℤ pos b) b some h.gap h.side f.near f.half g.near g.half

-- one number is nearest
pub one_rounded : (a : ℤ) (b : ℕ) (r s : ℤ) → 0 < b → IsRounded a b r → IsRounded a b s → r ≡ s
one_rounded a b r s some f g =
    by_lt_z r s (λ lt. absurd (below a b r s some f g lt)) (λ le. by_lt_z s r (λ lt. absurd (below a b s r some g f lt))
    (λ ge. omega (arith, ints)))

-- digits times and divided by powers of ten, by the difference of the two powers alone
ten_pos : (n : ℕ) → 0 < 10 ^ n
ten_pos n = omega (arith, one-le-pow n 10 (omega arith))

pub rounds_down : (digits up down m : ℕ) → up < down → RoundsUp digits (10 ^ (down - up)) m → RoundsUp (digits * 10 ^ up) (10 ^ down) m
rounds_down digits up down m lt h =
    let power : 10 ^ (down - up) * 10 ^ up ≡ 10 ^ down = sym (pow-add 10 (down - up) up) ∙ ap (λ (n : ℕ). 10 ^ n) (omega arith) in
    subst (λ (b : ℕ). RoundsUp (digits * 10 ^ up) b m) power (rounds_scaled digits (10 ^ (down - up)) m (10 ^ up) (ten_pos up) h)

pub rounds_up : (digits up down : ℕ) → down ≤ up → RoundsUp (digits * 10 ^ up) (10 ^ down) (digits * 10 ^ (up - down))
rounds_up digits up down le =
    let power : 10 ^ (up - down) * 10 ^ down ≡ 10 ^ up = sym (pow-add 10 (up - down) down) ∙ ap (λ (n : ℕ). 10 ^ n) (omega arith) in
    let same : digits * 10 ^ (up - down) * 10 ^ down ≡ digits * 10 ^ up = omega (arith, ap (λ (n : ℕ). digits * n) power) in
    subst (λ (a : ℕ). RoundsUp a (10 ^ down) (digits * 10 ^ (up - down))) same
    (rounds_exact (digits * 10 ^ (up - down)) (10 ^ down) (ten_pos down))

pub scaled_some : (digits up down : ℕ) (o : Option ℕ) → down ≤ up
    → SomeIff o (digits * 10 ^ (up - down) < 2 ^ 128) (digits * 10 ^ (up - down))
    → IfSome o (λ m. RoundsUp (digits * 10 ^ up) (10 ^ down) m)
scaled_some digits up down None le h = tt
scaled_some digits up down (Some m) le h = subst (λ (n : ℕ). RoundsUp (digits * 10 ^ up) (10 ^ down) n) (sym h.1)
    (rounds_up digits up down le)

pub scaled_none : (digits up down : ℕ) (o : Option ℕ) → down ≤ up
    → SomeIff o (digits * 10 ^ (up - down) < 2 ^ 128) (digits * 10 ^ (up - down))
    → IfNone o ((m : ℕ) × RoundsUp (digits * 10 ^ up) (10 ^ down) m × (2 ^ 128 ≤ m))
scaled_none digits up down (Some m) le h = tt
scaled_none digits up down None le h = (
  digits * 10 ^ (up - down),
  rounds_up digits up down le,
  elim (cases_lt (digits * 10 ^ (up - down)) (2 ^ 128)) [ inl lt ↦ absurd (h lt) | inr ge ↦ ge ],
)

-- ---- in one machine word

pub raised-ge : (digits zeros : ℕ) → digits ≤ digits * 10 ^ zeros
raised-ge digits zeros =
    let wide : 1 * digits ≤ 10 ^ zeros * digits = mul-le-mul_right digits (one-le-pow zeros 10 (omega arith)) in
    omega (arith, wide)

pub ten_some : (places : ℕ) → 0 < places → 1 < 10 ^ places
ten_some zero some = absurd (omega (arith, some))
ten_some (suc n) some = omega (arith, ten_pos n)

pub raised_some : (digits up down limit : ℕ) (o : Option ℕ) → down ≤ up
    → SomeIff o (digits * 10 ^ (up - down) ≤ limit) (digits * 10 ^ (up - down))
    → IfSome o (λ m. (m ≤ limit) × RoundsUp (digits * 10 ^ up) (10 ^ down) m)
raised_some digits up down limit None le h = tt
raised_some digits up down limit (Some m) le h = (
  omega (arith, h.0, h.1),
  subst (λ (n : ℕ). RoundsUp (digits * 10 ^ up) (10 ^ down) n) (sym h.1) (rounds_up digits up down le),
)

pub raised_none : (digits up down limit : ℕ) (o : Option ℕ) → down ≤ up
    → SomeIff o (digits * 10 ^ (up - down) ≤ limit) (digits * 10 ^ (up - down))
    → IfNone o ((m : ℕ) × RoundsUp (digits * 10 ^ up) (10 ^ down) m × (limit < m))
raised_none digits up down limit (Some m) le h = tt
raised_none digits up down limit None le h = (
  digits * 10 ^ (up - down),
  rounds_up digits up down le,
  elim (cases_lt limit (digits * 10 ^ (up - down))) [ inl past ↦ past | inr within ↦ absurd (h within) ],
)
