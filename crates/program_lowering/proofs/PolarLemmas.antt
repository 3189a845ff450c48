-- The Cartesian place of a polar point is near to where it is.
use Rattle.std.proofs.Common.{◌≡◌, ℕ, zero, suc, ◌+◌, ◌*◌, ◌^◌, ◌<◌, ◌≤◌, Bool, true, false, List, [], ◌∷◌, Option, Some, None, Result, Ok, Err}
use Rattle.std.proofs.Common.{ℤ, pos, negsuc, refl, sym, ap, ◌∙◌, subst, arith, mul-le-mul, mul-le-mul_right}
use Rattle.std.specs.Prelude.{codes, option_map, ◌==◌, int_lt, neg_ℤ, unsigned_abs, ◌*ℤ◌, if◌then◌else◌}
use Rattle.std.specs.Result.{result_ok}
use Rattle.std.proofs.Math.Nat.{le_of_mul-le-mul_right, le_refl}
use Rattle.fixed_um.specs.Computed.{rounded}
use Rattle.program_flow.proofs.Divisors.{from-zero, reduced-same}
use Rattle.program_flow.proofs.NearAngles.{cosine-near, radians-near, sine-near}
use Rattle.program_flow.proofs.Series.{div-high, div-low}
use Rattle.program_flow.specs.Angles.{cosine, sine}
use Rattle.program_flow.specs.Nearness.{Balance, IsHardlyPast, IsWithin, balance, partial_sum, pi_lower, pi_upper, sided, times, turned_with}
use Rattle.program_flow.specs.Numbers.{Fraction, IsBounded, nearest_millionth, opposite, quotient, reduced, rounded_product, signed, whole_number}
use Rattle.program_flow.specs.declared.faults.ValueFault.{ValueFault}
use Rattle.program_flow.specs.declared.faults.ValueFault.TheVariants.{PastBound}
use Rattle.program_lowering.specs.Cartesian.{◌>>=◌, Triple, angle_in, degrees_by, in_plane, minutes_by, number_in, parted, polar, polar_in, radians, signed_degrees, with_sixtieths}
use Rattle.program_lowering.specs.PolarNearness.{IsAround, IsCloseTo, IsNearPolar, IsPastBy, IsTurn, by_cosine, by_sine, in_axes}
use Rattle.program_lowering.specs.declared.cartesian.AngleUnit.{AngleUnit}
use Rattle.program_lowering.specs.declared.cartesian.AngleUnit.TheVariants.{Degrees, Radians, Sexagesimal}
use Rattle.program_lowering.specs.declared.cartesian.Plane.{Plane}
use Rattle.program_lowering.specs.declared.cartesian.Plane.TheVariants.{Xy, Yz, Zx}
use Rattle.program_lowering.specs.declared.cartesian.Reference.{Reference}
use Rattle.program_lowering.proofs.ValueBounds.{cosine-bounded, from-ok, mul-some, number-bounded, opposite-bounded, quotient-bounded, radians-bounded, sine-bounded, sum-bounded}

some-ok : (r : Result Fraction ValueFault) (f : Fraction) → result_ok r ≡ Some f → r ≡ Ok f
some-ok (Ok g) f e = cc
some-ok (Err fault) f e = absurd cc

-- what two steps, one after the other, come from
bind : {A B : Type 0} (o : Option A) (next : A → Option B) (y : B) (P : Type 0) → ((x : A) → o ≡ Some x → next x ≡ Some y → P)
    → (o >>= next) ≡ Some y → P
bind (Some x) next y P h e = h x refl e
bind None next y P h e = absurd cc

unless-none : (b : Bool) (o : Option Fraction) (y : Fraction) → (if b then o else None) ≡ Some y → o ≡ Some y
unless-none true o y e = e
unless-none false o y e = absurd cc

either-number : (b : Bool) (o p : Option Fraction) (y : Fraction) → (o ≡ Some y → IsBounded y) → (p ≡ Some y → IsBounded y)
    → (if b then o else p) ≡ Some y → IsBounded y
either-number true o p y f g e = f e
either-number false o p y f g e = g e

sixtieths-bounded : (whole : List ℕ) (part : Option Fraction) (y : Fraction) → ((g : Fraction) → part ≡ Some g → IsBounded g)
    → with_sixtieths whole part ≡ Some y → IsBounded y
sixtieths-bounded whole part y h e = bind (number_in whole) _ y _ (λ f a. bind part _ y _ (λ g b. bind (number_in (codes "60")) _ y _ (λ n c.
    bind (result_ok (quotient g n)) _ y _ (λ q d last.
    let one = from-ok _ q (quotient-bounded g n (h g b) (number-bounded _ n c)) d in from-ok _ y (sum-bounded f q (number-bounded whole f a) one) last)))) e

minutes-bounded : (text : List ℕ) (at : Option (List ℕ × List ℕ)) (y : Fraction) → minutes_by text at ≡ Some y → IsBounded y
minutes-bounded text None y e = number-bounded text y (unless-none _ _ y e)
minutes-bounded text (Some p) y e = sixtieths-bounded p.0 _ y (λ g h. number-bounded p.1 g (unless-none _ _ g h)) (unless-none _ _ y e)

degrees-bounded : (at : Option (List ℕ × List ℕ)) (y : Fraction) → degrees_by at ≡ Some y → IsBounded y
degrees-bounded None y e = absurd cc
degrees-bounded (Some p) y e = sixtieths-bounded p.0 _ y (λ g h. minutes-bounded p.1 (parted 58 p.1) g h) (unless-none _ _ y e)

turned-bounded : (o : Option Fraction) (y : Fraction) → ((f : Fraction) → o ≡ Some f → IsBounded f) → option_map opposite o ≡ Some y → IsBounded y
turned-bounded None y h e = absurd cc
turned-bounded (Some f) y h e = let same : opposite f ≡ y = cc in subst (λ x. IsBounded x) same (opposite-bounded f (h f refl))

signed-bounded : (text : List ℕ) (y : Fraction) → signed_degrees text ≡ Some y → IsBounded y
signed-bounded [] y e = absurd cc
signed-bounded (c ∷ cs) y e = either-number (c == 45) _ _ y (turned-bounded _ y (λ f h. degrees-bounded (parted 58 cs) f h)) (degrees-bounded (parted 58 (c ∷ cs)) y) e

angle-bounded : (unit : AngleUnit) (text : List ℕ) (y : Fraction) → angle_in unit text ≡ Some y → IsBounded y
angle-bounded Degrees text y e = number-bounded text y e
angle-bounded Radians text y e = number-bounded text y e
angle-bounded Sexagesimal text y e = either-number _ _ _ y (signed-bounded text y) (number-bounded text y) e

numbers-bounded : (unit : AngleUnit) (r a h : List ℕ) (t : Triple) → polar_in unit r a h ≡ Some t → IsBounded t.0 × IsBounded t.1
numbers-bounded unit r a h t e = bind (number_in r) _ t _ (λ x f. bind (angle_in unit a) _ t _ (λ y g. bind (number_in h) _ t _ (λ z k last.
    let same : (x, y, z) ≡ t = cc in subst (λ u. IsBounded u.0 × IsBounded u.1) same (number-bounded r x f, angle-bounded unit a y g)))) e

-- each within half a millionth of the other
record IsHalf (a b : Balance) : Type 0 where
  up : IsPastBy 1 2000000 a b
  down : IsPastBy 1 2000000 b a

abbrev swapped : Balance → Balance
swapped a = record { plus = a.minus; minus = a.plus; under = a.under }

half-swapped : (a b : Balance) → IsHalf a b → IsHalf (swapped a) (swapped b)
half-swapped a b h = let u = h.up.little in let d = h.down.little in
    record { up = record { little = omega (arith, d) }; down = record { little = omega (arith, u) } }

half-plus : (r n m o u : ℕ) → o * 1000000 ≡ r * u → 2 * (r * m) ≤ 2 * (n * 1000000) + m → 2 * (n * 1000000) ≤ 2 * (r * m) + m
    → IsHalf (record { plus = n; minus = 0; under = m }) (record { plus = o; minus = 0; under = u })
half-plus r n m o u e low high =
    let a : 2 * (r * m) * u ≤ (2 * (n * 1000000) + m) * u = mul-le-mul_right u low in
    let b : 2 * (n * 1000000) * u ≤ (2 * (r * m) + m) * u = mul-le-mul_right u high in let f : o * 1000000 * m ≡ r * u * m = ap (λ x. x * m) e in
    record { up = record { little = omega (arith, b, f) }; down = record { little = omega (arith, a, f) } }

half-sided : (s b : Bool) (r n m o u : ℕ) → o * 1000000 ≡ r * u → 2 * (r * m) ≤ 2 * (n * 1000000) + m → 2 * (n * 1000000) ≤ 2 * (r * m) + m
    → (b ≡ false → s ≡ false) → (b ≡ true → s ≡ false → o ≡ 0) → IsHalf (sided b n m) (sided s o u)
half-sided false false r n m o u e low high f g = half-plus r n m o u e low high
half-sided true false r n m o u e low high f g = absurd (let h = f refl in cc)
half-sided true true r n m o u e low high f g = half-swapped _ _ (half-plus r n m o u e low high)
half-sided false true r n m o u e low high f g = let z = g refl refl in let h = half-plus r n m o u e low high in
    subst (λ x. IsHalf (sided true n m) (sided false x u)) (sym z)
    (half-swapped _ _ (subst (λ x. IsHalf (sided false n m) (sided false x u)) z h))

half-made : (b : Bool) (r n m : ℕ) (x : Fraction) → 2 * (r * m) ≤ 2 * (n * 1000000) + m → 2 * (n * 1000000) ≤ 2 * (r * m) + m
    → reduced (signed b r) 1000000 ≡ Ok x → IsHalf (sided b n m) (balance x)
half-made false r n m x low high e = let h = reduced-same (pos r) 1000000 x (omega arith) e in
    half-sided _ false r n m _ _ h.same low high (λ f. h.sign (from-zero r)) (λ f. absurd cc)
half-made true zero n m x low high e = let h = reduced-same (pos 0) 1000000 x (omega arith) e in
    let same : unsigned_abs x.over * 1000000 ≡ 0 * x.under = h.same in
    half-sided _ true 0 n m _ _ same low high (λ f. absurd cc) (λ f g. omega (arith, same))
half-made true (suc r) n m x low high e = let h = reduced-same (negsuc r) 1000000 x (omega arith) e in
    half-sided _ true (suc r) n m _ _ h.same low high (λ f. absurd cc) (λ f g. h.turned refl g)

unlimited : (b : Bool) (value : Result Fraction ValueFault) (x : Fraction) → (if b then value else Err PastBound) ≡ Ok x → value ≡ Ok x
unlimited true value x e = e
unlimited false value x e = absurd cc

nearest-half : (a : ℤ) (m : ℕ) (x : Fraction) → 0 < m → nearest_millionth a m ≡ Ok x → IsHalf (balance (record { over = a; under = m })) (balance x)
unfolding nearest_millionth
nearest-half a m x some e = let n = unsigned_abs a in
    let low = div-low (2 * (n * 1000000) + m) (2 * m) in let high = div-high (2 * (n * 1000000) + m) (2 * m) (omega (arith, some)) in
    half-made _ (rounded (n * 1000000) m) n m x (omega (arith, low)) (omega (arith, high)) (unlimited _ _ x e)

-- the balance of a product, by the sign of the first
pos-balance : (n u : ℕ) → balance (record { over = pos n; under = u }) ≡ record { plus = n; minus = 0; under = u }
pos-balance n u = ap (λ s. sided s n u) (from-zero n)

neg-balance : (n u : ℕ) → balance (record { over = neg_ℤ (pos n); under = u }) ≡ record { plus = 0; minus = n; under = u }
neg-balance zero u = refl
neg-balance (suc n) u = refl

no-times : (n m u : ℕ) → ◌≡◌ {A = Balance} (record { plus = n; minus = 0; under = u }) (record { plus = n; minus = m * 0; under = u })
no-times n m u = ap (λ z. record { plus = n; minus = z; under = u }) (omega arith)

times-pos : (a : ℕ) (w : ℤ) (u v : ℕ) → balance (record { over = pos a *ℤ w; under = u * v }) ≡ times a u (balance (record { over = w; under = v }))
times-pos a (pos b) u v = pos-balance (a * b) (u * v) ∙ (no-times (a * b) a (u * v) ∙ ap (λ x. times a u x) (sym (pos-balance b v)))
times-pos a (negsuc b) u v = neg-balance (a * suc b) (u * v) ∙ ap swapped (no-times (a * suc b) a (u * v))

times-neg : (a : ℕ) (w : ℤ) (u v : ℕ)
    → balance (record { over = negsuc a *ℤ w; under = u * v }) ≡ swapped (times (suc a) u (balance (record { over = w; under = v })))
times-neg a (pos b) u v = neg-balance (suc a * b) (u * v)
    ∙ ap swapped (no-times (suc a * b) (suc a) (u * v) ∙ ap (λ x. times (suc a) u x) (sym (pos-balance b v)))
times-neg a (negsuc b) u v = pos-balance (suc a * suc b) (u * v) ∙ no-times (suc a * suc b) (suc a) (u * v)

opposite-balance : (z : ℤ) (u : ℕ) → balance (opposite (record { over = z; under = u })) ≡ swapped (balance (record { over = z; under = u }))
opposite-balance (pos zero) u = refl
opposite-balance (pos (suc n)) u = ap swapped (sym (pos-balance (suc n) u))
opposite-balance (negsuc n) u = pos-balance (suc n) u

half-opposite : (a : Balance) (x : Fraction) → IsHalf a (balance x) → IsHalf (swapped a) (balance (opposite x))
half-opposite a x h = subst (λ b. IsHalf (swapped a) b) (sym (opposite-balance x.over x.under)) (half-swapped _ _ h)

-- the signs of the radius and of the turn are turned on both sides
turned-half : (z w : ℤ) (u v : ℕ) (x : Fraction) → IsHalf (balance (record { over = z *ℤ w; under = u * v })) (balance x)
    → IsHalf (times (unsigned_abs z) u (balance (record { over = w; under = v }))) (balance (turned_with (record { over = z; under = u }) x))
turned-half (pos a) w u v x h = rw (from-zero a) (subst (λ b. IsHalf b (balance x)) (times-pos a w u v) h)
turned-half (negsuc a) w u v x h = half-opposite _ x (subst (λ b. IsHalf b (balance x)) (times-neg a w u v) h)

both-turned : (b : Bool) (n u : ℕ) (s y : Fraction) → IsHalf (times n u (balance s)) (balance y)
    → IsHalf (times n u (balance (if b then opposite s else s))) (balance (if b then opposite y else y))
both-turned false n u s y h = h
both-turned true n u s y h = subst (λ a. IsHalf (times n u a) (balance (opposite y))) (sym (opposite-balance s.over s.under)) (half-opposite _ y h)

-- half a millionth, and 10 ^ -12 of the radius n / u, is at most over / under
abbrev IsRoom : ℕ → ℕ → ℕ → ℕ → Type 0
IsRoom over under n u = (500000 * u + n) * under ≤ over * (10 ^ 12 * u)

close-up : (over under n u : ℕ) (hi c x : Balance) → 0 < c.under → IsRoom over under n u → IsHardlyPast hi c → IsPastBy 1 2000000 (times n u c) x
    → IsPastBy over under (times n u hi) x
close-up over under n u hi c x some room past half =
    let a : (hi.plus * c.under + c.minus * hi.under) * 10 ^ 12 * (n * x.under)
    ≤ ((c.plus * hi.under + hi.minus * c.under) * 10 ^ 12 + hi.under * c.under) * (n * x.under) = mul-le-mul_right (n * x.under) past.little in
    let b : (n * c.plus * x.under + x.minus * (u * c.under)) * 2000000 * hi.under
    ≤ ((x.plus * (u * c.under) + n * c.minus * x.under) * 2000000 + 1 * (u * c.under * x.under)) * hi.under = mul-le-mul_right hi.under half.little in
    let d : (n * hi.plus * x.under + x.minus * (u * hi.under)) * 10 ^ 12
    ≤ (x.plus * (u * hi.under) + n * hi.minus * x.under) * 10 ^ 12 + (500000 * u + n) * (hi.under * x.under)
    = le_of_mul-le-mul_right {k = c.under} (omega (arith, a, b)) some in
    let e : (n * hi.plus * x.under + x.minus * (u * hi.under)) * 10 ^ 12 * under
    ≤ ((x.plus * (u * hi.under) + n * hi.minus * x.under) * 10 ^ 12 + (500000 * u + n) * (hi.under * x.under)) * under = mul-le-mul_right under d in
    let f : (500000 * u + n) * under * (hi.under * x.under) ≤ over * (10 ^ 12 * u) * (hi.under * x.under) = mul-le-mul_right (hi.under * x.under) room in
    record { little = omega (arith, e, f) }

close-down : (over under n u : ℕ) (lo c x : Balance) → 0 < c.under → IsRoom over under n u → IsHardlyPast c lo → IsPastBy 1 2000000 x (times n u c)
    → IsPastBy over under x (times n u lo)
close-down over under n u lo c x some room past half =
    let h = close-up over under n u (swapped lo) (swapped c) (swapped x) some room
    (record { little = (let p = past.little in omega (arith, p)) }) (record { little = (let p = half.little in omega (arith, p)) }) in
    let l = h.little in record { little = omega (arith, l) }

sided-some : (b : Bool) (n u : ℕ) → 0 < u → 0 < (sided b n u).under
sided-some true n u h = h
sided-some false n u h = h

turned-some : (b : Bool) (x : Fraction) → 0 < x.under → 0 < (if b then opposite x else x).under
turned-some true x h = h
turned-some false x h = h

close : (over under : ℕ) (r c x : Fraction) (lo hi : Balance) → IsRoom over under (unsigned_abs r.over) r.under → 0 < c.under → 0 < x.under
    → IsWithin lo hi (balance c) → IsHalf (times (unsigned_abs r.over) r.under (balance c)) (balance x)
    → IsCloseTo over under (times (unsigned_abs r.over) r.under lo) (times (unsigned_abs r.over) r.under hi) (balance x)
close over under r c x lo hi room some one within half = record {
  some = sided-some _ _ x.under one;
  below = close-up over under _ _ hi (balance c) (balance x) (sided-some _ _ c.under some) room within.below half.up;
  above = close-down over under _ _ lo (balance c) (balance x) (sided-some _ _ c.under some) room within.above half.down;
}

-- a product with the radius, in millionths
record IsProduct (r c x : Fraction) : Type 0 where
  some : 0 < x.under
  half : IsHalf (times (unsigned_abs r.over) r.under (balance c)) (balance (turned_with r x))

product-half : (r c x : Fraction) → 0 < r.under → 0 < c.under → rounded_product r c ≡ Ok x → IsProduct r c x
unfolding nearest_millionth
product-half r c x some one e = record {
  some = (reduced-same _ 1000000 x (omega arith) (unlimited _ _ x e)).some;
  half = turned-half r.over c.over r.under c.under x (nearest-half (r.over *ℤ c.over) _ x (mul-some r.under c.under some one) e);
}

around : (over under : ℕ) (unit : AngleUnit) (t : Triple) (turn c x s y : Fraction) → IsRoom over under (unsigned_abs t.0.over) t.0.under
    → 0 < t.0.under → IsBounded turn → IsTurn unit t.1 turn → result_ok (cosine turn) ≡ Some c → result_ok (rounded_product t.0 c) ≡ Some x
    → result_ok (sine turn) ≡ Some s → result_ok (rounded_product t.0 s) ≡ Some y → IsAround over under unit t (x, y, t.2)
around over under unit t turn c x s y room some within turned e f g h =
    let cos = cosine-near turn c within (some-ok _ c e) in let sin = sine-near turn s within (some-ok _ s g) in let r = t.0 in
    let one = (from-ok _ c (cosine-bounded turn) e).some in let two = (from-ok _ s (sine-bounded turn) g).some in
    let first = product-half r c x some one (some-ok _ x f) in let second = product-half r s y some two (some-ok _ y h) in record {
      turn = turn;
      some = within.some;
      turned = turned;
      cosines = cos.pairs;
      sines = sin.pairs;
      first = close over under r c (turned_with r x) _ _ room one (turned-some _ x first.some) cos.within first.half;
      second = close over under r (turned_with turn s) (turned_with turn (turned_with r y)) _ _ room (turned-some _ s two)
          (turned-some _ (turned_with r y) (turned-some _ y second.some)) sin.within
          (both-turned (int_lt turn.over (pos 0)) (unsigned_abs r.over) r.under s (turned_with r y) second.half);
      height = refl;
    }

turn-near : (unit : AngleUnit) (a turn : Fraction) → IsBounded a → radians unit a ≡ Some turn → IsBounded turn × IsTurn unit a turn
turn-near Degrees a turn h e = (from-ok _ turn (radians-bounded a) e, radians-near a turn h (some-ok _ turn e))
turn-near Sexagesimal a turn h e = (from-ok _ turn (radians-bounded a) e, radians-near a turn h (some-ok _ turn e))
turn-near Radians a turn h e = let same : a ≡ turn = cc in (subst (λ x. IsBounded x) same h, same)

along-axes : (plane : Plane) (x y z : Fraction) → (x, y, z) ≡ in_axes plane (in_plane plane x y z)
along-axes Xy x y z = refl
along-axes Yz x y z = refl
along-axes Zx x y z = refl

taken : {A B : Type 0} (o : Option A) (x : A) (next : A → Option B) (y : B) → o ≡ Some x → (o >>= next) ≡ Some y → next x ≡ Some y
taken (Some z) x next y w e = let same : z ≡ x = cc in subst (λ v. next v ≡ Some y) same e
taken None x next y w e = absurd cc

in-reference : (over under : ℕ) (ref : Reference) (plane : Plane) (t place : Triple) (x y : Fraction) → ref.plane ≡ Some plane
    → Some (in_plane plane x y t.2) ≡ Some place → IsAround over under ref.unit t (x, y, t.2) → IsNearPolar over under ref t place
in-reference over under ref plane t place x y p last h =
    let same : in_plane plane x y t.2 ≡ place = cc in
    rw p (subst (λ w. IsAround over under ref.unit t (in_axes plane w)) same (subst (λ w. IsAround over under ref.unit t w) (along-axes plane x y t.2) h))

pub polar-near : (over under : ℕ) (ref : Reference) (r a h : List ℕ) (rest : List (List ℕ)) (t place : Triple)
    → polar_in ref.unit r a h ≡ Some t → polar ref (r ∷ (a ∷ (h ∷ rest))) ≡ Some place → IsRoom over under (unsigned_abs t.0.over) t.0.under
    → IsNearPolar over under ref t place
polar-near over under ref r a h rest t place written e room =
    let bounded = numbers-bounded ref.unit r a h t written in
    bind ref.plane _ place _ (λ plane p e1. bind (radians ref.unit t.1) _ place _ (λ turn v e3.
    bind (result_ok (cosine turn)) _ place _ (λ c k e4. bind (result_ok (rounded_product t.0 c)) _ place _ (λ x f e5.
    bind (result_ok (sine turn)) _ place _ (λ s l e6. bind (result_ok (rounded_product t.0 s)) _ place _ (λ y g last.
    let near = turn-near ref.unit t.1 turn bounded.1 v in in-reference over under ref plane t place x y p last
    (around over under ref.unit t turn c x s y room bounded.0.some near.0 near.1 k f l g))
    e6) e5) e4) e3) (taken (polar_in ref.unit r a h) t _ place written e1)) e

-- examples: a partial sum for a turn up to 1 is from zero to 1, and that for zero is 1
record IsInUnit (a : Balance) : Type 0 where
  some : 0 < a.under
  low : a.minus ≤ a.plus
  high : a.plus ≤ a.minus + a.under

in-unit : (p q n k : ℕ) → 0 < q → 0 < k → p ≤ q → IsInUnit (partial_sum p q n k)
unfolding partial_sum
in-unit p q zero k some one most = record { some = omega arith; low = omega arith; high = omega arith }
in-unit p q (suc n) k some one most =
    let a = partial_sum p q n (k + 2) in let h = in-unit p q n (k + 2) some (omega arith) most in
    let c = mul-some k (k + 1) one (omega arith) in let d = mul-some (q * q) (k * (k + 1)) (mul-some q q some some) c in
    let l : p * p * a.minus ≤ p * p * a.plus = mul-le-mul (le_refl (p * p)) h.low in
    let m : p * p * a.plus ≤ p * p * (a.minus + a.under) = mul-le-mul (le_refl (p * p)) h.high in
    let u : p * p * a.under ≤ q * q * a.under = mul-le-mul_right a.under (mul-le-mul most most) in
    let v : 1 * (q * q * a.under) ≤ k * (k + 1) * (q * q * a.under) = mul-le-mul_right (q * q * a.under) c in
    record { some = mul-some (q * q * (k * (k + 1))) a.under d h.some; low = omega (arith, m, u, v); high = omega (arith, l) }

whole-sum : (q n k : ℕ) → (partial_sum 0 q n k).plus ≡ (partial_sum 0 q n k).minus + (partial_sum 0 q n k).under
unfolding partial_sum
whole-sum q zero k = refl
whole-sum q (suc n) k = omega arith

abbrev ten : Fraction
ten = whole_number (pos 10)

abbrev millionths : ℕ → Fraction
millionths n = record { over = pos n; under = 1000000 }

unit-at : (angle n k : ℕ) → 0 < k → angle ≤ 1 → IsInUnit (partial_sum angle 1 n k)
unit-at angle n k one most = in-unit angle 1 n k (omega arith) one most

pub no-past : (turn : Fraction) → whole_number (pos 0) ≡ turn → (n : ℕ) → IsPastBy 6 (10 ^ 7) (balance (millionths 10000001)) (by_cosine ten turn n) → ⊥
no-past turn e n h =
    let g = subst (λ f. IsPastBy 6 (10 ^ 7) (balance (millionths 10000001)) (by_cosine ten f n)) (sym e) h in let l = g.little in
    let u = unit-at 0 n 1 (omega arith) (omega arith) in let a = u.high in let b = u.some in omega (arith, l, a, b)

pub no-short : (x : ℕ) (turn : Fraction) → x < 10000000 → whole_number (pos 0) ≡ turn → (n : ℕ)
    → IsPastBy 6 (10 ^ 7) (by_cosine ten turn n) (balance (millionths x)) → ⊥
no-short x turn less e n h =
    let g = subst (λ f. IsPastBy 6 (10 ^ 7) (by_cosine ten f n) (balance (millionths x))) (sym e) h in let l = (rw (pos-balance x 1000000) at g).little in
    let s = partial_sum 0 1 n 1 in let b = (unit-at 0 n 1 (omega arith) (omega arith)).some in let w = whole-sum 1 n 1 in
    let m : x * s.under ≤ 9999999 * s.under = mul-le-mul_right s.under (omega (arith, less)) in omega (arith, l, b, w, m)

pub no-aside : (turn : Fraction) → whole_number (pos 0) ≡ turn → (n : ℕ)
    → IsPastBy 6 (10 ^ 7) (balance (turned_with turn (millionths 1))) (by_sine ten turn n) → ⊥
no-aside turn e n h =
    let g = subst (λ f. IsPastBy 6 (10 ^ 7) (balance (turned_with f (millionths 1))) (by_sine ten f n)) (sym e) h in let l = g.little in
    let b = (unit-at 0 n 2 (omega arith) (omega arith)).some in omega (arith, l, b)

pub no-below : (turn : Fraction) → whole_number (pos 1) ≡ turn → (n : ℕ)
    → IsPastBy 6 (10 ^ 7) (by_sine ten turn n) (balance (turned_with turn (opposite (millionths 8414710)))) → ⊥
no-below turn e n h =
    let g = subst (λ f. IsPastBy 6 (10 ^ 7) (by_sine ten f n) (balance (turned_with f (opposite (millionths 8414710))))) (sym e) h in let l = g.little in
    let u = unit-at 1 n 2 (omega arith) (omega arith) in let a = u.low in let b = u.some in omega (arith, l, a, b)

pub no-degrees : (b : Bool) (p q n : ℕ) → 0 < q
    → IsWithin (times 1 1 (sided false pi_lower (180 * 10 ^ 20))) (times 1 1 (sided false pi_upper (180 * 10 ^ 20))) (sided b p q)
    → IsPastBy 6 (10 ^ 7) (balance (if b then opposite (millionths 8414710) else millionths 8414710)) (times 10 1 (times p q (partial_sum p q n 2))) → ⊥
no-degrees true p q n some w h = let l = w.below.little in omega (arith, l, some)
no-degrees false p q n some w h =
    let t = w.above.little in let s = partial_sum p q n 2 in let less : p * 50 ≤ q = omega (arith, t, some) in
    let u = in-unit p q n 2 some (omega arith) (omega (arith, less)) in let l = h.little in
    let a : p * s.plus ≤ p * (s.minus + s.under) = mul-le-mul (le_refl p) u.high in
    let c : p * 50 * s.under ≤ q * s.under = mul-le-mul_right s.under less in let d = mul-some q s.under some u.some in omega (arith, l, a, c, d)
