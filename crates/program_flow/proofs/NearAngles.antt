-- Sines, cosines and angles in other units are near to the true ones.
use Rattle.std.proofs.Common.{◌≡◌, ℕ, zero, suc, ◌+◌, ◌*◌, ◌^◌, ◌<◌, ◌≤◌, Bool, true, false, not, refl, sym, ap, subst, arith, mul-le-mul_right}
use Rattle.std.specs.Prelude.{ℤ, pos, negsuc, int_lt, nat_le, nat_lt, unsigned_abs, Result, Ok, Err, if◌then◌else◌}
use Rattle.std.proofs.Math.Nat.{le_of_mul-le-mul_right}
use Rattle.std.proofs.lemmas.Bool.{leb-true, leb-false}
use Rattle.fixed_um.specs.Computed.{rounded}
use Rattle.program_flow.specs.Angles.{cosine, cosine_from, decimal_of, distance, in_degrees, in_radians, is_negative, series, sine, sine_from}
use Rattle.program_flow.specs.Nearness.{Balance, IsCosine, IsHardlyPast, IsInDegrees, IsInRadians, IsSine, balance, sided, times}
use Rattle.program_flow.specs.Numbers.{Fraction, IsBounded, opposite, reduced, signed}
use Rattle.program_flow.specs.declared.faults.ValueFault.{ValueFault}
use Rattle.program_flow.specs.declared.faults.ValueFault.TheVariants.{PastBound}
use Rattle.program_flow.proofs.Divisors.{from-zero, reduced-same}
use Rattle.program_flow.proofs.Series.{IsFloor, IsNear, div-high, div-low, error, near, near_next}

-- a is r units of 10 ^ -12, or as many below zero
pub record IsMade (negative : Bool) (r : ℕ) (a : Balance) : Type 0 where
  pub plus : a.plus * 10 ^ 12 ≡ (if negative then 0 else r) * a.under
  pub minus : a.minus * 10 ^ 12 ≡ (if negative then r else 0) * a.under
  pub some : 0 < a.under

sided-made : (s negative : Bool) (o r u : ℕ) → o * 10 ^ 12 ≡ r * u → 0 < u → (negative ≡ false → s ≡ false) → (negative ≡ true → s ≡ false → o ≡ 0)
    → IsMade negative r (sided s o u)
sided-made false false o r u e some f g = record { plus = e; minus = omega arith; some = some }
sided-made true false o r u e some f g = absurd (let h = f refl in cc)
sided-made false true o r u e some f g = let z = g refl refl in record { plus = omega (arith, z); minus = omega (arith, z, e); some = some }
sided-made true true o r u e some f g = record { plus = omega arith; minus = e; some = some }

nothing : (o r u : ℕ) → o * 10 ^ 12 ≡ r * u → r ≡ 0 → o ≡ 0
nothing o r u e z = let f : r * u ≡ 0 * u = ap (λ x. x * u) z in omega (arith, e, f)

pub made-from : (negative : Bool) (r : ℕ) (d : Fraction) → reduced (signed negative r) (10 ^ 12) ≡ Ok d → IsMade negative r (balance d)
made-from false r d e = let h = reduced-same (pos r) (10 ^ 12) d (omega arith) e in
    sided-made _ false _ _ _ h.same h.some (λ f. h.sign (from-zero r)) (λ f. absurd cc)
made-from true zero d e = let h = reduced-same (pos 0) (10 ^ 12) d (omega arith) e in
    sided-made _ true _ _ _ h.same h.some (λ f. absurd cc) (λ f g. nothing _ 0 d.under h.same refl)
made-from true (suc r) d e = let h = reduced-same (negsuc r) (10 ^ 12) d (omega arith) e in
    sided-made _ true _ _ _ h.same h.some (λ f. absurd cc) (λ f g. h.turned refl g)

-- the balance of the opposite
swapped-pos : (n u : ℕ) → balance (record { over = pos n; under = u }) ≡ record { plus = n; minus = 0; under = u }
swapped-pos n u = ap (λ s. sided s n u) (from-zero n)

swapped : (negative : Bool) (r m n u : ℕ) → IsMade (not negative) r (record { plus = m; minus = n; under = u })
    → IsMade negative r (record { plus = n; minus = m; under = u })
swapped false r m n u h = record { plus = h.minus; minus = h.plus; some = h.some }
swapped true r m n u h = record { plus = h.minus; minus = h.plus; some = h.some }

turned-back : (negative : Bool) (r : ℕ) (z : ℤ) (u : ℕ) → IsMade (not negative) r (balance (record { over = z; under = u }))
    → IsMade negative r (balance (opposite (record { over = z; under = u })))
turned-back negative r (pos zero) u h = swapped negative r 0 0 u h
turned-back negative r (pos (suc n)) u h = swapped negative r (suc n) 0 u (subst (λ a. IsMade (not negative) r a) (swapped-pos (suc n) u) h)
turned-back negative r (negsuc n) u h = subst (λ a. IsMade negative r a) (sym (swapped-pos (suc n) u)) (swapped negative r 0 (suc n) u h)

pub turned-made : (f d : Fraction) (r : ℕ) (negative b : Bool) → int_lt f.over (pos 0) ≡ b → IsMade (if b then not negative else negative) r (balance d)
    → IsMade negative r (balance (if b then opposite d else d))
turned-made f d r negative false e h = h
turned-made f d r negative true e h = turned-back negative r d.over d.under h

sign-made : (b : Bool) (r : ℕ) (a : Balance) → IsMade b r a → IsMade (if b then not false else false) r a
sign-made true r a h = h
sign-made false r a h = h

rounded-low : (n m : ℕ) → 2 * (rounded n m * m) ≤ 2 * n + m
rounded-low n m = let a = div-low (2 * n + m) (2 * m) in omega (arith, a)

rounded-high : (n m : ℕ) → 0 < m → 2 * n ≤ 2 * (rounded n m * m) + m
rounded-high n m some = let a = div-high (2 * n + m) (2 * m) (omega (arith, some)) in omega (arith, a)

pub record IsRounded (r n m : ℕ) : Type 0 where
  pub low : 2 * (r * m) ≤ 2 * n + m
  pub high : 2 * n ≤ 2 * (r * m) + m

pub rounds : (n m : ℕ) → 0 < m → IsRounded (rounded n m) n m
rounds n m some = record { low = rounded-low n m; high = rounded-high n m some }

core-up : (p q r n s t e x y d : ℕ) → s ≡ t + n → 2 * (n * p) ≤ 2 * (r * (q * 10 ^ 5)) + q * 10 ^ 5 → p * e ≤ q * 50000 → IsFloor e s x d → IsFloor e t y d
    → p * x * 10 ^ 12 ≤ r * (q * d) + p * y * 10 ^ 12 + q * d
core-up p q r n s t e x y d apart round little f g =
    let a : 10 ^ 17 * x * p ≤ (s + e) * d * p = mul-le-mul_right p f.high in let b : t * d * p ≤ 10 ^ 17 * y * p = mul-le-mul_right p g.low in
    let c : 2 * (n * p) * d ≤ (2 * (r * (q * 10 ^ 5)) + q * 10 ^ 5) * d = mul-le-mul_right d round in
    let l : p * e * d ≤ q * 50000 * d = mul-le-mul_right d little in let w : s * (d * p) ≡ (t + n) * (d * p) = ap (λ v. v * (d * p)) apart in
    omega (arith, a, b, c, l, w)

core-down : (p q r n s t e x y d : ℕ) → s ≡ t + n → 2 * (r * (q * 10 ^ 5)) ≤ 2 * (n * p) + q * 10 ^ 5 → p * e ≤ q * 50000 → IsFloor e s x d → IsFloor e t y d
    → r * (q * d) + p * y * 10 ^ 12 ≤ p * x * 10 ^ 12 + q * d
core-down p q r n s t e x y d apart round little f g =
    let a : s * d * p ≤ 10 ^ 17 * x * p = mul-le-mul_right p f.low in let b : 10 ^ 17 * y * p ≤ (t + e) * d * p = mul-le-mul_right p g.high in
    let c : 2 * (r * (q * 10 ^ 5)) * d ≤ (2 * (n * p) + q * 10 ^ 5) * d = mul-le-mul_right d round in
    let l : p * e * d ≤ q * 50000 * d = mul-le-mul_right d little in let w : s * (d * p) ≡ (t + n) * (d * p) = ap (λ v. v * (d * p)) apart in
    omega (arith, a, b, c, l, w)

-- neither is past the other by more than a unit of 10 ^ -12
pub record IsBoth (a b : Balance) : Type 0 where
  pub up : IsHardlyPast a b
  pub down : IsHardlyPast b a

both-plus : (x y v r : ℕ) (a : Balance) → a.plus * 10 ^ 12 ≡ r * a.under → a.minus * 10 ^ 12 ≡ 0 * a.under
    → x * 10 ^ 12 ≤ r * v + y * 10 ^ 12 + v → r * v + y * 10 ^ 12 ≤ x * 10 ^ 12 + v → IsBoth (record { plus = x; minus = y; under = v }) a
both-plus x y v r a plus minus up down =
    let m : a.plus * 10 ^ 12 * v ≡ r * a.under * v = ap (λ z. z * v) plus in let o : a.minus * 10 ^ 12 * v ≡ 0 * a.under * v = ap (λ z. z * v) minus in
    let s : x * 10 ^ 12 * a.under ≤ (r * v + y * 10 ^ 12 + v) * a.under = mul-le-mul_right a.under up in
    let t : (r * v + y * 10 ^ 12) * a.under ≤ (x * 10 ^ 12 + v) * a.under = mul-le-mul_right a.under down in
    record { up = record { little = omega (arith, m, o, s) }; down = record { little = omega (arith, m, o, t) } }

both-minus : (x y v r : ℕ) (a : Balance) → a.plus * 10 ^ 12 ≡ 0 * a.under → a.minus * 10 ^ 12 ≡ r * a.under
    → y * 10 ^ 12 ≤ r * v + x * 10 ^ 12 + v → r * v + x * 10 ^ 12 ≤ y * 10 ^ 12 + v → IsBoth (record { plus = x; minus = y; under = v }) a
both-minus x y v r a plus minus up down =
    let m : a.minus * 10 ^ 12 * v ≡ r * a.under * v = ap (λ z. z * v) minus in let o : a.plus * 10 ^ 12 * v ≡ 0 * a.under * v = ap (λ z. z * v) plus in
    let s : y * 10 ^ 12 * a.under ≤ (r * v + x * 10 ^ 12 + v) * a.under = mul-le-mul_right a.under up in
    let t : (r * v + x * 10 ^ 12) * a.under ≤ (y * 10 ^ 12 + v) * a.under = mul-le-mul_right a.under down in
    record { up = record { little = omega (arith, m, o, t) }; down = record { little = omega (arith, m, o, s) } }

near-both : (p q r e : ℕ) (negative : Bool) (h : ℕ × ℕ) (s a : Balance) → IsMade negative r a → nat_lt h.0 h.1 ≡ negative
    → IsRounded r (distance h * p) (q * 10 ^ 5) → p * e ≤ q * 50000 → IsNear e h s → IsBoth (times p q s) a
near-both p q r e false h s a made sign round little n =
    let o : h.1 < suc h.0 = leb-false _ _ sign in let apart : h.0 ≡ h.1 + distance h = omega (arith, o) in
    both-plus _ _ (q * s.under) r a made.plus made.minus
    (core-up p q r (distance h) h.0 h.1 e s.plus s.minus s.under apart round.high little n.plus n.minus)
    (core-down p q r (distance h) h.0 h.1 e s.plus s.minus s.under apart round.low little n.plus n.minus)
near-both p q r e true h s a made sign round little n =
    let o : h.0 < h.1 = leb-true _ _ sign in let apart : h.1 ≡ h.0 + distance h = omega (arith, o) in
    both-minus _ _ (q * s.under) r a made.plus made.minus
    (core-up p q r (distance h) h.1 h.0 e s.minus s.plus s.under apart round.high little n.minus n.plus)
    (core-down p q r (distance h) h.1 h.0 e s.minus s.plus s.under apart round.low little n.minus n.plus)

once : (s a : Balance) → IsBoth (times 1 1 s) a → IsBoth s a
once s a h = let b = h.up.little in let c = h.down.little in record { up = record { little = omega (arith, b) }; down = record { little = omega (arith, c) } }

pub limited : (limit : ℕ) (b : Bool) (f d : Fraction) (value : Result Fraction ValueFault) → nat_le (unsigned_abs f.over) (f.under * limit) ≡ b
    → (if b then value else Err PastBound) ≡ Ok d → (unsigned_abs f.over ≤ f.under * limit) × (value ≡ Ok d)
limited limit true f d value t e = (leb-true _ _ t, e)
limited limit false f d value t e = absurd cc

cosine-by : (f d : Fraction) → 0 < f.under → unsigned_abs f.over ≤ f.under * 7 → cosine_from (series (unsigned_abs f.over) f.under 20 1) ≡ Ok d → IsCosine f d
cosine-by f d some ratio e =
    let p = unsigned_abs f.over in let h = series p f.under 20 1 in let r = rounded (distance h) (10 ^ 5) in
    let made = made-from (is_negative h) r d e in let g = rounds (distance h) (10 ^ 5) (omega arith) in
    let round : IsRounded r (distance h * 1) (1 * 10 ^ 5) = record { low = (let a = g.low in omega (arith, a)); high = (let a = g.high in omega (arith, a)) } in
    let less : 1 * error 20 1 ≤ 1 * 50000 = omega arith in
    record {
      pairs = 10;
      within = record {
        below = (once _ _ (near-both 1 1 r (error 20 1) _ h _ _ made refl round less (near p f.under 20 1 some (omega arith) ratio))).up;
        above = (once _ _ (near-both 1 1 r (error 20 1) _ h _ _ made refl round less (near_next p f.under 20 1 some (omega arith) ratio))).down;
      };
    }

pub cosine-near : (f d : Fraction) → IsBounded f → cosine f ≡ Ok d → IsCosine f d
unfolding cosine
cosine-near f d h e = let g = limited 7 _ f d _ refl e in cosine-by f d h.some g.0 g.1

sine-by : (f d : Fraction) → 0 < f.under → unsigned_abs f.over ≤ f.under * 7 → sine_from f (series (unsigned_abs f.over) f.under 20 2) ≡ Ok d → IsSine f d
sine-by f d some ratio e =
    let p = unsigned_abs f.over in let q = f.under in let h = series p q 20 2 in let r = rounded (distance h * p) (q * 10 ^ 5) in
    let made = turned-made f d r (is_negative h) _ refl (made-from _ r d e) in
    let round : IsRounded r (distance h * p) (q * 10 ^ 5) = rounds (distance h * p) (q * 10 ^ 5) (omega (arith, some)) in
    let less : p * error 20 2 ≤ q * 50000 = omega (arith, ratio) in
    record {
      pairs = 10;
      within = record {
        below = (near-both p q r (error 20 2) _ h _ _ made refl round less (near p q 20 2 some (omega arith) ratio)).up;
        above = (near-both p q r (error 20 2) _ h _ _ made refl round less (near_next p q 20 2 some (omega arith) ratio)).down;
      };
    }

pub sine-near : (f d : Fraction) → IsBounded f → sine f ≡ Ok d → IsSine f d
unfolding sine
sine-near f d h e = let g = limited 7 _ f d _ refl e in sine-by f d h.some g.0 g.1

-- a product with a factor k / (10 ^ 12 t) that is near to u / n
scaled-both : (p q r k t u n e : ℕ) (a : Balance) → IsMade false r a → IsRounded r (p * k) (q * t) → p ≤ q * 1000000 → 0 < t → u * 10 ^ 12 * t ≤ k * n + e
    → k * n ≤ u * 10 ^ 12 * t + e → 2000000 * e ≤ t * n → IsBoth (times p q (sided false u n)) a
scaled-both p q r k t u n e a made round ratio some over below little =
    let s : u * 10 ^ 12 * t * p ≤ (k * n + e) * p = mul-le-mul_right p over in let v : k * n * p ≤ (u * 10 ^ 12 * t + e) * p = mul-le-mul_right p below in
    let w : p * e ≤ q * 1000000 * e = mul-le-mul_right e ratio in let l : 2000000 * e * q ≤ t * n * q = mul-le-mul_right q little in
    let x : 2 * (r * (q * t)) * n ≤ (2 * (p * k) + q * t) * n = mul-le-mul_right n round.low in
    let y : 2 * (p * k) * n ≤ (2 * (r * (q * t)) + q * t) * n = mul-le-mul_right n round.high in
    both-plus _ _ (q * n) r a made.plus made.minus (le_of_mul-le-mul_right {k = t} (omega (arith, s, w, l, y)) some)
    (le_of_mul-le-mul_right {k = t} (omega (arith, v, w, l, x)) some)

radians-by : (f d : Fraction) → 0 < f.under → unsigned_abs f.over ≤ f.under * 1000000
    → decimal_of (int_lt f.over (pos 0)) (unsigned_abs f.over * 17453292519943295769) (f.under * 10 ^ 9) ≡ Ok d → IsInRadians f d
radians-by f d some ratio e =
    let p = unsigned_abs f.over in let q = f.under in let k : ℕ = 17453292519943295769 in let r = rounded (p * k) (q * 10 ^ 9) in
    let made = turned-made f d r false _ refl (sign-made (int_lt f.over (pos 0)) r (balance d) (made-from _ r d e)) in
    let round : IsRounded r (p * k) (q * 10 ^ 9) = rounds (p * k) (q * 10 ^ 9) (omega (arith, some)) in record {
      below = (scaled-both p q r k (10 ^ 9) 314159265358979323847 (180 * 10 ^ 20) (5 * 10 ^ 21) _ made round ratio (omega arith) (omega arith) (omega arith) (omega arith)).up;
      above = (scaled-both p q r k (10 ^ 9) 314159265358979323846 (180 * 10 ^ 20) (5 * 10 ^ 21) _ made round ratio (omega arith) (omega arith) (omega arith) (omega arith)).down;
    }

pub radians-near : (f d : Fraction) → IsBounded f → in_radians f ≡ Ok d → IsInRadians f d
unfolding in_radians
radians-near f d h e = let g = limited 1000000 _ f d _ refl e in radians-by f d h.some g.0 g.1

degrees-by : (f d : Fraction) → 0 < f.under → unsigned_abs f.over ≤ f.under * 1000000
    → decimal_of (int_lt f.over (pos 0)) (unsigned_abs f.over * 57295779513082320877) (f.under * 10 ^ 6) ≡ Ok d → IsInDegrees f d
degrees-by f d some ratio e =
    let p = unsigned_abs f.over in let q = f.under in let k : ℕ = 57295779513082320877 in let r = rounded (p * k) (q * 10 ^ 6) in
    let made = turned-made f d r false _ refl (sign-made (int_lt f.over (pos 0)) r (balance d) (made-from _ r d e)) in
    let round : IsRounded r (p * k) (q * 10 ^ 6) = rounds (p * k) (q * 10 ^ 6) (omega (arith, some)) in record {
      below = (scaled-both p q r k (10 ^ 6) (180 * 10 ^ 20) 314159265358979323846 (15 * 10 ^ 19) _ made round ratio (omega arith) (omega arith) (omega arith) (omega arith)).up;
      above = (scaled-both p q r k (10 ^ 6) (180 * 10 ^ 20) 314159265358979323847 (15 * 10 ^ 19) _ made round ratio (omega arith) (omega arith) (omega arith) (omega arith)).down;
    }

pub degrees-near : (f d : Fraction) → IsBounded f → in_degrees f ≡ Ok d → IsInDegrees f d
unfolding in_degrees
degrees-near f d h e = let g = limited 1000000 _ f d _ refl e in degrees-by f d h.some g.0 g.1
