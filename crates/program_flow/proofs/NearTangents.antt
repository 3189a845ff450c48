-- Tangents are near to the true ones.
use Rattle.std.proofs.Common.{◌≡◌, ℕ, zero, suc, ◌+◌, ◌*◌, ◌/◌, ◌^◌, ◌<◌, ◌≤◌, Bool, true, false, refl, ap, subst, arith, mul-le-mul, mul-le-mul_right}
use Rattle.std.specs.Prelude.{nat_lt, unsigned_abs, Result, Ok, Err, if◌then◌else◌}
use Rattle.std.proofs.lemmas.Bool.{leb-true, leb-false}
use Rattle.fixed_um.specs.Computed.{rounded}
use Rattle.program_flow.specs.Angles.{differ, distance, is_negative, series, tangent, tangent_from}
use Rattle.program_flow.specs.Nearness.{Balance, IsQuotient, IsTangent, flipped, partial_sum, times}
use Rattle.program_flow.specs.Numbers.{Fraction, IsBounded}
use Rattle.program_flow.specs.declared.faults.ValueFault.{ValueFault}
use Rattle.program_flow.specs.declared.faults.ValueFault.TheVariants.{PastBound}
use Rattle.program_flow.proofs.NearAngles.{IsMade, limited, made-from, rounds, turned-made}
use Rattle.program_flow.proofs.Series.{IsFloor, IsNear, div-high, div-low, divisor-some, error, near, near_next}

-- what is found for p / q: the sine s and the cosine c in units of 10 ^ -17, the sine w in whole ones, and the quotient r in units of 10 ^ -12
record IsFound (p q r w s c e : ℕ) : Type 0 where
  ratio : p * e ≤ q * 819
  low : w * q ≤ s * p
  high : s * p ≤ w * q + q
  down : 2 * (r * c) ≤ 2 * (w * 10 ^ 12) + c
  up : 2 * (w * 10 ^ 12) ≤ 2 * (r * c) + c
  enough : (r + 10 ^ 12) * 2000 ≤ c

middle-up : (p q r w s c e : ℕ) → IsFound p q r w s c e → (s + e) * p * 10 ^ 12 + 863 * ((r + 1) * q) ≤ c * ((r + 1) * q)
middle-up p q r w s c e f =
    let a : 2 * (w * 10 ^ 12) * q ≤ (2 * (r * c) + c) * q = mul-le-mul_right q f.up in
    let b : (r + 10 ^ 12) * 2000 * q ≤ c * q = mul-le-mul_right q f.enough in let g = f.ratio in let h = f.high in omega (arith, a, b, g, h)

middle-down : (p q r w s c e : ℕ) → IsFound p q r w s c e → r * (c + 863) * q + e * p * 10 ^ 12 + 863 * q ≤ s * p * 10 ^ 12 + c * q
middle-down p q r w s c e f =
    let a : 2 * (r * c) * q ≤ (2 * (w * 10 ^ 12) + c) * q = mul-le-mul_right q f.down in
    let b : (r + 10 ^ 12) * 2000 * q ≤ c * q = mul-le-mul_right q f.enough in let g = f.ratio in let h = f.low in omega (arith, a, b, g, h)

core-up : (p q r s c e t x n y u k m v : ℕ) → (s + e) * p * 10 ^ 12 + 863 * ((r + 1) * q) ≤ c * ((r + 1) * q) → IsFloor e (t + s) x u → IsFloor e t n u
    → IsFloor 863 (y + c) k v → IsFloor 863 y m v → p * x * (10 ^ 12 * v) + (r + 1) * m * (q * u) ≤ (r + 1) * k * (q * u) + p * n * (10 ^ 12 * v)
core-up p q r s c e t x n y u k m v middle f g h i =
    let a : 10 ^ 17 * x * (p * (10 ^ 12 * v)) ≤ (t + s + e) * u * (p * (10 ^ 12 * v)) = mul-le-mul_right (p * (10 ^ 12 * v)) f.high in
    let b : t * u * (p * (10 ^ 12 * v)) ≤ 10 ^ 17 * n * (p * (10 ^ 12 * v)) = mul-le-mul_right (p * (10 ^ 12 * v)) g.low in
    let d : (y + c) * v * ((r + 1) * (q * u)) ≤ 10 ^ 17 * k * ((r + 1) * (q * u)) = mul-le-mul_right ((r + 1) * (q * u)) h.low in
    let j : 10 ^ 17 * m * ((r + 1) * (q * u)) ≤ (y + 863) * v * ((r + 1) * (q * u)) = mul-le-mul_right ((r + 1) * (q * u)) i.high in
    let l : ((s + e) * p * 10 ^ 12 + 863 * ((r + 1) * q)) * (u * v) ≤ c * ((r + 1) * q) * (u * v) = mul-le-mul_right (u * v) middle in
    omega (arith, a, b, d, j, l)

core-down : (p q r s c e t x n y u k m v : ℕ) → r * (c + 863) * q + e * p * 10 ^ 12 + 863 * q ≤ s * p * 10 ^ 12 + c * q → IsFloor e (t + s) x u → IsFloor e t n u
    → IsFloor 863 (y + c) k v → IsFloor 863 y m v → (r * k + m) * (q * u) + p * n * (10 ^ 12 * v) ≤ p * x * (10 ^ 12 * v) + (r * m + k) * (q * u)
core-down p q r s c e t x n y u k m v middle f g h i =
    let a : (t + s) * u * (p * (10 ^ 12 * v)) ≤ 10 ^ 17 * x * (p * (10 ^ 12 * v)) = mul-le-mul_right (p * (10 ^ 12 * v)) f.low in
    let b : 10 ^ 17 * n * (p * (10 ^ 12 * v)) ≤ (t + e) * u * (p * (10 ^ 12 * v)) = mul-le-mul_right (p * (10 ^ 12 * v)) g.high in
    let d : 10 ^ 17 * k * (r * (q * u)) ≤ (y + c + 863) * v * (r * (q * u)) = mul-le-mul_right (r * (q * u)) h.high in
    let j : y * v * (r * (q * u)) ≤ 10 ^ 17 * m * (r * (q * u)) = mul-le-mul_right (r * (q * u)) i.low in
    let o : (y + c) * v * (q * u) ≤ 10 ^ 17 * k * (q * u) = mul-le-mul_right (q * u) h.low in
    let w : 10 ^ 17 * m * (q * u) ≤ (y + 863) * v * (q * u) = mul-le-mul_right (q * u) i.high in
    let l : (r * (c + 863) * q + e * p * 10 ^ 12 + 863 * q) * (u * v) ≤ (s * p * 10 ^ 12 + c * q) * (u * v) = mul-le-mul_right (u * v) middle in
    omega (arith, a, b, d, j, o, w, l)

above-zero : (r c y k m v : ℕ) → (r + 10 ^ 12) * 2000 ≤ c → IsFloor 863 (y + c) k v → IsFloor 863 y m v → 0 < v → m < k
above-zero r c y k m v enough h i some =
    let a : 864 * v ≤ c * v = mul-le-mul_right v (omega (arith, enough)) in let b = h.low in let d = i.high in omega (arith, a, b, d, some)

-- a sine and a cosine that are above zero
quotient-plus : (p q r w s c e t y : ℕ) (a b d : Balance) → IsFound p q r w s c e → IsFloor e (t + s) a.plus a.under → IsFloor e t a.minus a.under
    → IsFloor 863 (y + c) b.plus b.under → IsFloor 863 y b.minus b.under → 0 < b.under → IsMade false r d → IsQuotient (times p q a) b d
quotient-plus p q r w s c e t y a b d found f g h i some made =
    let l : d.plus * 10 ^ 12 * (b.plus * (q * a.under)) ≡ r * d.under * (b.plus * (q * a.under)) = ap (λ z. z * (b.plus * (q * a.under))) made.plus in
    let m : d.plus * 10 ^ 12 * (b.minus * (q * a.under)) ≡ r * d.under * (b.minus * (q * a.under)) = ap (λ z. z * (b.minus * (q * a.under))) made.plus in
    let n : d.minus * 10 ^ 12 * (b.plus * (q * a.under)) ≡ 0 * d.under * (b.plus * (q * a.under)) = ap (λ z. z * (b.plus * (q * a.under))) made.minus in
    let o : d.minus * 10 ^ 12 * (b.minus * (q * a.under)) ≡ 0 * d.under * (b.minus * (q * a.under)) = ap (λ z. z * (b.minus * (q * a.under))) made.minus in
    let u = mul-le-mul_right d.under (core-up p q r s c e t a.plus a.minus y a.under b.plus b.minus b.under (middle-up p q r w s c e found) f g h i) in
    let v = mul-le-mul_right d.under (core-down p q r s c e t a.plus a.minus y a.under b.plus b.minus b.under (middle-down p q r w s c e found) f g h i) in
    record {
      some = above-zero r c y b.plus b.minus b.under found.enough h i some;
      below = record { little = omega (arith, l, m, n, o, u) };
      above = record { little = omega (arith, l, m, n, o, v) };
    }

-- the opposite of a quotient
mirrored : (s c d : Balance) → IsQuotient s c (record { plus = d.minus; minus = d.plus; under = d.under })
    → IsQuotient (record { plus = s.minus; minus = s.plus; under = s.under }) c d
mirrored s c d h = let a = h.above.little in let b = h.below.little in
    record { some = h.some; below = record { little = omega (arith, a) }; above = record { little = omega (arith, b) } }

turned : (r : ℕ) (d : Balance) → IsMade true r d → IsMade false r (record { plus = d.minus; minus = d.plus; under = d.under })
turned r d h = record { plus = h.minus; minus = h.plus; some = h.some }

-- the greater part of a pair is the smaller one and the distance
parts-floor : (e m n k u : ℕ) → m ≡ n → IsFloor e m k u → IsFloor e n k u
parts-floor e m n k u h f = subst (λ i. IsFloor e i k u) h f

first-more : (h : ℕ × ℕ) → nat_lt h.0 h.1 ≡ false → h.0 ≡ h.1 + distance h
first-more h e = let o : h.1 < suc h.0 = leb-false _ _ e in omega (arith, o)

second-more : (h : ℕ × ℕ) → nat_lt h.0 h.1 ≡ true → h.1 ≡ h.0 + distance h
second-more h e = let o : h.0 < h.1 = leb-true _ _ e in omega (arith, o)

corner : (p q r w e : ℕ) (b n : Bool) (g h : ℕ × ℕ) (s c d : Balance) → IsFound p q r w (distance g) (distance h) e → nat_lt g.0 g.1 ≡ b → nat_lt h.0 h.1 ≡ n
    → IsNear e g s → IsNear 863 h c → 0 < c.under → IsMade (differ b n) r d → IsQuotient (times p q (flipped n s)) (flipped n c) d
corner p q r w e false false g h s c d found i j k l some made =
    quotient-plus p q r w (distance g) (distance h) e g.1 h.1 s c d found (parts-floor _ _ _ _ _ (first-more g i) k.plus) k.minus
    (parts-floor _ _ _ _ _ (first-more h j) l.plus) l.minus some made
corner p q r w e false true g h s c d found i j k l some made = mirrored (times p q s) _ d
    (quotient-plus p q r w (distance g) (distance h) e g.1 h.0 s _ _ found (parts-floor _ _ _ _ _ (first-more g i) k.plus) k.minus
    (parts-floor _ _ _ _ _ (second-more h j) l.minus) l.plus some (turned r d made))
corner p q r w e true false g h s c d found i j k l some made = mirrored (times p q (flipped true s)) c d
    (quotient-plus p q r w (distance g) (distance h) e g.0 h.1 (flipped true s) c _ found (parts-floor _ _ _ _ _ (second-more g i) k.minus) k.plus
    (parts-floor _ _ _ _ _ (first-more h j) l.plus) l.minus some (turned r d made))
corner p q r w e true true g h s c d found i j k l some made =
    quotient-plus p q r w (distance g) (distance h) e g.0 h.0 (flipped true s) (flipped true c) d found
    (parts-floor _ _ _ _ _ (second-more g i) k.minus) k.plus (parts-floor _ _ _ _ _ (second-more h j) l.minus) l.plus some made

partial-some : (p q n k : ℕ) → 0 < q → 0 < k → 0 < (partial_sum p q n k).under
unfolding partial_sum
partial-some p q zero k some one = omega arith
partial-some p q (suc n) k some one =
    let a : 1 * 1 ≤ q * q = mul-le-mul some some in let b : 1 ≤ q * q = omega (arith, a) in
    let c : 1 * 1 ≤ q * q * (k * (k + 1)) = mul-le-mul b (divisor-some k one) in let d : 1 ≤ q * q * (k * (k + 1)) = omega (arith, c) in
    let e : 1 * 1 ≤ q * q * (k * (k + 1)) * (partial_sum p q n (k + 2)).under = mul-le-mul d (partial-some p q n (k + 2) some (omega arith)) in
    omega (arith, e)

allowed : (b : Bool) (value : Result Fraction ValueFault) (d : Fraction) → (if b then value else Err PastBound) ≡ Ok d → (b ≡ true) × (value ≡ Ok d)
allowed true value d e = (refl, e)
allowed false value d e = absurd cc

tangent-by : (f d : Fraction) → 0 < f.under → unsigned_abs f.over ≤ f.under * 7
    → tangent_from f (series (unsigned_abs f.over) f.under 20 2) (series (unsigned_abs f.over) f.under 20 1) ≡ Ok d → IsTangent f d
tangent-by f d some ratio e =
    let p = unsigned_abs f.over in let q = f.under in let g = series p q 20 2 in let h = series p q 20 1 in
    let w = distance g * p / q in let r = rounded (w * 10 ^ 12) (distance h) in let i = allowed _ _ d e in
    let enough : (r + 10 ^ 12) * 2000 ≤ distance h = leb-true _ _ i.0 in
    let round = rounds (w * 10 ^ 12) (distance h) (omega (arith, enough)) in
    let found : IsFound p q r w (distance g) (distance h) (error 20 2) = record {
      ratio = omega (arith, ratio);
      low = div-low (distance g * p) q;
      high = div-high (distance g * p) q some;
      down = round.low;
      up = round.high;
      enough = enough;
    } in
    let made = turned-made f d r (differ (is_negative g) (is_negative h)) _ refl (made-from _ r d i.1) in
    let at = corner p q r w (error 20 2) (is_negative g) (is_negative h) g h in
    let upper = near p q 20 2 some (omega arith) ratio in let lower = near_next p q 20 2 some (omega arith) ratio in
    let high = near p q 20 1 some (omega arith) ratio in let low = near_next p q 20 1 some (omega arith) ratio in record {
      negative = is_negative h;
      pairs = 10;
      upper_upper = at _ _ _ found refl refl upper high (partial-some p q 20 1 some (omega arith)) made;
      upper_lower = at _ _ _ found refl refl upper low (partial-some p q 21 1 some (omega arith)) made;
      lower_upper = at _ _ _ found refl refl lower high (partial-some p q 20 1 some (omega arith)) made;
      lower_lower = at _ _ _ found refl refl lower low (partial-some p q 21 1 some (omega arith)) made;
    }

pub tangent-near : (f d : Fraction) → IsBounded f → tangent f ≡ Ok d → IsTangent f d
unfolding tangent
tangent-near f d h e = let g = limited 7 _ f d _ refl e in tangent-by f d h.some g.0 g.1
