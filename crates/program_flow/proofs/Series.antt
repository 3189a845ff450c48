-- A partial sum in whole numbers is near to the exact one, and does not become large.
use Rattle.std.proofs.Common.{◌≡◌, ℕ, zero, suc, ◌+◌, ◌-◌, ◌*◌, ◌/◌, ◌^◌, ◌<◌, ◌≤◌, refl, sym, ap, ◌∙◌, arith, div-add-mod', mul-le-mul, mul-le-mul_right}
use Rattle.std.specs.Int.{abs_diff}
use Rattle.std.proofs.Math.Nat.{le_of_mul-le-mul_right, le_refl}
use Rattle.std.proofs.lemmas.Nat.{mod_below, mul-le}
use Rattle.program_flow.specs.Angles.{term, before, series}
use Rattle.program_flow.specs.Nearness.{Balance, one_less, partial_sum}

pub div-low : (n k : ℕ) → n / k * k ≤ n
div-low n k = let e = div-add-mod' n k in omega (arith, e)

pub div-high : (n k : ℕ) → 0 < k → n ≤ n / k * k + k
div-high n k some = let e = div-add-mod' n k in let m = mod_below n k some in omega (arith, e, m)

term-low : (p q c n : ℕ) → term p q c n * (q * q * c) ≤ p * p * n
term-low p q c n =
    let a : p * (p * n / q) / (q * c) * (q * c) * q ≤ p * (p * n / q) * q = mul-le-mul_right q (div-low (p * (p * n / q)) (q * c)) in
    let b : p * n / q * q * p ≤ p * n * p = mul-le-mul_right p (div-low (p * n) q) in omega (arith, a, b)

term-high : (p q c n : ℕ) → 0 < q → 0 < c → p * p * n ≤ term p q c n * (q * q * c) + (p * q + q * q * c)
term-high p q c n some one =
    let s : 1 * 1 ≤ q * c = mul-le-mul some one in
    let a : p * (p * n / q) * q ≤ (p * (p * n / q) / (q * c) * (q * c) + q * c) * q = mul-le-mul_right q (div-high (p * (p * n / q)) (q * c) (omega (arith, s))) in
    let b : p * n * p ≤ (p * n / q * q + q) * p = mul-le-mul_right p (div-high (p * n) q some) in omega (arith, a, b)

-- h is the exact e / d in units of 10 ^ -17, or up to r less
pub record IsFloor (r h e d : ℕ) : Type 0 where
  pub low : h * d ≤ 10 ^ 17 * e
  pub high : 10 ^ 17 * e ≤ (h + r) * d

term-floor-by : (p q c t r m h e d : ℕ) → t * (q * q * c) ≤ p * p * h → p * p * h ≤ t * (q * q * c) + (p * q + q * q * c) → p ≤ q * 7
    → 49 * r + 7 + c ≤ m * c → IsFloor r h e d → IsFloor m t (p * p * e) (q * q * c * d)
term-floor-by p q c t r m h e d low high ratio enough f =
    let a : t * (q * q * c) * d ≤ p * p * h * d = mul-le-mul_right d low in
    let b : p * p * h * d ≤ (t * (q * q * c) + (p * q + q * q * c)) * d = mul-le-mul_right d high in
    let u : h * d * (p * p) ≤ 10 ^ 17 * e * (p * p) = mul-le-mul_right (p * p) f.low in
    let v : 10 ^ 17 * e * (p * p) ≤ (h + r) * d * (p * p) = mul-le-mul_right (p * p) f.high in
    let s : p * p * (r * d) ≤ q * 7 * (q * 7) * (r * d) = mul-le-mul_right (r * d) (mul-le-mul ratio ratio) in
    let w : p * (q * d) ≤ q * 7 * (q * d) = mul-le-mul_right (q * d) ratio in
    let g : (49 * r + 7 + c) * (q * q * d) ≤ m * c * (q * q * d) = mul-le-mul_right (q * q * d) enough in
    record { low = omega (arith, a, u); high = omega (arith, b, v, s, w, g) }

term-floor : (p q c r m h e d : ℕ) → 0 < q → 0 < c → p ≤ q * 7 → 49 * r + 7 + c ≤ m * c → IsFloor r h e d
    → IsFloor m (term p q c h) (p * p * e) (q * q * c * d)
term-floor p q c r m h e d some one ratio enough f =
    term-floor-by p q c (term p q c h) r m h e d (term-low p q c h) (term-high p q c h some one) ratio enough f

one-floor : (r h e d : ℕ) → IsFloor r h e d → IsFloor r (10 ^ 17 + h) (d + e) d
one-floor r h e d f = let a = f.low in let b = f.high in record { low = omega (arith, a); high = omega (arith, b) }

-- both parts of a partial sum
pub record IsNear (r : ℕ) (h : ℕ × ℕ) (a : Balance) : Type 0 where
  pub plus : IsFloor r h.0 a.plus a.under
  pub minus : IsFloor r h.1 a.minus a.under

near-before : (p q c r m : ℕ) (h : ℕ × ℕ) (a : Balance) → 0 < q → 0 < c → p ≤ q * 7 → 49 * r + 7 + c ≤ m * c → IsNear r h a
    → IsNear m (before p q c h) (one_less p q c a)
near-before p q c r m h a some one ratio enough n = record {
  plus = one-floor m _ _ _ (term-floor p q c r m h.1 a.minus a.under some one ratio enough n.minus);
  minus = term-floor p q c r m h.0 a.plus a.under some one ratio enough n.plus;
}

-- what n terms more are less than the exact ones by, at most, also than those with one more term
abbrev pub error : ℕ → ℕ → ℕ
error zero k = 49 * 10 ^ 17 / (k * (k + 1)) + 1
error (suc n) k = (49 * error n (k + 2) + 7) / (k * (k + 1)) + 2

enough : (x c : ℕ) → 0 < c → x + c ≤ (x / c + 2) * c
enough x c one = let a = div-high x c one in omega (arith, a)

pub divisor-some : (k : ℕ) → 0 < k → 0 < k * (k + 1)
divisor-some k some = let a = mul-le 1 1 k (k + 1) some (omega arith) in omega (arith, a)

pub near : (p q n k : ℕ) → 0 < q → 0 < k → p ≤ q * 7 → IsNear (error n k) (series p q n k) (partial_sum p q n k)
unfolding series partial_sum
near p q zero k some one ratio = record { plus = record { low = omega arith; high = omega arith }; minus = record { low = omega arith; high = omega arith } }
near p q (suc n) k some one ratio = near-before p q (k * (k + 1)) (error n (k + 2)) _ _ _ some (divisor-some k one) ratio
    (enough (49 * error n (k + 2) + 7) (k * (k + 1)) (divisor-some k one)) (near p q n (k + 2) some (omega arith) ratio)

last-floor : (p q c r : ℕ) → p ≤ q * 7 → 49 * 10 ^ 17 ≤ r * c → IsFloor r 0 (p * p * 1) (q * q * c * 1)
last-floor p q c r ratio enough =
    let s : p * p ≤ q * 7 * (q * 7) = mul-le-mul ratio ratio in let g : 49 * 10 ^ 17 * (q * q) ≤ r * c * (q * q) = mul-le-mul_right (q * q) enough in
    record { low = omega arith; high = omega (arith, s, g) }

last : (x c : ℕ) → 0 < c → x ≤ (x / c + 1) * c
last x c one = let a = div-high x c one in omega (arith, a)

pub near_next : (p q n k : ℕ) → 0 < q → 0 < k → p ≤ q * 7 → IsNear (error n k) (series p q n k) (partial_sum p q (suc n) k)
unfolding series partial_sum
near_next p q zero k some one ratio = record {
  plus = record { low = omega arith; high = omega arith };
  minus = last-floor p q (k * (k + 1)) (error zero k) ratio (last (49 * 10 ^ 17) (k * (k + 1)) (divisor-some k one));
}
near_next p q (suc n) k some one ratio = near-before p q (k * (k + 1)) (error n (k + 2)) _ _ _ some (divisor-some k one) ratio
    (enough (49 * error n (k + 2) + 7) (k * (k + 1)) (divisor-some k one)) (near_next p q n (k + 2) some (omega arith) ratio)

-- bounds of a partial sum whose first divisor is k (k + 1)
pub record IsSmall (k v : ℕ) : Type 0 where
  pub any : v ≤ 1545 * 10 ^ 17
  pub third : 3 ≤ k → v ≤ 63 * 10 ^ 17
  pub fifth : 5 ≤ k → v ≤ 15 * 10 ^ 17
  pub seventh : 7 ≤ k → v ≤ 8 * 10 ^ 17

at_most : (c v w a b : ℕ) → 0 < c → w * c ≤ 10 ^ 17 * c + 49 * v → v ≤ a * 10 ^ 17 → 49 * a ≤ b * c → w ≤ (b + 1) * 10 ^ 17
at_most c v w a b one le small enough = le_of_mul-le-mul_right {k = c} (omega (arith, le, small, enough)) one

small-before : (k v w : ℕ) → 0 < k → w * (k * (k + 1)) ≤ 10 ^ 17 * (k * (k + 1)) + 49 * v → IsSmall (k + 2) v → IsSmall k w
small-before k v w one le small = record {
  any = let c = mul-le 1 2 k (k + 1) one (omega (arith, one)) in
      let a = at_most (k * (k + 1)) v w 63 1544 (divisor-some k one) le (small.third (omega (arith, one))) (omega (arith, c)) in omega (arith, a);
  third = λ more. (let c = mul-le 3 4 k (k + 1) more (omega (arith, more)) in
      let a = at_most (k * (k + 1)) v w 15 62 (divisor-some k one) le (small.fifth (omega (arith, more))) (omega (arith, c)) in omega (arith, a));
  fifth = λ more. (let c = mul-le 5 6 k (k + 1) more (omega (arith, more)) in
      let a = at_most (k * (k + 1)) v w 8 14 (divisor-some k one) le (small.seventh (omega (arith, more))) (omega (arith, c)) in omega (arith, a));
  seventh = λ more. (let c = mul-le 7 8 k (k + 1) more (omega (arith, more)) in
      let a = at_most (k * (k + 1)) v w 8 7 (divisor-some k one) le (small.seventh (omega (arith, more))) (omega (arith, c)) in omega (arith, a));
}

term-below : (p q c v : ℕ) → 0 < q → p ≤ q * 7 → term p q c v * c ≤ 49 * v
term-below p q c v some ratio =
    let s : p * p * v ≤ q * 7 * (q * 7) * v = mul-le-mul_right v (mul-le-mul ratio ratio) in let a = term-low p q c v in
    let o : 1 * 1 ≤ q * q = mul-le-mul some some in
    le_of_mul-le-mul_right {k = q * q} (omega (arith, s, a)) (omega (arith, o))

pub small : (p q n k : ℕ) → 0 < q → 0 < k → p ≤ q * 7 → IsSmall k (series p q n k).0 × IsSmall k (series p q n k).1
unfolding series
small p q zero k some one ratio = (
  record { any = omega arith; third = λ m. omega arith; fifth = λ m. omega arith; seventh = λ m. omega arith },
  record { any = omega arith; third = λ m. omega arith; fifth = λ m. omega arith; seventh = λ m. omega arith },
)
small p q (suc n) k some one ratio =
    let h = series p q n (k + 2) in let below = small p q n (k + 2) some (omega arith) ratio in
    let a = term-below p q (k * (k + 1)) h.1 some ratio in let b = term-below p q (k * (k + 1)) h.0 some ratio in (
      small-before k h.1 _ one (omega (arith, a)) below.1,
      small-before k h.0 _ one (omega (arith, b)) below.0,
    )

pub third-small : (p q n k : ℕ) (h : ℕ × ℕ) → 0 < q → 0 < k → p ≤ q * 7 → h ≡ series p q n (k + 2) → (h.0 ≤ 63 * 10 ^ 17) × (h.1 ≤ 63 * 10 ^ 17)
third-small p q n k h some one ratio e =
    let s = small p q n (k + 2) some (omega arith) ratio in let a = s.0.third (omega (arith, one)) in let b = s.1.third (omega (arith, one)) in
    let f : h.0 ≡ (series p q n (k + 2)).0 = ap (λ (x : ℕ × ℕ). x.0) e in let g : h.1 ≡ (series p q n (k + 2)).1 = ap (λ (x : ℕ × ℕ). x.1) e in
    (omega (arith, a, f), omega (arith, b, g))

pub apart-small : (p q n k d : ℕ) (h : ℕ × ℕ) → 0 < q → 0 < k → p ≤ q * 7 → h ≡ series p q n k → d ≡ abs_diff h.0 h.1 → d ≤ 1545 * 10 ^ 17
apart-small p q n k d h some one ratio e apart =
    let s = small p q n k some one ratio in let a = s.0.any in let b = s.1.any in
    let f : h.0 ≡ (series p q n k).0 = ap (λ (x : ℕ × ℕ). x.0) e in let g : h.1 ≡ (series p q n k).1 = ap (λ (x : ℕ × ℕ). x.1) e in
    omega (arith, a, b, f, g, apart)

pub term-small : (p q c v : ℕ) → 0 < q → 0 < c → p ≤ q * 7 → v ≤ 63 * 10 ^ 17 → term p q c v ≤ 3087 * 10 ^ 17
term-small p q c v some one ratio little = let a = term-below p q c v some ratio in
    let b : term p q c v * 1 ≤ term p q c v * c = mul-le-mul (le_refl _) one in omega (arith, a, b, little)

series-step : (p q m n k : ℕ) → suc m ≡ n → before p q (k * (k + 1)) (series p q m (k + 2)) ≡ series p q n k
unfolding series
series-step p q m n k e = rw (sym e) refl

pub series-by : (p q n k : ℕ) (h : ℕ × ℕ) → 0 < n → h ≡ series p q (n - 1) (k + 2) → before p q (k * (k + 1)) h ≡ series p q n k
series-by p q n k h some e = ap (λ x. before p q (k * (k + 1)) x) e ∙ series-step p q (n - 1) n k (omega (arith, some))

pub made : (p q n k a b d : ℕ) (h : ℕ × ℕ) → a ≡ term p q d h.1 → b ≡ term p q d h.0 → d ≡ k * (k + 1) → 0 < n → h ≡ series p q (n - 1) (k + 2)
    → ◌≡◌ {A = ℕ × ℕ} (10 ^ 17 + a, b) (series p q n k)
made p q n k a b d h added lowered divisor some e = ap (λ x. (10 ^ 17 + x, b)) added ∙ (ap (λ x. (10 ^ 17 + term p q d h.1, x)) lowered
    ∙ (ap (λ x. before p q x h) divisor ∙ series-by p q n k h some e))
