-- The nearest whole number to a root, from the whole number below it.
use Rattle.std.proofs.Common.{◌≡◌, ℕ, zero, suc, ◌+◌, ◌-◌, ◌*◌, ◌/◌, ◌%◌, ◌<◌, ◌≤◌, ℤ, unsigned_abs, subst, sym, arith, mod-lt, div-add-mod', mul-le-mul, mul-le-mul_right, ap, ◌∙◌}
use Rattle.deviations.specs.Along.{squared, IsNearestRoot, IsAlong, scalar_product, squared_length, on_side_of}
use Rattle.fixed_um.specs.Shapes.{Direction}
use Rattle.deviations.specs.declared.along.Deviation.{Deviation}

-- w is the whole number below the root of s / t
pub record IsRootBelow (s t w : ℕ) : Type 0 where
  pub reached : squared w * t ≤ s
  pub short : s < squared (w + 1) * t

pub root_below : (s t w : ℕ) → 0 < t → w * w ≤ s / t → s / t < (w + 1) * (w + 1) → IsRootBelow s t w
root_below s t w p le lt = record {
  reached = let a = mul-le-mul_right t le in let b = div-add-mod' s t in omega (arith, a, b);
  short = let a : (s / t + 1) * t ≤ ((w + 1) * (w + 1)) * t = mul-le-mul_right t (omega (arith, lt)) in let b = div-add-mod' s t in
      let m : s % t < t = mod-lt s p in omega (arith, a, b, m);
}

-- the halves below a number that is not zero
halves : (w : ℕ) → 2 * (w + 1) - 1 ≡ 2 * w + 1
halves w = omega arith

below : (w : ℕ) → 2 * suc w - 1 ≡ 2 * w + 1
below w = omega arith

-- the half is reached
pub half_reached : (s t w h : ℕ) → IsRootBelow s t w → t ≤ 4 * h → w * t + h ≤ s - w * w * t → IsNearestRoot s t (w + 1)
half_reached s t w h r q le = record {
  reached = let a = r.reached in let more : squared (2 * w + 1) * t ≤ 4 * s = omega (arith, a, q, le) in
      subst (λ x. squared x * t ≤ 4 * s) (sym (halves w)) more;
  short = let b = r.short in omega (arith, b);
}

-- the half is not reached
pub half_missed : (s t w h : ℕ) → 0 < t → IsRootBelow s t w → 4 * h < t + 4 → s - w * w * t < w * t + h → IsNearestRoot s t w
half_missed s t zero h p r q lt = record { reached = omega arith; short = omega (arith, q, lt) }
half_missed s t (suc w) h p r q lt = record {
  reached = let a = r.reached in let less : squared (2 * w + 1) * t ≤ 4 * s = omega (arith, a) in
      subst (λ x. squared x * t ≤ 4 * s) (sym (below w)) less;
  short = let a = r.reached in omega (arith, a, q, lt);
}

-- the root on the side of the scalar product is the deviation along the direction
pub along_is : (v : Deviation) (d : Direction) (p : ℤ) (m l n : ℕ) (r : ℤ) → p ≡ scalar_product v d → m ≡ unsigned_abs p → l ≡ squared_length d
    → IsNearestRoot (m * m) l n → r ≡ on_side_of p n → unsigned_abs r ≡ n → IsAlong v d r
along_is v d p m l n r e f g near on same =
    let a : IsNearestRoot (squared (unsigned_abs p)) l n = subst (λ x. IsNearestRoot (x * x) l n) f near in
    let b : IsNearestRoot (squared (unsigned_abs (scalar_product v d))) l n = subst (λ x. IsNearestRoot (squared (unsigned_abs x)) l n) e a in
    let c : IsNearestRoot (squared (unsigned_abs (scalar_product v d))) (squared_length d) n =
    subst (λ x. IsNearestRoot (squared (unsigned_abs (scalar_product v d))) x n) g b in
    let o : r ≡ on_side_of (scalar_product v d) n = subst (λ x. r ≡ on_side_of x n) e on in record {
      near = subst (λ x. IsNearestRoot (squared (unsigned_abs (scalar_product v d))) (squared_length d) x) (sym same) c;
      side = subst (λ x. r ≡ on_side_of (scalar_product v d) x) (sym same) o;
    }

-- no number is nearest below another
none_less : (s t n m : ℕ) → IsNearestRoot s t n → IsNearestRoot s t m → n < m → ⊥
none_less s t n m p q lt = let a : 2 * n + 1 ≤ 2 * m - 1 = omega (arith, lt) in
    let b : squared (2 * n + 1) * t ≤ squared (2 * m - 1) * t = mul-le-mul_right t (mul-le-mul a a) in let c = p.short in let d = q.reached in
    omega (arith, b, c, d)

one_root : (s t n m : ℕ) → IsNearestRoot s t n → IsNearestRoot s t m → n ≡ m
one_root s t n m p q = let f : n < m → ⊥ = none_less s t n m p q in let g : m < n → ⊥ = none_less s t m n q p in grind (arith, f, g)

pub one_along : (v : Deviation) (d : Direction) (r s : ℤ) → IsAlong v d r → IsAlong v d s → r ≡ s
one_along v d r s a b = a.side ∙ (ap (on_side_of (scalar_product v d)) (one_root _ _ _ _ a.near b.near) ∙ sym b.side)
