-- The whole part of a root is the one that its definition computes.
use Rattle.std.proofs.Common.{◌≡◌, ℕ, zero, suc, ◌+◌, ◌*◌, ◌/◌, ◌%◌, ◌^◌, ◌<◌, ◌≤◌, Bool, true, false, nat_le, if◌then◌else◌, refl, sym, ap, ◌∙◌, arith, div-add-mod', mul-le-mul, mul-le-mul_right}
use Rattle.std.proofs.Math.Nat.{div-le_of_le-mul, mul-add-div_right, pow-suc}
use Rattle.std.proofs.lemmas.Bool.{leb-true, leb-false}
use Rattle.std.proofs.lemmas.Nat.{mod_below}
use Rattle.program_flow.specs.Roots.{IsRoot, root, root_within, whole_root}
use Rattle.program_flow.specs.Numbers.{Fraction, IsBounded, reduced}
use Rattle.program_flow.proofs.Divisors.{IsSame, from-zero, reduced-same}
use Rattle.std.specs.Prelude.{Result, Ok, Err, pos, int_lt, unsigned_abs}
use Rattle.program_flow.specs.declared.faults.ValueFault.{ValueFault}
use Rattle.program_flow.specs.declared.faults.ValueFault.TheVariants.{PastBound, NegativeRoot}

-- a product in two stages
pub staged : (n m k : ℕ) → 0 < k → n / k * m + n % k * m / k ≡ n * m / k
staged n m k some = sym (mul-add-div_right some (n / k * m) (n % k * m))
    ∙ ap (λ x. x / k) (let e : n / k * k + n % k ≡ n = div-add-mod' n k in let f : (n / k * k + n % k) * m ≡ n * m = ap (λ x. x * m) e in omega (arith, f))

-- r is the whole part of the root of n
pub record IsWhole (n r : ℕ) : Type 0 where
  pub reached : r * r ≤ n
  pub short : n < (r + 1) * (r + 1)

whole_of_quarter : (n r : ℕ) (b : Bool) → nat_le ((2 * r + 1) * (2 * r + 1)) n ≡ b → IsWhole (n / 4) r → IsWhole n (if b then 2 * r + 1 else 2 * r)
whole_of_quarter n r true d h = let a : (2 * r + 1) * (2 * r + 1) ≤ n = leb-true _ _ d in let s = h.short in let m = mod_below n 4 (omega arith) in let e = div-add-mod' n 4 in
    record { reached = a; short = omega (arith, s, m, e) }
whole_of_quarter n r false d h = let a : n < (2 * r + 1) * (2 * r + 1) = leb-false _ _ d in let s = h.reached in let e = div-add-mod' n 4 in
    record { reached = omega (arith, s, e); short = a }

whole_within : (steps n : ℕ) → n < 4 ^ steps → IsWhole n (root_within steps n)
unfolding root_within
whole_within zero n less = record { reached = omega arith; short = omega (arith, less) }
whole_within (suc steps) n less = whole_of_quarter n (root_within steps (n / 4)) _ refl
    (whole_within steps (n / 4) (let e : 4 ^ suc steps ≡ 4 ^ steps * 4 = pow-suc 4 steps in omega (arith, less, e)))

pub whole : (n : ℕ) → n < 2 ^ 128 → IsWhole n (whole_root n)
whole n less = whole_within 64 n less

not_less : (n r s : ℕ) → IsWhole n r → IsWhole n s → r < s → ⊥
not_less n r s p q less = let a : (r + 1) * (r + 1) ≤ s * s = mul-le-mul (omega (arith, less)) (omega (arith, less)) in
    let b = p.short in let c = q.reached in omega (arith, a, b, c)

pub one_whole : (n r s : ℕ) → IsWhole n r → IsWhole n s → r ≡ s
one_whole n r s p q = let f : r < s → ⊥ = not_less n r s p q in let g : s < r → ⊥ = not_less n s r q p in grind (arith, f, g)

pub whole_below : (n r m : ℕ) → IsWhole n r → n ≤ m * m → r ≤ m
whole_below n r m p le = let f : m < r → ⊥ = λ less. (let a : (m + 1) * (m + 1) ≤ r * r = mul-le-mul (omega (arith, less)) (omega (arith, less)) in
    let b = p.reached in omega (arith, a, b, le)) in grind (arith, f)

-- what an answer comes from
not_refused : (b : Bool) (r : Result Fraction ValueFault) (fault : ValueFault) (d : Fraction) → (if b then Err fault else r) ≡ Ok d → r ≡ Ok d
not_refused false r fault d e = e
not_refused true r fault d e = absurd cc

reached-by : (p q r o u : ℕ) → r * r ≤ p * 10 ^ 24 / q → o * 10 ^ 12 ≡ r * u → o * o * q ≤ p * (u * u)
reached-by p q r o u le e =
    let a : r * r * q * (u * u) ≤ p * 10 ^ 24 / q * q * (u * u) = mul-le-mul_right (u * u) (mul-le-mul_right q le) in
    let b : p * 10 ^ 24 / q * q * (u * u) ≤ p * 10 ^ 24 * (u * u) = mul-le-mul_right (u * u) (let m = div-add-mod' (p * 10 ^ 24) q in omega (arith, m)) in
    let f : (o * 10 ^ 12) * (o * 10 ^ 12) * q ≡ (r * u) * (r * u) * q = ap (λ x. x * x * q) e in omega (arith, a, b, f)

short-by : (p q r o u : ℕ) → 0 < q → 0 < u → p * 10 ^ 24 / q < (r + 1) * (r + 1) → o * 10 ^ 12 ≡ r * u
    → p * (u * 10 ^ 12 * (u * 10 ^ 12)) < (o * 10 ^ 12 + u) * (o * 10 ^ 12 + u) * q
short-by p q r o u some one less e =
    let m = div-add-mod' (p * 10 ^ 24) q in let b = mod_below (p * 10 ^ 24) q some in
    let a : (p * 10 ^ 24 / q + 1) * q ≤ (r + 1) * (r + 1) * q = mul-le-mul_right q (omega (arith, less)) in
    let n : p * 10 ^ 24 + 1 ≤ (r + 1) * (r + 1) * q = omega (arith, m, b, a) in
    let w : (p * 10 ^ 24 + 1) * (u * u) ≤ (r + 1) * (r + 1) * q * (u * u) = mul-le-mul_right (u * u) n in
    let s : 1 * 1 ≤ u * u = mul-le-mul one one in
    let f : (o * 10 ^ 12 + u) * (o * 10 ^ 12 + u) * q ≡ (r * u + u) * (r * u + u) * q = ap (λ x. (x + u) * (x + u) * q) e in
    omega (arith, w, s, f)

pub below-units : (p q : ℕ) → p ≤ q * 10 ^ 12 → p * 10 ^ 24 / q < 2 ^ 128
below-units p q le = let f = div-le_of_le-mul q {m = p * 10 ^ 24} {n = 10 ^ 36} (omega (arith, le)) in omega (arith, f)

root-made : (f d : Fraction) → 0 < f.under → unsigned_abs f.over ≤ f.under * 10 ^ 12
    → IsSame (pos (whole_root (unsigned_abs f.over * 10 ^ 24 / f.under))) (10 ^ 12) d → IsRoot f d
root-made f d some le h =
    let w = whole (unsigned_abs f.over * 10 ^ 24 / f.under) (below-units (unsigned_abs f.over) f.under le) in record {
      from_zero = h.sign (from-zero _);
      reached = reached-by (unsigned_abs f.over) f.under _ (unsigned_abs d.over) d.under w.reached h.same;
      short = short-by (unsigned_abs f.over) f.under _ (unsigned_abs d.over) d.under some h.some w.short h.same;
    }

root-when : (b : Bool) (f d : Fraction) → IsBounded f → nat_le (unsigned_abs f.over) (f.under * 10 ^ 12) ≡ b
    → (if b then reduced (pos (whole_root (unsigned_abs f.over * 10 ^ 24 / f.under))) (10 ^ 12) else Err PastBound) ≡ Ok d → IsRoot f d
root-when true f d h t e = root-made f d h.some (leb-true _ _ t) (reduced-same _ _ d (omega arith) e)
root-when false f d h t e = absurd cc

pub root-near : (f d : Fraction) → IsBounded f → root f ≡ Ok d → IsRoot f d
unfolding root
root-near f d h e = let g = not_refused (int_lt f.over (pos 0)) _ NegativeRoot d e in
    root-when (nat_le (unsigned_abs f.over) (f.under * 10 ^ 12)) f d h refl g
