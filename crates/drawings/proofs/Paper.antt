-- Lengths on paper.
use Rattle.std.proofs.Common.{◌+◌, ◌%◌, ◌≡◌, ◌∙◌, ap, refl, mul-le-mul, ℕ, zero, suc, ◌/◌, ◌*◌, ◌^◌, ◌≤◌, ◌<◌, arith, mul-le-mul_right, div-mul-le_self}
use Rattle.std.proofs.Math.Nat.{div-zero, zero-div, one-le-pow, pow-le-pow_right}
use Rattle.std.proofs.lemmas.Nat.{le-div, mul-lt}
use Rattle.drawings.specs.Scales.{on_paper, numerator, denominator, Fits, AreShort, first_tenths, tenths}
use Rattle.drawings.specs.declared.scales.Lengths.{Lengths}

first_some : (n : ℕ) → 10 ≤ first_tenths n
first_some zero = omega arith
first_some (suc zero) = omega arith
first_some (suc (suc zero)) = omega arith
first_some (suc (suc (suc zero))) = omega arith
first_some (suc (suc (suc (suc zero)))) = omega arith
first_some (suc (suc (suc (suc (suc n))))) = omega arith

pub tenths_some : (index : ℕ) → 10 ≤ tenths index
tenths_some index = let m = mul-le-mul (first_some (index % 6)) (one-le-pow (index / 6) 10 (omega arith)) in omega (arith, m)

first_most : (n : ℕ) → first_tenths n ≤ 50
first_most zero = omega arith
first_most (suc zero) = omega arith
first_most (suc (suc zero)) = omega arith
first_most (suc (suc (suc zero))) = omega arith
first_most (suc (suc (suc (suc zero)))) = omega arith
first_most (suc (suc (suc (suc (suc n))))) = omega arith

pub tenths_most : (index : ℕ) → index / 6 ≤ 6 → tenths index ≤ 5 * 10 ^ 7
tenths_most index le = let p : 10 ^ (index / 6) ≤ 10 ^ 6 = pow-le-pow_right (omega arith) le in let m = mul-le-mul (first_most (index % 6)) p in omega (arith, m)

quotients : (a b d : ℕ) → a ≤ b → a / d ≤ b / d
quotients a b zero le = let e = div-zero a in let f = div-zero b in omega (arith, e, f)
quotients a b (suc d) le = let e = div-mul-le_self a (suc d) in le-div (a / suc d) b (suc d) (omega arith) (omega (arith, e, le))

-- a shorter length is not longer on paper
pub shorter : (scale a b : ℕ) → a ≤ b → on_paper scale a ≤ on_paper scale b
unfolding on_paper
shorter scale a b le = quotients (a * numerator scale) (b * numerator scale) (denominator scale) (mul-le-mul_right (numerator scale) le)

-- a length of zero is zero on paper
pub nothing : (scale : ℕ) → on_paper scale 0 ≡ 0
unfolding on_paper
nothing scale = let e : 0 * numerator scale ≡ 0 = omega arith in ap (λ x. x / denominator scale) e ∙ zero-div (denominator scale)

-- a deviation of 10 km or more along a normal is longer across it never
pub far_along : (along square : ℕ) → 10000000000 ≤ along → square ≤ 192000000000000000000 → 2 * (along * along) < square → ⊥
far_along along square far le less = let b = mul-le-mul far far in omega (arith, b, le, less)

-- the smallest scale
at_smallest : (l : ℕ) → on_paper 61 l ≡ l * 10 / 20000000
unfolding on_paper numerator denominator
at_smallest l = refl

pub whisker_fits : (longest : ℕ) → longest ≤ 12000000000 → Fits 61 (record { across = longest; first = 0; second = 0 }) (record { across = 10000; upright = 10000 })
whisker_fits longest le = let a = at_smallest longest in let z = at_smallest 0 in record {
  across = omega (arith, a, le);
  upright = omega (arith, z);
}

pub views_fit : (l : Lengths) → AreShort l → Fits 61 l (record { across = 187000; upright = 118000 })
views_fit l short = let e = at_smallest l.across in let f = at_smallest l.first in let g = at_smallest l.second in record {
  across = let a = short.across in omega (arith, a, e);
  upright = let b = short.first in let c = short.second in omega (arith, b, c, f, g);
}

-- the root of a square of two parts
pub root_within : (r : ℕ) → r * r ≤ 128000000000000000000 → r < 12000000000
root_within r le = let f : 12000000000 ≤ r → ⊥ = λ h. let b = mul-le-mul h h in omega (arith, b, le) in grind (arith, f)

in_tenths : (n d room : ℕ) → n ≤ 100000 → 10 ≤ d → 10000 ≤ room → n / d ≤ room
in_tenths n d room le some enough = let m = div-mul-le_self n d in let f : room < n / d → ⊥ = λ h. let b = mul-le-mul h some in omega (arith, b, m, le, enough) in
    grind (arith, f)

-- the shortest round length takes 10 mm at the largest scale, and less at others
pub shortest_fits : (scale room : ℕ) → numerator scale ≤ 100000 → 10 ≤ denominator scale → 10000 ≤ room → on_paper scale 1 ≤ room
unfolding on_paper
shortest_fits scale room le some enough = let e : 1 * numerator scale ≡ numerator scale = omega arith in
    rw e (in_tenths (numerator scale) (denominator scale) room le some enough)

-- the root, rounded up, is the least number whose square is at least as large
pub root_above : (root square most : ℕ) → root * root < square → square ≤ most * most → root + 1 ≤ most
root_above root square most less le = let f : most ≤ root → ⊥ = λ h. let b = mul-le-mul h h in omega (arith, b, less, le) in grind (arith, f)

pub root_exact : (root square most : ℕ) → root * root ≤ square → square ≤ most * most → root ≤ most
root_exact root square most less le = let f : most < root → ⊥ = λ h. let b = mul-lt most most root root h h in omega (arith, b, less, le) in grind (arith, f)
