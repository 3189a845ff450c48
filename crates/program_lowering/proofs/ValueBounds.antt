-- The number that an expression gives is within the bound, with a denominator that is not zero.
use Rattle.std.proofs.Common.{◌≡◌, ℕ, zero, suc, ◌+◌, ◌*◌, ◌/◌, ◌^◌, ◌<◌, Bool, true, false, ◌&&◌, List, [], length, take, drop}
use Rattle.std.proofs.Common.{Option, Some, None, Result, Ok, Err, ℤ, pos, negsuc, refl, subst, arith}
use Rattle.std.specs.Prelude.{IfOk, int_lt, nat_le, neg_ℤ, unsigned_abs, ◌==◌, if◌then◌else◌}
use Rattle.std.specs.List.{position}
use Rattle.std.specs.Result.{result_ok}
use Rattle.std.proofs.Math.Nat.{div-le_self, mul-div_cancel', pow-suc}
use Rattle.std.proofs.lemmas.Bool.{leb-true, eqb-false}
use Rattle.std.proofs.lemmas.Nat.{mul-le}
use Rattle.program_flow.proofs.Divisors.{gcd-is, unsigned_abs-signed}
use Rattle.program_flow.specs.Angles.{cosine, in_degrees, in_radians, sine, tangent}
use Rattle.program_flow.specs.LookBack.{value_said}
use Rattle.program_flow.specs.Numbers.{Fraction, IsBounded, and_then, bound, gcd, inverse, magnitude, multiplied, opposite, power, product, quotient}
use Rattle.program_flow.specs.Numbers.{reduced, signed, sum, whole_number, whole_part}
use Rattle.program_flow.specs.Parts.{Parts, parts_of}
use Rattle.program_flow.specs.Parts.Parts.{Both, Called, Leaf, Opposite, Same}
use Rattle.program_flow.specs.Roots.{root}
use Rattle.program_flow.specs.Values.{applied, exponent_of, function_of, mantissa_at, mantissa_value, number_after, numeral_at, numeral_value}
use Rattle.program_flow.specs.Values.{Valuation, number_of, parts_value, pointed_value, value_within}
use Rattle.program_flow.specs.declared.faults.ValueFault.{ValueFault}
use Rattle.program_flow.specs.declared.faults.ValueFault.TheVariants.{DivisionByZero, PastBound}
use Rattle.program_flow.specs.declared.places.Operator.{Operator}
use Rattle.program_flow.specs.declared.places.Operator.TheVariants.{Minus, Over, Plus, Power, Times}
use Rattle.program_lowering.specs.Cartesian.{number_in}

-- a result that is within the bound, if it is a number
pub record Bounded (r : Result Fraction ValueFault) : Type 0 where
  is : IfOk r IsBounded

given : (f : Fraction) → IsBounded f → Bounded (Ok f)
given f h = record { is = h }

refused : (fault : ValueFault) → Bounded (Err fault)
refused fault = record { is = tt }

pub from-ok : (r : Result Fraction ValueFault) (f : Fraction) → Bounded r → result_ok r ≡ Some f → IsBounded f
from-ok (Ok g) f h e = let same : g ≡ f = cc in subst (λ x. IsBounded x) same h.is
from-ok (Err fault) f h e = absurd cc

either : (b : Bool) (r s : Result Fraction ValueFault) → Bounded r → Bounded s → Bounded (if b then r else s)
either true r s h g = h
either false r s h g = g

any-then : {A : Type 0} (r : Result A ValueFault) (next : A → Result Fraction ValueFault) → ((a : A) → Bounded (next a)) → Bounded (and_then r next)
any-then (Ok a) next h = h a
any-then (Err fault) next h = refused fault

then-bounded : (r : Result Fraction ValueFault) (next : Fraction → Result Fraction ValueFault) → Bounded r
    → ((f : Fraction) → IsBounded f → Bounded (next f)) → Bounded (and_then r next)
then-bounded (Ok f) next h g = g f h.is
then-bounded (Err fault) next h g = refused fault

pub mul-some : (a b : ℕ) → 0 < a → 0 < b → 0 < a * b
mul-some a b h g = let e = mul-le 1 1 a b h g in omega (arith, e)

ten-some : (n : ℕ) → 0 < 10 ^ n
ten-some zero = omega arith
ten-some (suc n) = let h = ten-some n in let e : 10 ^ suc n ≡ 10 ^ n * 10 = pow-suc 10 n in omega (arith, h, e)

part-some : (g b q : ℕ) → g * q ≡ b → 0 < b → 0 < q
part-some g b zero e some = absurd (omega (arith, e, some))
part-some g b (suc q) e some = omega arith

-- numbers are made in lowest terms
made-bounded : (x y negative : Bool) (n m : ℕ) → nat_le n bound ≡ x → nat_le m bound ≡ y → 0 < m
    → Bounded (if x && y then Ok (record { over = signed negative n; under = m }) else Err PastBound)
made-bounded true true negative n m e f some =
    record { is = record { over = rw (unsigned_abs-signed negative n) (leb-true _ _ e); some = some; under = leb-true _ _ f } }
made-bounded true false negative n m e f some = refused PastBound
made-bounded false y negative n m e f some = refused PastBound

reduced-bounded : (a : ℤ) (b : ℕ) → 0 < b → Bounded (reduced a b)
unfolding reduced
reduced-bounded a b some = let n = unsigned_abs a in made-bounded _ _ (int_lt a (pos 0)) (n / gcd n b) (b / gcd n b) refl refl
    (part-some (gcd n b) b (b / gcd n b) (mul-div_cancel' (gcd n b) (gcd-is n b).1) some)

pointed-bounded : (whole fraction : List ℕ) (exponent : ℕ × ℕ) → Bounded (pointed_value whole fraction exponent)
pointed-bounded whole fraction exponent = any-then {A = ℕ} (number_after 0 whole) _ (λ front. any-then {A = ℕ} (number_after front fraction) _
    (λ value. either (nat_le (length fraction) 18) _ _ (reduced-bounded _ _ (ten-some _)) (refused _)))

mantissa-at-bounded : (text : List ℕ) (at : Option ℕ) (exponent : ℕ × ℕ) → Bounded (mantissa_at text at exponent)
mantissa-at-bounded text None exponent = pointed-bounded text [] exponent
mantissa-at-bounded text (Some i) exponent = either (nat_le (length text) 1) _ _ (refused _) (pointed-bounded (take i text) (drop (i + 1) text) exponent)

mantissa-bounded : (text : List ℕ) (exponent : ℕ × ℕ) → Bounded (mantissa_value text exponent)
mantissa-bounded text exponent = either (length text == 0) _ _ (refused _) (mantissa-at-bounded text (position (λ b. b == 46) text) exponent)

numeral-at-bounded : (text : List ℕ) (at : Option ℕ) → Bounded (numeral_at text at)
numeral-at-bounded text None = mantissa-bounded text (0, 0)
numeral-at-bounded text (Some i) = any-then {A = ℕ × ℕ} (exponent_of (drop (i + 1) text)) _ (λ exponent. mantissa-bounded (take i text) exponent)

numeral-bounded : (text : List ℕ) → Bounded (numeral_value text)
unfolding numeral_value
numeral-bounded text = numeral-at-bounded text (position (λ b. b == 69) text)

abs-opposite : (z : ℤ) → unsigned_abs (neg_ℤ z) ≡ unsigned_abs z
abs-opposite (pos zero) = refl
abs-opposite (pos (suc n)) = refl
abs-opposite (negsuc n) = refl

pub opposite-bounded : (f : Fraction) → IsBounded f → IsBounded (opposite f)
opposite-bounded f h = record { over = rw (abs-opposite f.over) h.over; some = h.some; under = h.under }

product-bounded : (f g : Fraction) → IsBounded f → IsBounded g → Bounded (product f g)
product-bounded f g h k = reduced-bounded _ _ (mul-some f.under g.under h.some k.some)

pub sum-bounded : (f g : Fraction) → IsBounded f → IsBounded g → Bounded (sum f g)
sum-bounded f g h k = reduced-bounded _ _ (mul-some f.under g.under h.some k.some)

pub quotient-bounded : (f g : Fraction) → IsBounded f → IsBounded g → Bounded (quotient f g)
quotient-bounded f g h k = go (unsigned_abs g.over == 0) refl
  where
    go : (b : Bool) → (unsigned_abs g.over == 0) ≡ b → Bounded (if b then Err DivisionByZero else product f (inverse g))
    go true e = refused DivisionByZero
    go false e = let other : unsigned_abs g.over ≡ 0 → ⊥ = eqb-false _ _ e in product-bounded f (inverse g) h
        (record { over = rw (unsigned_abs-signed (int_lt g.over (pos 0)) g.under) k.under; some = grind (arith, other); under = k.over })

one-bounded : IsBounded (whole_number (pos 1))
one-bounded = record { over = omega arith; some = omega arith; under = omega arith }

multiplied-bounded : (f : Fraction) (n : ℕ) (value : Fraction) → IsBounded f → IsBounded value → Bounded (multiplied f n value)
unfolding multiplied
multiplied-bounded f zero value h g = given value g
multiplied-bounded f (suc n) value h g = then-bounded _ _ (product-bounded value f g h) (λ next k. multiplied-bounded f n next h k)

power-bounded : (f g : Fraction) → IsBounded f → Bounded (power f g)
power-bounded f g h = either _ _ _ (either _ _ _
    (then-bounded _ _ (quotient-bounded _ f one-bounded h) (λ inverted k. multiplied-bounded inverted _ _ k one-bounded))
    (multiplied-bounded f _ _ h one-bounded)) (refused _)

whole-bounded : (f : Fraction) → IsBounded f → IsBounded (whole_part f)
whole-bounded f h = let le = div-le_self (unsigned_abs f.over) f.under in let most = h.over in
    let same = unsigned_abs-signed (int_lt f.over (pos 0)) (unsigned_abs f.over / f.under) in
    record { over = omega (arith, le, most, same); some = omega arith; under = omega arith }

pub sine-bounded : (f : Fraction) → Bounded (sine f)
unfolding sine
sine-bounded f = either _ _ _ (reduced-bounded _ _ (ten-some 12)) (refused _)

pub cosine-bounded : (f : Fraction) → Bounded (cosine f)
unfolding cosine
cosine-bounded f = either _ _ _ (reduced-bounded _ _ (ten-some 12)) (refused _)

tangent-bounded : (f : Fraction) → Bounded (tangent f)
unfolding tangent
tangent-bounded f = either _ _ _ (either _ _ _ (reduced-bounded _ _ (ten-some 12)) (refused _)) (refused _)

pub radians-bounded : (f : Fraction) → Bounded (in_radians f)
unfolding in_radians
radians-bounded f = either _ _ _ (reduced-bounded _ _ (ten-some 12)) (refused _)

root-bounded : (f : Fraction) → Bounded (root f)
unfolding root
root-bounded f = either _ _ _ (refused _) (either _ _ _ (reduced-bounded _ _ (ten-some 12)) (refused _))

degrees-bounded : (f : Fraction) → Bounded (in_degrees f)
unfolding in_degrees
degrees-bounded f = either _ _ _ (reduced-bounded _ _ (ten-some 12)) (refused _)

function-bounded : (name : List ℕ) (f : Fraction) → IsBounded f → Bounded (function_of name f)
function-bounded name f h =
    either _ _ _ (given f h) (either _ _ _ (given (magnitude f) (record { over = h.over; some = h.some; under = h.under }))
    (either _ _ _ (given (whole_part f) (whole-bounded f h)) (either _ _ _ (root-bounded f) (either _ _ _ (sine-bounded f)
    (either _ _ _ (cosine-bounded f) (either _ _ _ (tangent-bounded f) (either _ _ _ (radians-bounded f) (either _ _ _ (degrees-bounded f) (refused _)))))))))

applied-bounded : (operator : Operator) (f g : Fraction) → IsBounded f → IsBounded g → Bounded (applied operator f g)
applied-bounded Plus f g h k = sum-bounded f g h k
applied-bounded Minus f g h k = sum-bounded f (opposite g) h (opposite-bounded g k)
applied-bounded Times f g h k = product-bounded f g h k
applied-bounded Over f g h k = quotient-bounded f g h k
applied-bounded Power f g h k = power-bounded f g h

parts-bounded : (said : Valuation) (inner : List ℕ → Result Fraction ValueFault) → ((text : List ℕ) → Bounded (and_then (said text) number_of))
    → ((text : List ℕ) → Bounded (inner text)) → (parts : Parts) → Bounded (parts_value said inner parts)
parts-bounded said inner s h (Both left operator right) =
    then-bounded _ _ (h left) (λ f k. then-bounded _ _ (h right) (λ g l. applied-bounded operator f g k l))
parts-bounded said inner s h (Opposite rest) = then-bounded _ _ (h rest) (λ f k. given (opposite f) (opposite-bounded f k))
parts-bounded said inner s h (Same rest) = h rest
parts-bounded said inner s h (Called name text) = then-bounded _ _ (h text) (λ f k. function-bounded name f k)
parts-bounded said inner s h (Leaf text) = either _ _ _ (numeral-bounded text) (either _ _ _ (s text) (refused _))

value-bounded : (said : Valuation) → ((text : List ℕ) → Bounded (and_then (said text) number_of)) → (n : ℕ) (text : List ℕ)
    → Bounded (value_within said n text)
unfolding value_within
value-bounded said s zero text = refused _
value-bounded said s (suc n) text = parts-bounded said (value_within said n) s (value-bounded said s n) (parts_of text)

pub number-bounded : (text : List ℕ) (f : Fraction) → number_in text ≡ Some f → IsBounded f
number-bounded text f e = from-ok _ f (value-bounded (value_said []) (λ name. refused _) 100 text) e
