-- A function of a number up to its limit has a value.
use Rattle.std.proofs.Common.{◌≡◌, ℕ, ◌*◌, ◌/◌, ◌^◌, ◌≤◌, Bool, true, false, refl, arith}
use Rattle.std.specs.Prelude.{ℤ, pos, int_lt, ◌&&◌, unsigned_abs, IsOk, Result, Ok, Err, if◌then◌else◌}
use Rattle.std.proofs.Math.Nat.{div-le_self, div-le_of_le-mul}
use Rattle.std.proofs.lemmas.Bool.{le-leb}
use Rattle.std.proofs.lemmas.Nat.{mul-le}
use Rattle.fixed_um.specs.Computed.{rounded}
use Rattle.program_flow.specs.Angles.{cosine, decimal_of, distance, in_radians, series, sine}
use Rattle.program_flow.specs.Numbers.{Fraction, IsBounded, bound, gcd, reduced, signed}
use Rattle.program_flow.specs.Roots.{root, whole_root}
use Rattle.program_flow.specs.declared.faults.ValueFault.{ValueFault}
use Rattle.program_flow.specs.declared.faults.ValueFault.TheVariants.{NegativeRoot, PastBound}
use Rattle.program_flow.proofs.Divisors.{unsigned_abs-signed}
use Rattle.program_flow.proofs.Series.{apart-small}
use Rattle.program_flow.proofs.WholeRoots.{whole, whole_below}

both-true : (b c : Bool) (f : Fraction) → b ≡ true → c ≡ true → IsOk (if b && c then Ok f else Err PastBound)
both-true true true f e g = refl
both-true true false f e g = absurd cc
both-true false c f e g = absurd cc

reduced-ok : (a : ℤ) (b : ℕ) → unsigned_abs a ≤ bound → b ≤ bound → IsOk (reduced a b)
unfolding reduced
reduced-ok a b le less =
    let g = gcd (unsigned_abs a) b in let s = div-le_self (unsigned_abs a) g in let t = div-le_self b g in
    both-true _ _ _ (le-leb (unsigned_abs a / g) bound (omega (arith, s, le))) (le-leb (b / g) bound (omega (arith, t, less)))

limit-ok : (b : Bool) (value : Result Fraction ValueFault) → b ≡ true → IsOk value → IsOk (if b then value else Err PastBound)
limit-ok true value e h = h
limit-ok false value e h = absurd cc

sign-ok : (b : Bool) (value : Result Fraction ValueFault) → b ≡ false → IsOk value → IsOk (if b then Err NegativeRoot else value)
sign-ok false value e h = h
sign-ok true value e h = absurd cc

decimal-ok : (negative : Bool) (n m : ℕ) → n ≤ m * 100000000000000000 → IsOk (decimal_of negative n m)
decimal-ok negative n m le =
    let a : rounded n m ≤ bound = div-le_of_le-mul (2 * m) (omega (arith, le)) in let e = unsigned_abs-signed negative (rounded n m) in
    reduced-ok (signed negative (rounded n m)) (10 ^ 12) (omega (arith, a, e)) (omega arith)

pub root-ok : (f : Fraction) → IsBounded f → int_lt f.over (pos 0) ≡ false → unsigned_abs f.over ≤ f.under * 10 ^ 12 → IsOk (root f)
unfolding root
root-ok f h sign le =
    let s = unsigned_abs f.over * 10 ^ 24 / f.under in
    let small : s ≤ 10 ^ 18 * 10 ^ 18 = div-le_of_le-mul f.under (omega (arith, le)) in
    let a = whole_below s (whole_root s) (10 ^ 18) (whole s (omega (arith, small))) small in
    sign-ok _ _ sign (limit-ok _ _ (le-leb _ _ le) (reduced-ok (pos (whole_root s)) (10 ^ 12) (omega (arith, a)) (omega arith)))

pub cosine-ok : (f : Fraction) → IsBounded f → unsigned_abs f.over ≤ f.under * 7 → IsOk (cosine f)
unfolding cosine
cosine-ok f h le =
    let a = apart-small (unsigned_abs f.over) f.under 20 1 _ (series (unsigned_abs f.over) f.under 20 1) h.some (omega arith) le refl refl in
    limit-ok _ _ (le-leb _ _ le) (decimal-ok _ (distance (series (unsigned_abs f.over) f.under 20 1)) (10 ^ 5) (omega (arith, a)))

pub sine-ok : (f : Fraction) → IsBounded f → unsigned_abs f.over ≤ f.under * 7 → IsOk (sine f)
unfolding sine
sine-ok f h le =
    let a = apart-small (unsigned_abs f.over) f.under 20 2 _ (series (unsigned_abs f.over) f.under 20 2) h.some (omega arith) le refl refl in
    let b = mul-le (distance (series (unsigned_abs f.over) f.under 20 2)) (unsigned_abs f.over) (1545 * 10 ^ 17) (f.under * 7) a le in
    limit-ok _ _ (le-leb _ _ le) (decimal-ok _ (distance (series (unsigned_abs f.over) f.under 20 2) * unsigned_abs f.over) (f.under * 10 ^ 5) (omega (arith, b)))

pub radians-ok : (f : Fraction) → unsigned_abs f.over ≤ f.under * 1000000 → IsOk (in_radians f)
unfolding in_radians
radians-ok f le = limit-ok _ _ (le-leb _ _ le)
    (decimal-ok _ (unsigned_abs f.over * 17453292519943295769) (f.under * 10 ^ 9) (omega (arith, le)))
