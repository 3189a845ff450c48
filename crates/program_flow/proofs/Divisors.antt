-- Greatest common divisors.
use Rattle.std.proofs.Common.{◌≡◌, ℕ, zero, suc, ◌<◌, ◌≤◌, ◌%◌, arith, refl, rules, subst, sym, ap, ◌∙◌}
use Rattle.std.specs.Int.{IsGcd}
use Rattle.std.specs.Prelude.{◌*◌, ◌/◌, Bool, true, false, ℤ, pos, int_lt, unsigned_abs, Result, Ok, Err, if◌then◌else◌}
use Rattle.std.proofs.Math.Nat.{mul_comm, mul-div_assoc, mul-div_cancel'}
use Rattle.std.proofs.lemmas.Nat.{mod_below}
use Rattle.std.proofs.lemmas.Nat.Gcd.{IsGcd-from_zero, IsGcd-from_mod, same_from_IsGcd, le_of_dvd}
use Rattle.program_flow.specs.Numbers.{Fraction, gcd, gcd_within, reduced, signed}
use Rattle.program_flow.specs.declared.faults.ValueFault.{ValueFault}
use Rattle.program_flow.specs.declared.faults.ValueFault.TheVariants.{PastBound}

-- by as many steps as the second number and one more, Euclid finds it
gcd_within-is : (n a b : ℕ) → b < n → IsGcd a b (gcd_within n a b)
unfolding gcd_within
gcd_within-is zero a b less = absurd (omega (arith, less))
gcd_within-is (suc n) a zero less = IsGcd-from_zero a zero refl
gcd_within-is (suc n) a (suc b) less = IsGcd-from_mod a (suc b) _ (gcd_within-is n (suc b) (a % suc b) (omega (arith, less, mod_below a (suc b) (omega arith))))

pub gcd-is : (a b : ℕ) → IsGcd a b (gcd a b)
gcd-is a b = gcd_within-is (suc b) a b (omega arith)

-- what Euclid's loop has found
pub found_is : (a b g : ℕ) → IsGcd a b g → g ≡ gcd a b
found_is a b g h = same_from_IsGcd a b g (gcd a b) h (gcd-is a b)

pub found_within : (a b g : ℕ) → 0 < b → IsGcd a b g → g ≤ b
found_within a b g some h = le_of_dvd some h.1

-- the fraction in lowest terms is the same one
pub same_fraction : (a b : ℕ) → a / gcd a b * b ≡ a * (b / gcd a b)
same_fraction a b =
    let g = gcd a b in
    mul_comm (a / g) b ∙ (sym (mul-div_assoc g b (gcd-is a b).0) ∙ (ap (λ n. n / g) (mul_comm b a) ∙ mul-div_assoc g a (gcd-is a b).1))

-- what a fraction in lowest terms has in common with the one that it is of
pub record IsSame (a : ℤ) (b : ℕ) (d : Fraction) : Type 0 where
  pub same : unsigned_abs d.over * b ≡ unsigned_abs a * d.under
  pub some : 0 < d.under
  pub sign : int_lt a (pos 0) ≡ false → int_lt d.over (pos 0) ≡ false
  pub turned : int_lt a (pos 0) ≡ true → int_lt d.over (pos 0) ≡ false → unsigned_abs d.over ≡ 0

pub unsigned_abs-signed : (negative : Bool) (n : ℕ) → unsigned_abs (signed negative n) ≡ n
unsigned_abs-signed false n = refl
unsigned_abs-signed true zero = refl
unsigned_abs-signed true (suc n) = refl

pub from-zero : (n : ℕ) → int_lt (pos n) (pos 0) ≡ false
from-zero n = search rules

sign-signed : (negative : Bool) (n : ℕ) → negative ≡ false → int_lt (signed negative n) (pos 0) ≡ false
sign-signed false n e = from-zero n
sign-signed true n e = absurd cc

turned-signed : (negative : Bool) (n : ℕ) → negative ≡ true → int_lt (signed negative n) (pos 0) ≡ false → unsigned_abs (signed negative n) ≡ 0
turned-signed true zero e f = refl
turned-signed true (suc n) e f = absurd cc
turned-signed false n e f = absurd cc

within-made : (b : Bool) (f d : Fraction) → ◌≡◌ {A = Result Fraction ValueFault} (if b then Ok f else Err PastBound) (Ok d) → f ≡ d
within-made true f d e = cc
within-made false f d e = absurd cc

part-some : (g b q : ℕ) → g * q ≡ b → 0 < b → 0 < q
part-some g b zero e some = absurd (omega (arith, e, some))
part-some g b (suc q) e some = omega arith

pub reduced-same : (a : ℤ) (b : ℕ) (d : Fraction) → 0 < b → reduced a b ≡ Ok d → IsSame a b d
unfolding reduced
reduced-same a b d some e =
    let n = unsigned_abs a in
    let made : Fraction = record { over = signed (int_lt a (pos 0)) (n / gcd n b); under = b / gcd n b } in
    let same : IsSame a b made = record {
      same = ap (λ x. x * b) (unsigned_abs-signed (int_lt a (pos 0)) (n / gcd n b)) ∙ same_fraction n b;
      some = part-some (gcd n b) b (b / gcd n b) (mul-div_cancel' (gcd n b) (gcd-is n b).1) some;
      sign = sign-signed (int_lt a (pos 0)) (n / gcd n b);
      turned = turned-signed (int_lt a (pos 0)) (n / gcd n b);
    } in
    subst (λ f. IsSame a b f) (within-made _ made d e) same
