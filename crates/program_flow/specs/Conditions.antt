-- Whether a condition holds (ISO 22093, IF: comparisons of exact numbers or of texts, `.NOT.` before `.AND.` before `.OR.`). A `(` is 40, a `)` is 41.
use Rattle.std.specs.Prelude.{ℕ, zero, suc, ◌+◌, ◌-◌, Bool, not, bytes_eq, ◌&&◌, ◌||◌, ◌==◌, nat_eq, List, [], ◌∷◌, length, take, drop, codes, slice_index}
use Rattle.std.specs.Prelude.{Option, Some, None, Result, Ok, Err, ℤ, pos, int_lt, unsigned_abs, if◌then◌else◌}
use Rattle.std.specs.List.{starts_with}
use Rattle.program_flow.specs.Numbers.{Fraction, and_then, opposite, sum}
use Rattle.program_flow.specs.Parts.{depth_after, later, trimmed}
use Rattle.program_flow.specs.Pieces.{any_value}
use Rattle.program_flow.specs.Values.{Valuation, Value}
use Rattle.program_flow.specs.Values.Value.{Number, Letters}
use Rattle.program_flow.specs.declared.faults.ValueFault.{ValueFault}
use Rattle.program_flow.specs.declared.faults.ValueFault.TheVariants.{NotExpression, NotNumber, TooDeep}
use Rattle.program_flow.specs.declared.conditions.Comparison.{Comparison}
use Rattle.program_flow.specs.declared.conditions.Comparison.TheVariants.{Below, AtMost, Equal, Unequal, AtLeast, Above}

-- two conditions of which one holds, or both; one that does not; two numbers or texts; parentheses; none of these
pub data Parts : Type 0 where
  Either : List ℕ → List ℕ → Parts
  Both : List ℕ → List ℕ → Parts
  Opposite : List ℕ → Parts
  Compared : List ℕ → Comparison → List ℕ → Parts
  Inside : List ℕ → Parts
  Neither : Parts

-- where a mark is last outside parentheses, and the texts around it
abbrev pub last_mark : List ℕ → ℕ → List ℕ → Option ℕ
last_mark mark depth [] = None
last_mark mark depth (c ∷ cs) = later (last_mark mark (depth_after depth c) cs) ((depth == 0) && starts_with nat_eq (c ∷ cs) mark)

abbrev pub around_at : List ℕ → List ℕ → Option ℕ → Option (List ℕ × List ℕ)
around_at mark text None = None
around_at mark text (Some i) = Some (take i text, drop (i + length mark) text)

abbrev pub around : List ℕ → List ℕ → Option (List ℕ × List ℕ)
around mark text = around_at mark text (last_mark mark 0 text)

abbrev pub compared_or : Comparison → Option (List ℕ × List ℕ) → Parts → Parts
compared_or how None other = other
compared_or how (Some p) other = Compared p.0 how p.1

abbrev pub inside_of : List ℕ → Parts
inside_of [] = Neither
inside_of (c ∷ cs) = if (c == 40) && (slice_index cs (length cs - 1) == 41) then Inside (take (length cs - 1) cs) else Neither

abbrev pub comparison_of : List ℕ → Parts
comparison_of text =
    compared_or Below (around (codes ".LT.") text)
    (compared_or AtMost (around (codes ".LE.") text)
    (compared_or Equal (around (codes ".EQ.") text)
    (compared_or Unequal (around (codes ".NE.") text)
    (compared_or AtLeast (around (codes ".GE.") text)
    (compared_or Above (around (codes ".GT.") text) (inside_of text))))))

abbrev pub negation_of : List ℕ → Parts
negation_of text = if starts_with nat_eq text (codes ".NOT.") then Opposite (drop 5 text) else comparison_of text

abbrev pub both_or : Option (List ℕ × List ℕ) → Parts → Parts
both_or None other = other
both_or (Some p) other = Both p.0 p.1

abbrev pub either_or : Option (List ℕ × List ℕ) → Parts → Parts
either_or None other = other
either_or (Some p) other = Either p.0 p.1

unfoldable pub parts_of : List ℕ → Parts
parts_of text = either_or (around (codes ".OR.") (trimmed text))
    (both_or (around (codes ".AND.") (trimmed text)) (negation_of (trimmed text)))

-- whether a difference is so: less than zero, at most zero, ..
abbrev pub satisfies : Comparison → ℤ → Bool
satisfies Below z = int_lt z (pos 0)
satisfies AtMost z = int_lt z (pos 0) || (unsigned_abs z == 0)
satisfies Equal z = unsigned_abs z == 0
satisfies Unequal z = not (unsigned_abs z == 0)
satisfies AtLeast z = not (int_lt z (pos 0))
satisfies Above z = not (int_lt z (pos 0) || (unsigned_abs z == 0))

abbrev pub compared : Comparison → Fraction → Fraction → Result Bool ValueFault
compared how f g = and_then (sum f (opposite g)) (λ d. Ok (satisfies how d.over))

-- texts are equal or not, and no text is before another
abbrev pub letters_compared : Comparison → Bool → Result Bool ValueFault
letters_compared Equal equal = Ok equal
letters_compared Unequal equal = Ok (not equal)
letters_compared _ equal = Err NotNumber

abbrev pub values_compared : Comparison → Value → Value → Result Bool ValueFault
values_compared how (Number f) (Number g) = compared how f g
values_compared how (Letters text) (Letters other) = letters_compared how (bytes_eq text other)
values_compared how (Number f) (Letters other) = Err NotNumber
values_compared how (Letters text) (Number g) = Err NotNumber

-- the left part's fault comes first
abbrev pub parts_hold : Valuation → (List ℕ → Result Bool ValueFault) → Parts → Result Bool ValueFault
parts_hold values inner (Either left right) = and_then (inner left) (λ a. and_then (inner right) (λ b. Ok (a || b)))
parts_hold values inner (Both left right) = and_then (inner left) (λ a. and_then (inner right) (λ b. Ok (a && b)))
parts_hold values inner (Opposite rest) = and_then (inner rest) (λ a. Ok (not a))
parts_hold values inner (Compared left how right) = and_then (any_value values left) (λ v. and_then (any_value values right) (λ w. values_compared how v w))
parts_hold values inner (Inside text) = inner text
parts_hold values inner Neither = Err NotExpression

-- with conditions within one another up to a limit
unfoldable pub holds_within : Valuation → ℕ → List ℕ → Result Bool ValueFault
holds_within values zero text = Err TooDeep
holds_within values (suc n) text = parts_hold values (holds_within values n) (parts_of text)

abbrev pub holds : Valuation → List ℕ → Result Bool ValueFault
holds values text = holds_within values 100 text
