-- Definitions by a number that counts down, one step at a time.
use Rattle.std.proofs.Common.{◌≡◌, ℕ, zero, suc, ◌<◌, ◌-◌, Bool, true, false, arith, refl, sym, ap, ◌∙◌}
use Rattle.std.specs.Prelude.{Result, Ok, Err, List, Option, Some, None, ◌==◌, is_some, if◌then◌else◌}
use Rattle.std.specs.Result.{result_ok}
use Rattle.program_flow.specs.Numbers.{Fraction, multiplied, and_then, product}
use Rattle.program_flow.specs.Parts.{Parts, parts_of}
use Rattle.std.specs.List.{position}
use Rattle.program_flow.specs.Texts.{expanded, expanded_at, expanded_within}
use Rattle.program_flow.specs.ValueCuts.{written_or}
use Rattle.program_flow.specs.Values.{Valuation, computed, is_constant, numeral_or, parts_value, value_of, value_within}
use Rattle.program_flow.specs.declared.faults.ValueFault.{ValueFault}
use Rattle.program_flow.specs.declared.faults.ValueFault.TheVariants.{TooDeep}

pub multiplied-done : (f value : Fraction) (n : ℕ) → n ≡ 0 → Ok value ≡ multiplied f n value
unfolding multiplied
multiplied-done f value zero e = refl
multiplied-done f value (suc n) e = absurd (omega (arith, e))

multiplied-step : (f value : Fraction) (m n : ℕ) → suc m ≡ n → and_then (product value f) (λ next. multiplied f m next) ≡ multiplied f n value
unfolding multiplied
multiplied-step f value m n e = rw (sym e) refl

pub multiplied-on : (f value next : Fraction) (n : ℕ) → 0 < n → product value f ≡ Ok next → multiplied f (n - 1) next ≡ multiplied f n value
multiplied-on f value next n some e = ap (λ r. and_then r (λ next. multiplied f (n - 1) next)) (sym e) ∙ multiplied-step f value (n - 1) n (omega (arith, some))

pub multiplied-ends : (f value : Fraction) (fault : ValueFault) (n : ℕ) → 0 < n → product value f ≡ Err fault → Err fault ≡ multiplied f n value
multiplied-ends f value fault n some e = ap (λ r. and_then r (λ next. multiplied f (n - 1) next)) (sym e) ∙ multiplied-step f value (n - 1) n (omega (arith, some))

pub value_within-done : (said : Valuation) (n : ℕ) (text : List ℕ) → n ≡ 0 → Err TooDeep ≡ value_within said n text
unfolding value_within
value_within-done said zero text e = refl
value_within-done said (suc n) text e = absurd (omega (arith, e))

value_within-step : (said : Valuation) (m n : ℕ) (text : List ℕ) → suc m ≡ n
    → parts_value said (value_within said m) (parts_of text) ≡ value_within said n text
unfolding value_within
value_within-step said m n text e = rw (sym e) refl

pub value_within-by : (said : Valuation) (n : ℕ) (text : List ℕ) (parts : Parts) → 0 < n → parts ≡ parts_of text
    → parts_value said (value_within said (n - 1)) parts ≡ value_within said n text
value_within-by said n text parts some e = ap (λ p. parts_value said (value_within said (n - 1)) p) e
    ∙ value_within-step said (n - 1) n text (omega (arith, some))

-- a text with its value in its place, by its parts
or-same : (text : List ℕ) (r : Result Fraction ValueFault) → written_or text (result_ok r) ≡ numeral_or text r
or-same text (Ok f) = refl
or-same text (Err fault) = refl

not-constant : (text other : List ℕ) (b : Bool) → b ≡ false → other ≡ (if b then text else other)
not-constant text other false h = refl
not-constant text other true h = absurd cc

pub computed-by : (said : Valuation) (text : List ℕ) (parts : Parts) (value : Result Fraction ValueFault) (made : Option Fraction)
    → parts ≡ parts_of text → is_constant parts ≡ false → value ≡ parts_value said (value_within said 99) parts → made ≡ result_ok value
    → written_or text made ≡ computed said text
computed-by said text parts value made e c v m = ap (λ o. written_or text o) m ∙ (or-same text value
    ∙ (ap (λ r. numeral_or text r) (v ∙ value_within-by said 100 text parts (omega arith) e)
    ∙ not-constant text (numeral_or text (value_of said text)) (is_constant (parts_of text)) (ap is_constant (sym e) ∙ c)))

pub expanded-done : (values : Valuation) (n : ℕ) (text : List ℕ) → n ≡ 0 → expanded_within values n text ≡ Err TooDeep
unfolding expanded_within
expanded-done values zero text e = refl
expanded-done values (suc n) text e = absurd (omega (arith, e))

expanded-step : (values : Valuation) (m n : ℕ) (text : List ℕ) → suc m ≡ n
    → expanded_at values (expanded_within values m) text (position (λ b. b == 64) text) ≡ expanded_within values n text
unfolding expanded_within
expanded-step values m n text e = rw (sym e) refl

pub expanded-by : (values : Valuation) (n : ℕ) (text : List ℕ) (place : Option ℕ) → 0 < n
    → place ≡ position (λ b. b == 64) text → expanded_at values (expanded_within values (n - 1)) text place ≡ expanded_within values n text
expanded-by values n text place some e = ap (λ p. expanded_at values (expanded_within values (n - 1)) text p) e
    ∙ expanded-step values (n - 1) n text (omega (arith, some))

pub no-names : (values : Valuation) (text : List ℕ) (place : Option ℕ) → place ≡ position (λ b. b == 64) text → is_some place ≡ false
    → expanded values text ≡ Ok text
no-names values text None e h = sym (expanded-by values 100 text None (omega arith) e)
no-names values text (Some i) e h = absurd cc
