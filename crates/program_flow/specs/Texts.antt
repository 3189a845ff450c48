-- Names in a label or a parameter: `@NAME` stands for the value of NAME (ISO 22093; this profile: a whole number, or letters). An `@` is 64.
use Rattle.std.specs.Prelude.{ℕ, zero, suc, ◌+◌, List, ◌++◌, drop, take, Option, Some, None, Result, Ok, Err, OnOk, IfErr, ◌≡◌, ℤ, ◌==◌, if◌then◌else◌}
use Rattle.std.specs.Fmt.{signed_decimal}
use Rattle.std.specs.List.{position, prefix_len}
use Rattle.program_flow.specs.Numbers.{Fraction, and_then}
use Rattle.program_flow.specs.Values.{Valuation, Value, is_name_byte}
use Rattle.program_flow.specs.Values.Value.{Number, Letters}
use Rattle.program_flow.specs.declared.faults.ValueFault.{ValueFault}
use Rattle.program_flow.specs.declared.faults.ValueFault.TheVariants.{Memory, NotWhole, TooDeep}

-- names in one text
abbrev pub most_names : ℕ
most_names = 100

abbrev pub whole_of : Fraction → Result ℤ ValueFault
whole_of f = if f.under == 1 then Ok f.over else Err NotWhole

-- letters as they are, a whole number in digits
abbrev pub inserted : Value → Result (List ℕ) ValueFault
inserted (Number f) = and_then (whole_of f) (λ n. Ok (signed_decimal n))
inserted (Letters text) = Ok text

-- the name at the beginning of a text, and what follows it
abbrev pub name_front : List ℕ → List ℕ
name_front text = take (prefix_len is_name_byte text) text

abbrev pub name_behind : List ℕ → List ℕ
name_behind text = drop (prefix_len is_name_byte text) text

-- the text before an `@`, the value of the name after it, and what `rest` makes of the text after that
abbrev pub expanded_at : Valuation → (List ℕ → Result (List ℕ) ValueFault) → List ℕ → Option ℕ → Result (List ℕ) ValueFault
expanded_at values rest text None = Ok text
expanded_at values rest text (Some i) = and_then (and_then (values (name_front (drop (i + 1) text))) inserted)
    (λ value. and_then (rest (name_behind (drop (i + 1) text))) (λ more. Ok (take i text ++ (value ++ more))))

-- a text with that many names at most, each in its value's place
unfoldable pub expanded_within : Valuation → ℕ → List ℕ → Result (List ℕ) ValueFault
expanded_within values zero text = Err TooDeep
expanded_within values (suc n) text = expanded_at values (expanded_within values n) text (position (λ b. b == 64) text)

abbrev pub expanded : Valuation → List ℕ → Result (List ℕ) ValueFault
expanded values text = expanded_within values most_names text

-- a text joined the end, or the fault is answered, or that memory ran out
abbrev pub appended : List ℕ → Result (List ℕ) ValueFault → Result (List ℕ) ValueFault
appended old made = and_then made (λ text. Ok (old ++ text))

abbrev pub Appends : {A : Type 0} → Result A ValueFault → List ℕ → List ℕ → Result (List ℕ) ValueFault → Type 0
Appends result old new made = OnOk result (appended old made ≡ Ok new) × IfErr result (λ fault. (fault ≡ Memory → ⊥) → made ≡ Err fault)
