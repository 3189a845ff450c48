-- Texts of letters (ISO 22093, CHAR): literals in apostrophes, and what variables have. An apostrophe is 39, a `)` is 41.
use Rattle.std.specs.Prelude.{ℕ, Bool, true, not, ◌-◌, ◌&&◌, ◌==◌, nat_eq, List, [], ◌∷◌, ◌++◌, length, take, drop, codes, slice_index}
use Rattle.std.specs.Prelude.{Option, Some, None, Result, Ok, Err, if◌then◌else◌}
use Rattle.std.specs.List.{starts_with}
use Rattle.program_flow.specs.Numbers.{and_then}
use Rattle.program_flow.specs.Parts.{trimmed}
use Rattle.program_flow.specs.Values.{Valuation, Value, is_variable, value_of}
use Rattle.program_flow.specs.Values.Value.{Number, Letters}
use Rattle.program_flow.specs.declared.faults.ValueFault.{ValueFault}
use Rattle.program_flow.specs.declared.faults.ValueFault.TheVariants.{NotLetters}

-- whether each apostrophe is doubled
abbrev pub are_doubled : List ℕ → Bool
are_doubled [] = true
are_doubled (c ∷ []) = not (c == 39)
are_doubled (c ∷ (d ∷ cs)) = if c == 39 then (d == 39) && are_doubled cs else are_doubled (d ∷ cs)

-- a doubled apostrophe is one
abbrev pub undoubled : List ℕ → List ℕ
undoubled [] = []
undoubled (c ∷ []) = c ∷ []
undoubled (c ∷ (d ∷ cs)) = c ∷ (if c == 39 then undoubled cs else undoubled (d ∷ cs))

-- the letters of a literal: what is between the apostrophes at its ends
abbrev pub between : List ℕ → Result (List ℕ) ValueFault
between inner = if are_doubled inner then Ok (undoubled inner) else Err NotLetters

abbrev pub literal : List ℕ → Result (List ℕ) ValueFault
literal [] = Err NotLetters
literal (c ∷ cs) = if (c == 39) && (slice_index cs (length cs - 1) == 39) then between (take (length cs - 1) cs) else Err NotLetters

abbrev pub letters_of : Value → Result (List ℕ) ValueFault
letters_of (Number f) = Err NotLetters
letters_of (Letters text) = Ok text

-- the letters of a name or of a literal
abbrev pub piece_of : Valuation → List ℕ → Result (List ℕ) ValueFault
piece_of values text = if is_variable text then and_then (values text) letters_of else literal text

abbrev pub piece : Valuation → List ℕ → Result (List ℕ) ValueFault
piece values text = piece_of values (trimmed text)

-- the letters of a text, or its number
abbrev pub or_number : Result (List ℕ) ValueFault → Result Value ValueFault → Result Value ValueFault
or_number (Ok text) number = Ok (Letters text)
or_number (Err fault) number = number

abbrev pub any_value : Valuation → List ℕ → Result Value ValueFault
any_value values text = or_number (piece values text) (and_then (value_of values text) (λ f. Ok (Number f)))

-- the letters of the last piece: what is before the `)` at its end
abbrev pub closed_piece : Valuation → List ℕ → Result (List ℕ) ValueFault
closed_piece values text = if slice_index text (length text - 1) == 41 then piece values (take (length text - 1) text) else Err NotLetters

-- the letters of all pieces, one after the other
abbrev pub joined : Valuation → List ℕ → List (List ℕ) → Result (List ℕ) ValueFault
joined values text [] = closed_piece values text
joined values text (next ∷ others) = and_then (piece values text) (λ front. and_then (joined values next others) (λ rest. Ok (front ++ rest)))

-- what a CHAR is assigned: one piece, or `CONCAT(` of pieces; commas part parameters
abbrev pub lone_piece : Valuation → List ℕ → List (List ℕ) → Result (List ℕ) ValueFault
lone_piece values text [] = piece values text
lone_piece values text (next ∷ others) = Err NotLetters

abbrev pub letters_value : Valuation → List (List ℕ) → Result (List ℕ) ValueFault
letters_value values [] = Err NotLetters
letters_value values (first ∷ others) = if starts_with nat_eq first (codes "CONCAT(") then joined values (drop 7 first) others else lone_piece values first others
