-- How the code holds values: no public clause cites it.
use Rattle.std.specs.Prelude.{◌≡◌, ℕ, Bool, List, [], Option, Some, None, Result, Ok, Err, IfOk, IfErr, if◌then◌else◌}
use Rattle.program_flow.specs.Pieces.{piece, undoubled}
use Rattle.program_flow.specs.Numbers.{Fraction}
use Rattle.program_flow.specs.Values.{Valuation, Value}
use Rattle.program_flow.specs.Values as values
use Rattle.program_flow.specs.declared.faults.ValueFault.{ValueFault}
use Rattle.program_flow.specs.declared.faults.ValueFault.TheVariants.{Memory}
use Rattle.program_flow.specs.declared.pieces.Piece.{Piece}
use Rattle.program_flow.specs.declared.variables.Held.{Held}
use Rattle.program_flow.specs.declared.variables.Held.TheVariants as held

abbrev pub held_value : Held → Value
held_value (held.Number f) = values.Value.Number f
held_value (held.Letters text) = values.Value.Letters text.items

-- letters as they are, or as a literal has them
abbrev pub letters_in : Bool → List ℕ → List ℕ
letters_in doubled text = if doubled then undoubled text else text

abbrev pub seen_piece : Piece → List ℕ
seen_piece p = letters_in p.doubled p.text.now

abbrev pub seen_letters : Result Piece ValueFault → Result (List ℕ) ValueFault
seen_letters (Ok p) = Ok (seen_piece p)
seen_letters (Err fault) = Err fault

-- a number, or else the letters of a text that has letters
abbrev pub letters_or_none : Result (List ℕ) ValueFault → List ℕ
letters_or_none (Ok text) = text
letters_or_none (Err fault) = []

abbrev pub value_at : Valuation → List ℕ → Option Fraction → Value
value_at said text (Some f) = values.Value.Number f
value_at said text None = values.Value.Letters (letters_or_none (piece said text))

-- what is made, or its fault, or that memory ran out
abbrev pub Finds : {A : Type 0} → Result A ValueFault → Result A ValueFault → Type 0
Finds result made = IfOk result (λ it. made ≡ Ok it) × IfErr result (λ fault. (fault ≡ Memory → ⊥) → made ≡ Err fault)
