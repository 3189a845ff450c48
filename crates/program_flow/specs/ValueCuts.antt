-- How the code holds and finds the parts of an expression: no public clause cites it.
use Rattle.std.specs.Prelude.{ℕ, Bool, not, ◌||◌, ◌==◌, List, Option, Some, None}
use Rattle.program_flow.specs.Numbers.{Fraction, numeral}
use Rattle.program_flow.specs.Parts.{Parts, asks_operand, is_blank, is_sign}
use Rattle.program_flow.specs.Parts.Parts.{Both, Opposite, Same, Called, Leaf}
use Rattle.program_flow.specs.declared.parts.Cut.{Cut}
use Rattle.program_flow.specs.declared.parts.Cut.TheVariants as cut
use Rattle.program_flow.specs.declared.places.Rank.{Rank}
use Rattle.program_flow.specs.declared.places.Rank.TheVariants.{Sums, Products, Powers}

abbrev pub seen : Cut → Parts
seen (cut.Both left operator right) = Both left.now operator right.now
seen (cut.Opposite rest) = Opposite rest.now
seen (cut.Same rest) = Same rest.now
seen (cut.Called name inner) = Called name.now inner.now
seen (cut.Leaf text) = Leaf text.now

-- neither a blank nor an operator nor the beginning of parentheses
abbrev pub is_bare : ℕ → Bool
is_bare c = not (is_blank c || asks_operand c)

-- no operator of this rank begins with it
abbrev pub lacks : Rank → ℕ → Bool
lacks Sums c = not (is_sign c)
lacks Products c = not ((c == 47) || (c == 42))
lacks Powers c = not (c == 42)

-- a value, or the text as it is
abbrev pub written_or : List ℕ → Option Fraction → List ℕ
written_or text None = text
written_or text (Some f) = numeral f
