-- How the code holds the parts of a condition, and the branch that it chooses: no public clause cites it.
use Rattle.std.specs.Prelude.{ℕ, ◌<◌}
use Rattle.program_flow.specs.Conditions.{Parts}
use Rattle.program_flow.specs.Conditions.Parts.{Either, Both, Opposite, Compared, Inside, Neither}
use Rattle.program_flow.specs.declared.conditions.Cut.{Cut}
use Rattle.program_flow.specs.declared.conditions.Cut.TheVariants as cut
use Rattle.program_flow.specs.declared.selections.Choice.{Choice}
use Rattle.program_flow.specs.declared.selections.Choice.TheVariants.{Branch, NoBranch}

abbrev pub seen : Cut → Parts
seen (cut.Either left right) = Either left.now right.now
seen (cut.Both left right) = Both left.now right.now
seen (cut.Opposite rest) = Opposite rest.now
seen (cut.Compared left how right) = Compared left.now how right.now
seen (cut.Inside text) = Inside text.now
seen cut.Neither = Neither

-- a branch begins before this place
abbrev pub IsWithin : ℕ → Choice → Type 0
IsWithin end (Branch place) = place < end
IsWithin end NoBranch = Unit {0}
