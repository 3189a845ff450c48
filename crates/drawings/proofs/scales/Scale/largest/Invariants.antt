use Rattle.drawings.proofs.Names.{◌<◌, Fits, ℕ}
use Rattle.drawings.proofs.scales.Scale.largest.Given as goal

abbrev pub invariant-loop-number : goal.invariant-loop-number
invariant-loop-number l = (larger : ℕ) → larger < l.number → Fits larger l.lengths l.room → ⊥
