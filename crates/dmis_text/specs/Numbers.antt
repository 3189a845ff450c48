-- Numbers of lines.
use Rattle.std.specs.Prelude.{ℕ, ◌+◌, ◌<◌, ◌≤◌, List, [], ◌∷◌}
use Rattle.dmis_text.specs.declared.elements.Statement.{Statement}
use Rattle.dmis_text.specs.declared.reading.TextFault.{TextFault}
use Rattle.dmis_text.specs.declared.reading.TextFault.TheVariants.{LineTooLong, BadByte, Memory}

-- statements that begin on lines from the first number up to the second, each on a later line than the one before it
abbrev pub AreNumbered : ℕ → ℕ → List Statement → Type 0
AreNumbered from to [] = Unit {0}
AreNumbered from to (s ∷ ss) = (from ≤ s.line) × (s.line < to) × AreNumbered (s.line + 1) to ss

-- a refusal of one of these lines; running out of memory has none
abbrev pub IsFaultWithin : ℕ → ℕ → TextFault → Type 0
IsFaultWithin from to (LineTooLong n) = (from ≤ n) × (n < to)
IsFaultWithin from to (BadByte n) = (from ≤ n) × (n < to)
IsFaultWithin from to Memory = ⊥
