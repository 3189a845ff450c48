-- What only proofs speak of.
use Rattle.std.specs.Prelude.{ℕ, ◌+◌, List, [], ◌∷◌, Result, Ok}
use Rattle.tool_rack.specs.Setups.{SetupValue, and_then}
use Rattle.tool_rack.specs.declared.faults.SetupFault.{SetupFault}
use Rattle.tool_rack.specs.Carrying.{read_line}

-- the setup after more lines, of which the first has number n
abbrev pub setup_behind : ℕ → SetupValue → List (List ℕ) → Result SetupValue SetupFault
setup_behind n s [] = Ok s
setup_behind n s (line ∷ lines) = and_then (read_line n s line) (λ more. setup_behind (n + 1) more lines)
