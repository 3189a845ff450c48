-- Definitions that only proofs use.
use Rattle.link_world.proofs.Names.{[], ◌+◌, ◌∷◌, Err, Instruction, List, Ok, Result, ScheduleFault, ℕ}
use Rattle.link_world.specs.ScheduleCarrying.{read_line}

-- one step, and then the next with what it gave
abbrev pub and_behind : Result (List Instruction) ScheduleFault → (List Instruction → Result (List Instruction) ScheduleFault)
    → Result (List Instruction) ScheduleFault
and_behind (Ok instructions) f = f instructions
and_behind (Err fault) f = Err fault

-- the instructions followed by those of more lines, of which the first has number n
abbrev pub read_behind : ℕ → List Instruction → List (List ℕ) → Result (List Instruction) ScheduleFault
read_behind n above [] = Ok above
read_behind n above (line ∷ lines) = and_behind (read_line n above line) (λ more. read_behind (n + 1) more lines)
