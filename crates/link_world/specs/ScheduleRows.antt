-- What the examples state of the texts of schedules. LF is 10.
use Rattle.std.specs.Prelude.{◌≡◌, ℕ, List, [], ◌∷◌, ◌++◌, Ok, Err}
use Rattle.std.specs.List.{flat_map}
use Rattle.link_world.specs.ScheduleTexts.{schedule_of}
use Rattle.link_world.specs.declared.texts.schedules.Instruction.{Instruction}
use Rattle.link_world.specs.declared.texts.schedule_faults.ScheduleFault.TheVariants.{BadLine}

-- a text asks for one thing, and for nothing else
abbrev pub Asks : List ℕ → Instruction → Type 0
Asks text instruction = schedule_of text ≡ Ok (instruction ∷ [])

-- a text is refused at the line of this number
abbrev pub IsRefusedAt : List ℕ → ℕ → Type 0
IsRefusedAt text number = schedule_of text ≡ Err (BadLine number)

-- lines, each followed by LF
abbrev pub lined : List (List ℕ) → List ℕ
lined texts = flat_map (λ text. text ++ 10 ∷ []) texts
