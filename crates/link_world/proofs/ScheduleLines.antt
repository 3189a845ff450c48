-- Lines that are read one by one, and the lines of a whole text.
use Rattle.link_world.proofs.Names.{[], ◌++◌, ◌+◌, ◌∙◌, ◌∷◌, ◌≡◌, ap, append-nil, append_assoc, Bool, Err, false, Instruction, instruction_on}
use Rattle.link_world.proofs.Names.{instructions_on, is_refused, lines, List, None, Ok, Option, position_from, refl, Result, schedule_on}
use Rattle.link_world.proofs.Names.{ScheduleFault, Some, sym, true, ℕ}
use Rattle.tool_rack.specs.Fields.{is_dropped}
use Rattle.link_world.specs.ScheduleTexts.{schedule_of}
use Rattle.link_world.proofs.ScheduleRuns.{read_behind}
use Rattle.link_world.specs.declared.texts.schedule_faults.ScheduleFault.TheVariants.{BadLine}

-- instructions, and then those of lines, or the refusal of the line of this number
abbrev below : List Instruction → Option ℕ → List (List ℕ) → Result (List Instruction) ScheduleFault
below above None lines = Ok (above ++ instructions_on lines)
below above (Some n) lines = Err (BadLine n)

-- if a line is dropped
below_dropped : (above : List Instruction) (line : List ℕ) (lines : List (List ℕ)) (p : Option ℕ) → is_dropped line ≡ true
    → below above p lines ≡ below above p (line ∷ lines)
below_dropped above line lines None d = rw d refl
below_dropped above line lines (Some n) d = refl

-- if a line asks for something
below_asked : (above : List Instruction) (line : List ℕ) (lines : List (List ℕ)) (i : Instruction) (p : Option ℕ) → is_dropped line ≡ false
    → instruction_on line ≡ Some i → below (above ++ i ∷ []) p lines ≡ below above p (line ∷ lines)
below_asked above line lines i None d e = rw (d, e) (ap Ok (append_assoc above (i ∷ []) (instructions_on lines)))
below_asked above line lines i (Some n) d e = refl

abbrev Behind : List (List ℕ) → Type 0
Behind lines = (n : ℕ) (above : List Instruction) → read_behind n above lines ≡ below above (position_from is_refused n lines) lines

one_line : (n : ℕ) (above : List Instruction) (line : List ℕ) (lines : List (List ℕ)) (b : Bool) (r : Option Instruction)
    → is_dropped line ≡ b → instruction_on line ≡ r → Behind lines
    → read_behind n above (line ∷ lines) ≡ below above (position_from is_refused n (line ∷ lines)) (line ∷ lines)
one_line n above line lines true r d e rest = rw d (rest (n + 1) above
    ∙ below_dropped above line lines (position_from is_refused (n + 1) lines) d)
one_line n above line lines false None d e rest = rw (d, e) refl
one_line n above line lines false (Some i) d e rest = rw (d, e) (rest (n + 1) (above ++ i ∷ [])
    ∙ below_asked above line lines i (position_from is_refused (n + 1) lines) d e)

-- lines that are read one by one give what they say together
behind : (lines : List (List ℕ)) → Behind lines
behind [] n above = ap Ok (sym (append-nil above))
behind (line ∷ lines) n above = one_line n above line lines (is_dropped line) (instruction_on line) refl refl (behind lines)

all_below : (p : Option ℕ) (lines : List (List ℕ)) → below [] p lines ≡ schedule_on p lines
all_below None lines = refl
all_below (Some n) lines = refl

pub starts : (text : List ℕ) (above : List Instruction) → above ≡ [] → read_behind 1 above (lines text) ≡ schedule_of text
unfolding schedule_of
starts text above e = rw e (behind (lines text) 1 [] ∙ all_below (position_from is_refused 1 (lines text)) (lines text))
