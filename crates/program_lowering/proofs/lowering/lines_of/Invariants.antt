use Rattle.program_lowering.proofs.Names.{◌≡◌, length, lines, List, nothing_carried, Statement, text_reading}
use Rattle.program_flow.specs.Left.{left_of, size}
use Rattle.program_lowering.proofs.EvenLemmas.{Sees}
use Rattle.program_lowering.proofs.Runs.{run}
use Rattle.program_lowering.proofs.lowering.lines_of.Given as goal
use Rattle.program_lowering.specs.Carried.{KnowsAll}
use Rattle.program_lowering.specs.Cartesian.{all_cartesian}
use Rattle.program_lowering.specs.EvenTouches.{touched_from}
use Rattle.program_lowering.specs.Lowering.{prepared}
use Rattle.program_lowering.specs.Valued.{all_valued}

-- what is carried and what still comes out, with its values and touches, give what the whole text gives
abbrev pub invariant-loop-next : goal.invariant-loop-next
invariant-loop-next l = (above : List Statement) × KnowsAll above l.values × ((told : List Statement) × Sees l.choices told l.even
    × (run l.frames l.choices (text_reading l.bytes).fault (length (lines l.bytes))
    (touched_from l.choices told (all_cartesian l.reference (all_valued above (left_of l.flow above)))) l.lowering
    ≡ run l.frames l.choices (text_reading l.bytes).fault (length (lines l.bytes)) (prepared l.choices l.answers l.bytes) nothing_carried))

abbrev pub decreases-loop-next : goal.decreases-loop-next
decreases-loop-next l = size l.flow
