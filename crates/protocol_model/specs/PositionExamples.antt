-- A program with moves and another tool between its touches (this profile).
use Rattle.std.specs.Prelude.{pos, [], ◌∷◌, codes}
use Rattle.fixed_um.specs.declared.frames.Frame.TheVariants as frame
use Rattle.dmis_program.specs.Meaning.{Meaning as Program, meaning_with, touch_with}
use Rattle.dmis_program.specs.declared.features.Touch.{Touch}
use Rattle.dmis_program.specs.declared.steps.Step.TheVariants as step
use Rattle.protocol_model.specs.Examples.{at, from_above}

-- a program with a move and another tool between the last touch of its first feature and the end of
-- that block, and a move between the blocks
abbrev pub moved_between : Program
moved_between = meaning_with (
    step.Tool (codes "P1")
    ∷ step.Begin (codes "A")
    ∷ step.Touch (touch_with (codes "P1") frame.Machine
    (at (pos 1000) (pos 2000) (pos 3000)) from_above)
    ∷ step.Goto (at (pos 1000) (pos 2000) (pos 10000))
    ∷ step.Tool (codes "P2") ∷ step.End
    ∷ step.Goto (at (pos 4000) (pos 5000) (pos 10000))
    ∷ step.Begin (codes "B")
    ∷ step.Touch (touch_with (codes "P2") frame.Machine
    (at (pos 4000) (pos 5000) (pos 6000)) from_above)
    ∷ step.End
    ∷ [])
