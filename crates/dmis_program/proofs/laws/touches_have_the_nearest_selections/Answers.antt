use Rattle.dmis_program.proofs.SelectionLemmas.{touch_tool, touch_frame, touch_machine}
use Rattle.dmis_program.proofs.laws.touches_have_the_nearest_selections.Goals as goal

pub returns-clause-tool : goal.returns-clause-tool
returns-clause-tool c = touch_tool

pub returns-clause-frame : goal.returns-clause-frame
returns-clause-frame c = touch_frame

pub returns-clause-machine : goal.returns-clause-machine
returns-clause-machine c = touch_machine
