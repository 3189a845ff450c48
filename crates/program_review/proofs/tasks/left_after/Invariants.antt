use Rattle.program_review.proofs.Names.{◌≡◌, after_touch, frame_line, last_line, length, None, tool_line, up_to_touch}
use Rattle.program_review.proofs.tasks.left_after.Given as goal

-- what is left of the tasks gives what is left of all of them, and selects what they select
abbrev pub invariant-loop-left : goal.invariant-loop-left
invariant-loop-left l = (after_touch l.left l.rest ≡ after_touch l.touches l.tasks)
    × (last_line l.last (up_to_touch l.left l.rest) ≡ last_line None (up_to_touch l.touches l.tasks))
    × (tool_line l.tool (up_to_touch l.left l.rest) ≡ tool_line None (up_to_touch l.touches l.tasks))
    × (frame_line l.frame (up_to_touch l.left l.rest) ≡ frame_line None (up_to_touch l.touches l.tasks))

abbrev pub decreases-loop-left : goal.decreases-loop-left
decreases-loop-left l = length l.rest
