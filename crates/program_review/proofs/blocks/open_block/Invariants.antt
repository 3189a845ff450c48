use Rattle.program_review.proofs.Outside.{◌≡◌, length, open_block, opened_by, option_map}
use Rattle.program_review.specs.Blocks.{open_from}
use Rattle.program_review.proofs.blocks.open_block.Given as goal

-- the block so far, followed by the statements that are left
abbrev pub invariant-loop-left : goal.invariant-loop-left
invariant-loop-left l = open_from (option_map opened_by l.block) l.line l.left ≡ open_block l.statements l.line

abbrev pub decreases-loop-left : goal.decreases-loop-left
decreases-loop-left l = length l.left
