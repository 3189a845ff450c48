use Rattle.drawings.proofs.Names.{◌++◌, ◌+◌, ◌≡◌, anchors_from, length}
use Rattle.drawings.proofs.labels.anchors.Given as goal

-- the anchors so far, and those of the marks that are left, are all anchors
abbrev pub invariant-loop-left : goal.invariant-loop-left
invariant-loop-left l = record {
  all : l.anchors.items ++ anchors_from l.plan l.number l.left ≡ anchors_from l.plan 0 l.marks;
  numbers : l.number + length l.left ≡ length l.marks;
}

abbrev pub decreases-loop-left : goal.decreases-loop-left
decreases-loop-left l = length l.left
