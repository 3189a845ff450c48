use Rattle.drawings.specs.Peaks.{greatest_peak}
use Rattle.drawings.proofs.Names.{◌*◌, ◌++◌, ◌+◌, ◌<◌, ◌≡◌, ◌≤◌, labels_at, length}
use Rattle.drawings.proofs.Lines.{lines_for}
use Rattle.drawings.proofs.labels.put_each_label.Given as goal

-- the text so far, and the labels that are left, are the whole text; these labels fit below the highest free line
abbrev pub invariant-loop-left : goal.invariant-loop-left
invariant-loop-left l = record {
  all : l.out.items ++ labels_at l.plan l.marks l.wanted l.left (lines_for l.highest l.left)
      ≡ l.initial.out.items ++ labels_at l.plan l.marks l.wanted l.order (lines_for 26000 l.order);
  few : length l.left ≤ 33;
  most : l.most ≡ greatest_peak l.marks;
  some : 0 < l.most;
  low : 26000 ≤ l.highest;
  room : l.highest + length l.left * 4800 ≤ 190800;
}

abbrev pub decreases-loop-left : goal.decreases-loop-left
decreases-loop-left l = length l.left
