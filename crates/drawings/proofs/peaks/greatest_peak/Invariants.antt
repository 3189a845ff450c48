use Rattle.drawings.proofs.Names.{◌<◌, ◌≤◌, ◌^◌, ◌≡◌, drop, fold, magnitude, Mark, max}
use Rattle.drawings.proofs.peaks.greatest_peak.Given as goal

abbrev pub invariant-loop-mark : goal.invariant-loop-mark
invariant-loop-mark l = (fold (λ most (m : Mark). max most (magnitude m.peak)) l.most (drop l.mark-index l.marks)
    ≡ fold (λ most (m : Mark). max most (magnitude m.peak)) 1 l.marks) × ((0 < l.most) × (l.most ≤ 2 ^ 64))
