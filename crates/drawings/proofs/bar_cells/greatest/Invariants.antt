use Rattle.drawings.proofs.Names.{◌<◌, ◌≤◌, ◌^◌, ◌≡◌, drop, fold, magnitude, max}
use Rattle.drawings.proofs.bar_cells.greatest.Given as goal

abbrev pub invariant-loop-row : goal.invariant-loop-row
invariant-loop-row l = (fold (λ most r. max most (magnitude r.along)) l.most (drop l.row-index l.rows)
    ≡ fold (λ most r. max most (magnitude r.along)) 1 l.rows) × ((0 < l.most) × (l.most ≤ 2 ^ 64))
