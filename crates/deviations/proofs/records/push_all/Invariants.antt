use Rattle.std.proofs.Common.{◌≡◌, ◌++◌, [], length, map}
use Rattle.csv.specs.Records.{fields_of, partial_of}
use Rattle.deviations.proofs.records.push_all.Given as goal

abbrev pub invariant-loop-left : goal.invariant-loop-left
invariant-loop-left l = (fields_of l.columns ++ map (λ f. f.now) l.left ≡ fields_of l.fn.columns ++ map (λ f. f.now) l.fn.fields)
    × (partial_of l.columns ≡ [])

abbrev pub decreases-loop-left : goal.decreases-loop-left
decreases-loop-left l = length l.left
