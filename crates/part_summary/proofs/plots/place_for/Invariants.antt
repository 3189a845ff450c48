use Rattle.std.proofs.Common.{◌≡◌, ◌+◌, length}
use Rattle.std.specs.Prelude.{option_map}
use Rattle.part_summary.specs.Times.{place_for}
use Rattle.part_summary.proofs.plots.place_for.Given as goal

abbrev pub invariant-loop-left : goal.invariant-loop-left
invariant-loop-left l = (l.count + place_for (option_map (λ time. time.items) l.fn.time) l.left
    ≡ place_for (option_map (λ time. time.items) l.fn.time) l.fn.parts) × (l.count + length l.left ≡ length l.fn.parts)

abbrev pub decreases-loop-left : goal.decreases-loop-left
decreases-loop-left l = length l.left
