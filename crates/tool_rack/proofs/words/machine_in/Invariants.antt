use Rattle.std.specs.Prelude.{◌≡◌, length, map}
use Rattle.tool_rack.specs.Words.{machine_in}
use Rattle.tool_rack.proofs.words.machine_in.Given as goal

abbrev pub invariant-loop-left : goal.invariant-loop-left
invariant-loop-left l = machine_in (map (λ word. word.now) l.left) ≡ machine_in (map (λ word. word.now) l.words)

abbrev pub decreases-loop-left : goal.decreases-loop-left
decreases-loop-left l = length l.left
