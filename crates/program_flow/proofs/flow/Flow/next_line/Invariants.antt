use Rattle.std.proofs.Common.{◌≡◌, ◌++◌, ◌∷◌, [], length, map}
use Rattle.program_flow.specs.Calls.{given_up_in}
use Rattle.program_flow.specs.Left.{frames_of}
use Rattle.program_flow.specs.Named.{seen_call}
use Rattle.program_flow.proofs.flow.Flow.next_line.Given as goal

abbrev pub invariant-loop-left : goal.invariant-loop-left
invariant-loop-left l = given_up_in (map seen_call l.left ++ (record { name = []; statements = l.self.outside; control = l.self.control } ∷ []))
    ≡ given_up_in (frames_of l.self)

abbrev pub decreases-loop-left : goal.decreases-loop-left
decreases-loop-left l = length l.left
