use Rattle.std.specs.Prelude.{◌+◌, ◌≡◌, ◌≤◌, length}
use Rattle.std.specs.Str.Lines.{lines}
use Rattle.tool_rack.specs.Machines.{given_from, machine_of}
use Rattle.tool_rack.proofs.machines.Machine.read.Given as goal

-- the options so far, after the lines that are left, are those of the whole text
abbrev pub invariant-loop-line : goal.invariant-loop-line
invariant-loop-line l = (given_from (l.number + 1) l.machine (lines l.rest) ≡ machine_of l.bytes)
    × (l.number + length l.rest ≤ length l.bytes)

abbrev pub decreases-loop-line : goal.decreases-loop-line
decreases-loop-line l = length l.rest
