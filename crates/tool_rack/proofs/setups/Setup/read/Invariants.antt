use Rattle.std.proofs.Common.{◌≡◌, ◌+◌, ◌≤◌, length}
use Rattle.std.specs.Str.Lines.{lines}
use Rattle.tool_rack.specs.Setups.{setup_of}
use Rattle.tool_rack.proofs.SetupRuns.{setup_behind}
use Rattle.tool_rack.proofs.setups.Setup.read.Given as goal

-- the setup so far, after the lines that are left, is that of the whole text
abbrev pub invariant-loop-line : goal.invariant-loop-line
invariant-loop-line l = (setup_behind (l.number + 1) l.setup (lines l.rest) ≡ setup_of l.bytes)
    × (l.number + length l.rest ≤ length l.bytes)

abbrev pub decreases-loop-line : goal.decreases-loop-line
decreases-loop-line l = length l.rest
