use Rattle.std.proofs.Common.{◌≡◌, ◌++◌, map, drop}
use Rattle.witness.specs.JudgedLines.{sent_of}
use Rattle.witness.proofs.reading.sent_lines.Given as goal

-- what is read, and what is left to read, are all lines
abbrev pub invariant-loop-line : goal.invariant-loop-line
invariant-loop-line l = l.all.items ++ map sent_of (drop l.line-index l.lines) ≡ map sent_of l.lines
