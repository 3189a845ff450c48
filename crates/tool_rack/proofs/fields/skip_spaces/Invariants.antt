use Rattle.std.proofs.Common.{◌≡◌, length}
use Rattle.tool_rack.specs.Fields.{fields_of}
use Rattle.tool_rack.proofs.fields.skip_spaces.Given as goal

abbrev pub invariant-loop-first : goal.invariant-loop-first
invariant-loop-first l = fields_of l.left ≡ fields_of l.bytes

abbrev pub decreases-loop-first : goal.decreases-loop-first
decreases-loop-first l = length l.left
