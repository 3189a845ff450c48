use Rattle.std.proofs.Common.{length}
use Rattle.tool_rack.specs.Fields.{fields_of}
use Rattle.program_review.proofs.fields.fields_of.Given as goal

abbrev pub decreases-loop-bytes : goal.decreases-loop-bytes
decreases-loop-bytes l = length (fields_of l.rest)
