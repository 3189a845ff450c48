use Rattle.tool_rack.proofs.SpacingLaws.{spaced_fields, fields_whole}
use Rattle.tool_rack.proofs.laws.spaces_separate_fields.Goals as goal

pub returns-clause-read : goal.returns-clause-read
returns-clause-read c = spaced_fields

pub returns-clause-whole : goal.returns-clause-whole
returns-clause-whole c = fields_whole
