use Rattle.std.proofs.Common.{refl}
use lib.Utf8.{encode}
use Rattle.std.specs.Str.{is_utf8, chars}
use Rattle.tool_rack.specs.MachineEntries.{given_on}
use Rattle.tool_rack.proofs.machine_examples.line_rows.Goals as goal

pub returns-clause-text : goal.returns-clause-text
unfolding given_on is_utf8 chars encode
returns-clause-text c = refl
