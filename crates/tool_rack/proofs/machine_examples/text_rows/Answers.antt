use Rattle.std.proofs.Common.{refl}
use lib.Utf8.{encode}
use Rattle.std.specs.Str.{is_utf8, chars}
use Rattle.tool_rack.specs.MachineEntries.{given_on}
use Rattle.tool_rack.specs.Machines.{machine_of}
use Rattle.tool_rack.proofs.machine_examples.text_rows.Goals as goal

pub returns-clause-two : goal.returns-clause-two
unfolding machine_of given_on is_utf8 chars encode
returns-clause-two c = refl

pub returns-clause-twice : goal.returns-clause-twice
unfolding machine_of given_on is_utf8 chars encode
returns-clause-twice c = refl
