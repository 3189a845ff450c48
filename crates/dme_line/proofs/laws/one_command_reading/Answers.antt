use Rattle.dme_line.proofs.OneCommand.{one_command, one_command_reading}
use Rattle.dme_line.proofs.laws.one_command_reading.Goals as goal

pub returns-clause-command : goal.returns-clause-command
returns-clause-command c line t u d e f g = let same = one_command line t u d e f g in (same.tag, same.command)

pub returns-clause-reading : goal.returns-clause-reading
returns-clause-reading c = one_command_reading
