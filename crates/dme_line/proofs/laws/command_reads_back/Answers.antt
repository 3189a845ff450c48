use Rattle.dme_line.proofs.CommandBack.{command_reads_back}
use Rattle.dme_line.proofs.CommandWire.{command-wire}
use Rattle.dme_line.proofs.laws.command_reads_back.Goals as goal

pub returns-clause-text : goal.returns-clause-text
returns-clause-text c = command-wire

pub returns-clause-back : goal.returns-clause-back
returns-clause-back c = command_reads_back
