use Rattle.dme_line.proofs.ReadWritable.{read_is_writable}
use Rattle.dme_line.proofs.laws.read_command_is_writable.Goals as goal

pub returns : goal.returns
returns c = read_is_writable
