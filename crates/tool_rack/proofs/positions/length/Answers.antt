use Rattle.std.proofs.Common.{sym}
use Rattle.tool_rack.proofs.Lengths.{length_of-is}
use Rattle.tool_rack.proofs.positions.length.Goals as goal

pub returns-clause-value : goal.returns-clause-value
returns-clause-value c = sym (length_of-is c.args.text.now c.volume_limit.result c.read_um.result c.volume_limit.ensures c.read_um.ensures)
