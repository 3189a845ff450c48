use Rattle.deviations.proofs.LimitNames.{length_of-is, sym}
use Rattle.deviations.proofs.entries.length.Goals as goal

pub returns : goal.returns
returns c = sym (length_of-is c.args.text.now c.volume_limit.result c.read_um.result c.volume_limit.ensures c.read_um.ensures)
