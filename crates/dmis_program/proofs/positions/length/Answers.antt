use Rattle.std.proofs.Common.{sym}
use Rattle.dmis_program.proofs.PositionLemmas.{length_of-is}
use Rattle.dmis_program.proofs.positions.length.Goals as goal

pub returns-in-Ok : goal.returns-in-Ok
returns-in-Ok c = sym (rw c.in-Ok.is at (length_of-is c.args.text.now c.volume_limit.result c.read_um.result c.volume_limit.ensures
    c.read_um.ensures))

pub returns-in-Err : goal.returns-in-Err
returns-in-Err c = sym (rw c.in-Err.is at (length_of-is c.args.text.now c.volume_limit.result c.read_um.result c.volume_limit.ensures
    c.read_um.ensures))
