use Rattle.std.proofs.Common.{sym}
use Rattle.dmis_program.proofs.PositionLemmas.{direction_of-is}
use Rattle.program_lowering.proofs.inches.direction.Goals as goal

pub returns-in-Ok-Some : goal.returns-in-Ok-Some
returns-in-Ok-Some c = sym (rw (c.in-Ok-Some.is, c.in-Ok-Some.field-0-is) at
    (direction_of-is c.args.i.now c.args.j.now c.args.k.now c.read_dir.result c.read_dir.ensures))

pub returns-in-Ok-None : goal.returns-in-Ok-None
returns-in-Ok-None c = sym (rw (c.in-Ok-None.is, c.in-Ok-None.field-0-is) at
    (direction_of-is c.args.i.now c.args.j.now c.args.k.now c.read_dir.result c.read_dir.ensures))

pub returns-in-Err : goal.returns-in-Err
returns-in-Err c = sym (rw c.in-Err.is at (direction_of-is c.args.i.now c.args.j.now c.args.k.now c.read_dir.result c.read_dir.ensures))
