use Rattle.std.proofs.Common.{sym}
use Rattle.program_lowering.proofs.InchLemmas.{inch_position-is}
use Rattle.program_lowering.proofs.inches.position.Goals as goal

pub returns-in-Ok-Some : goal.returns-in-Ok-Some
returns-in-Ok-Some c = rw c.inch_point.ensures (sym (rw (c.in-Ok-Some.is, c.in-Ok-Some.field-0-is) at
    (inch_position-is c.args.x.now c.args.y.now c.args.z.now c.read_dir.result c.read_dir.ensures)))

pub returns-in-Ok-None : goal.returns-in-Ok-None
returns-in-Ok-None c = rw c.zero.ensures (sym (rw (c.in-Ok-None.is, c.in-Ok-None.field-0-is) at
    (inch_position-is c.args.x.now c.args.y.now c.args.z.now c.read_dir.result c.read_dir.ensures)))

pub returns-in-Err : goal.returns-in-Err
returns-in-Err c = sym (rw c.in-Err.is at (inch_position-is c.args.x.now c.args.y.now c.args.z.now c.read_dir.result c.read_dir.ensures))
