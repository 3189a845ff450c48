use Rattle.std.proofs.Common.{arith}
use Rattle.link_world.proofs.ScheduleLines.{starts}
use Rattle.link_world.proofs.texts.schedules.Schedule.read.Goals as goal

pub loop-line-init : goal.loop-line-init
loop-line-init c = (starts c.args.text.now c.new.result.items c.new.ensures.items, omega arith)
