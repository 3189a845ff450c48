use Rattle.std.proofs.Common.{arith}
use Rattle.tool_rack.proofs.Growing.{starts}
use Rattle.tool_rack.proofs.setups.Setup.read.Goals as goal

pub loop-line-init : goal.loop-line-init
loop-line-init c = (starts c.args.bytes.now c.empty-setup.result c.empty-setup.ensures, omega arith)
