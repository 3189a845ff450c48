use Rattle.std.proofs.Common.{suc, ◌-◌, rules}
use Rattle.link_world.specs.Traces.{passed_over}
use Rattle.link_world.proofs.Tracing.{part_none, part_more, part_all}
use Rattle.link_world.proofs.worlds.traces.Trace.keep_passed_over.Goals as goal

pub loop-before-init : goal.loop-before-init
loop-before-init c = part_none c.args.self.now _

pub loop-before-preserved : goal.loop-before-preserved
loop-before-preserved c = part_more c.args.self.now c.loop-before.self c.keep.new.self c.args.world.now.world c.loop-before.before
    c.args.end _ c.loop-before.invariant (search rules) (search rules)

pub returns : goal.returns
returns c = part_all c.args.self.now c.loop-before.self c.args.world.now.world c.loop-before.before c.args.end _
    c.loop-before.invariant (search rules)
