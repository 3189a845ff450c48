use Rattle.std.proofs.Common.{suc, ◌-◌}
use Rattle.link_world.specs.Traces.{passed_over}
use Rattle.link_world.proofs.Tracing.{Part}
use Rattle.link_world.proofs.worlds.traces.Trace.keep_passed_over.Given as goal

abbrev pub invariant-loop-before : goal.invariant-loop-before
invariant-loop-before l = Part l.fn.self l.self (passed_over l.world.world (suc l.before) (l.end - l.before))
    (passed_over l.world.world (suc l.taken) (l.end - l.taken))
