use Rattle.std.proofs.Common.{ap, map}
use Rattle.program_flow.specs.Named.{seen_call}
use Rattle.program_flow.proofs.Splits.{begun_left}
use Rattle.program_flow.proofs.flow.Flow.new.Goals as goal

pub returns : goal.returns
returns c = begun_left _ _ _ _ c.args.text.items c.in_ok-outside.ensures.inside (ap (map seen_call) c.new.ensures.items) c.in_ok-outside.ensures.outside
    c.new-2.ensures
