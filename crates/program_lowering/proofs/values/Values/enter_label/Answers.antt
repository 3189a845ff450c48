use Rattle.program_lowering.proofs.LabelLemmas.{entered}
use Rattle.program_lowering.proofs.values.Values.enter_label.Goals as goal

pub returns-clause-known : goal.returns-clause-known
returns-clause-known c above k =
    entered above c.args.statement.now c.args.self.now.variables c.args.self.now.labels c.enter.new.self c.enter.result k.0.holds k.1 c.enter.ensures.other
    c.enter.ensures.noted
