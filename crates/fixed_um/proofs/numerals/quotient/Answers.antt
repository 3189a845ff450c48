use Rattle.fixed_um.proofs.RoundingLemmas.{rounds_down, scaled_some, scaled_none}
use Rattle.fixed_um.proofs.numerals.quotient.Goals as goal

pub returns-then-up-down-clause-value : goal.returns-then-up-down-clause-value
returns-then-up-down-clause-value c = rounds_down c.args.digits c.args.up c.args.down c.scaled_down.result c.if-up-down.true
    c.scaled_down.ensures

pub returns-clause-value : goal.returns-clause-value
returns-clause-value c = scaled_some c.args.digits c.args.up c.args.down c.scaled_up.result c.if-up-down.false c.scaled_up.ensures

pub returns-clause-past : goal.returns-clause-past
returns-clause-past c = scaled_none c.args.digits c.args.up c.args.down c.scaled_up.result c.if-up-down.false c.scaled_up.ensures
