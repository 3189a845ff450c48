use Rattle.fixed_um.proofs.RoundingLemmas.{rounds_down, raised_some, raised_none}
use Rattle.fixed_um.proofs.numerals.plain_magnitude.Goals as goal

pub returns-clause-within : goal.returns-clause-within
returns-clause-within c = raised_some c.args.digits c.args.up c.args.down c.args.limit c.raised_within.result c.if-up-down.false
    c.raised_within.ensures

pub returns-clause-past : goal.returns-clause-past
returns-clause-past c = raised_none c.args.digits c.args.up c.args.down c.args.limit c.raised_within.result c.if-up-down.false
    c.raised_within.ensures

pub returns-then-magnitude-limit-clause-past : goal.returns-then-magnitude-limit-clause-past
returns-then-magnitude-limit-clause-past c =
    let scaled = c.word_scaled_down-magnitude in
    (scaled.result, rounds_down c.args.digits c.args.up c.args.down scaled.result c.if-up-down.true scaled.ensures, c.if-magnitude-limit.true)

pub returns-else-magnitude-limit-clause-within : goal.returns-else-magnitude-limit-clause-within
returns-else-magnitude-limit-clause-within c =
    let scaled = c.word_scaled_down-magnitude in
    (c.if-magnitude-limit.false, rounds_down c.args.digits c.args.up c.args.down scaled.result c.if-up-down.true scaled.ensures)
