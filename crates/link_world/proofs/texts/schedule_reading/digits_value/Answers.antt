use Rattle.link_world.proofs.Names.{◌≡◌, arith, digits_value}
use Rattle.link_world.proofs.ScheduleNumbers.{at_digit, all_read, number_below}
use Rattle.link_world.proofs.texts.schedule_reading.digits_value.Goals as goal

pub overflow_mul-value : goal.overflow_mul-value
overflow_mul-value c =
    let at = at_digit c.loop-digit.value c.args.digits.now c.loop-digit.digit-index c.requires c.loop-digit-test.true
    c.loop-digit.invariant.0 c.loop-digit.invariant.1 in
    omega (arith, at.below)

pub overflow_add-value : goal.overflow_add-value
overflow_add-value c =
    let at = at_digit c.loop-digit.value c.args.digits.now c.loop-digit.digit-index c.requires c.loop-digit-test.true
    c.loop-digit.invariant.0 c.loop-digit.invariant.1 in
    omega (arith, at.below, c.from.ensures)

pub returns-clause-below : goal.returns-clause-below
returns-clause-below c =
    let is : digits_value 10 c.args.digits.now ≡ c.loop-digit.value =
    all_read c.loop-digit.value c.args.digits.now c.loop-digit.digit-index c.loop-digit-test.false c.loop-digit.invariant.0 in
    omega (arith, is, number_below c.args.digits.now c.requires)
