use Rattle.std.proofs.Common.{◌+◌, ◌*◌, ◌-◌, ◌^◌, ◌<◌, get_or, arith}
use Rattle.fixed_um.proofs.DigitLemmas.{one_digit, one_digit_fits}
use Rattle.fixed_um.proofs.scanning.digits_after.Goals as goal

pub overflow_mul-value : goal.overflow_mul-value
overflow_mul-value c =
    let digits = c.args.digits.now in
    let i = c.loop-digit.digit-index in
    let one = one_digit c.loop-digit.value c.args.front digits i c.loop-digit-test.true c.loop-digit.invariant.0 c.loop-digit.invariant.1 in
    let fits : c.loop-digit.value * 10 + (get_or digits i 0 - 48) < 10 ^ 30 =
    one_digit_fits c.loop-digit.value c.args.front digits i (get_or digits i 0) one c.requires.fits in
    omega (arith, fits)

pub overflow_add-value : goal.overflow_add-value
overflow_add-value c =
    let digits = c.args.digits.now in
    let i = c.loop-digit.digit-index in
    let one = one_digit c.loop-digit.value c.args.front digits i c.loop-digit-test.true c.loop-digit.invariant.0 c.loop-digit.invariant.1 in
    let fits : c.loop-digit.value * 10 + (get_or digits i 0 - 48) < 10 ^ 30 =
    one_digit_fits c.loop-digit.value c.args.front digits i (get_or digits i 0) one c.requires.fits in
    omega (arith, fits, c.from.ensures)
