use Rattle.std.proofs.Common.{sym, ◌∙◌, arith}
use Rattle.dmis_program.proofs.CountLemmas.{one_digit, all_counted, no_digits, past_count, counted, zero_count}
use Rattle.dmis_program.proofs.parameters.count_of.Goals as goal

pub returns-then-not-all_digits : goal.returns-then-not-all_digits
returns-then-not-all_digits c = no_digits c.args.text.now (sym c.all_digits.ensures ∙ c.if-not-all_digits.true)

pub returns-then-value-gt-MOST_TOUCHES : goal.returns-then-value-gt-MOST_TOUCHES
returns-then-value-gt-MOST_TOUCHES c =
    let one = one_digit c.loop-digit.value c.args.text.now c.loop-digit.digit-index c.loop-digit-test.true c.loop-digit.invariant.0
    c.loop-digit.invariant.1 in
    past_count c.args.text.now (sym c.all_digits.ensures ∙ c.if-not-all_digits.false) (omega (arith, one.grows))

pub returns-then-value-gt0 : goal.returns-then-value-gt0
returns-then-value-gt0 c =
    counted c.args.text.now c.loop-digit.value (sym c.all_digits.ensures
    ∙ c.if-not-all_digits.false) (all_counted c.loop-digit.value c.args.text.now c.loop-digit.digit-index c.loop-digit-test.false
    c.loop-digit.invariant.0) c.loop-digit.invariant.2 c.if-value-gt0.true

pub returns-else-value-gt0 : goal.returns-else-value-gt0
returns-else-value-gt0 c =
    zero_count c.args.text.now c.loop-digit.value (sym c.all_digits.ensures
    ∙ c.if-not-all_digits.false) (all_counted c.loop-digit.value c.args.text.now c.loop-digit.digit-index c.loop-digit-test.false
    c.loop-digit.invariant.0) c.if-value-gt0.false
