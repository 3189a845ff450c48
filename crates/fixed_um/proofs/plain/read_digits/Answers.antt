use Rattle.std.proofs.Common.{sym, ◌∙◌, arith}
use Rattle.fixed_um.proofs.PlainLemmas.{digit_here, ended_here, rest_of}
use Rattle.fixed_um.proofs.plain.read_digits.Goals as goal

pub overflow_mul-value : goal.overflow_mul-value
overflow_mul-value c =
    let l = c.loop-index in
    let here = digit_here l.value c.args.front c.args.text.now l.index c.loop-index-test.true
    (sym c.if-not-is_ascii_digit.ensures.value) l.invariant.0 l.invariant.1 in
    omega (arith, here.small, c.requires.fits)

pub overflow_add-value : goal.overflow_add-value
overflow_add-value c =
    let l = c.loop-index in
    let here = digit_here l.value c.args.front c.args.text.now l.index c.loop-index-test.true
    (sym c.if-not-is_ascii_digit.ensures.value) l.invariant.0 l.invariant.1 in
    omega (arith, here.small, c.requires.fits, c.from.ensures)

pub loop-index-preserved : goal.loop-index-preserved
loop-index-preserved c =
    let l = c.loop-index in
    let here = digit_here l.value c.args.front c.args.text.now l.index c.loop-index-test.true
    (sym c.if-not-is_ascii_digit.ensures.value) l.invariant.0 l.invariant.1 in
    (rw c.from.ensures here.more, here.behind)

pub returns-then-not-is_ascii_digit-clause-value : goal.returns-then-not-is_ascii_digit-clause-value
returns-then-not-is_ascii_digit-clause-value c =
    let l = c.loop-index in
    (ended_here l.value c.args.front c.args.text.now l.index c.loop-index-test.true
    (sym c.if-not-is_ascii_digit.ensures.value) l.invariant.0 l.invariant.1).0

pub returns-then-not-is_ascii_digit-clause-behind : goal.returns-then-not-is_ascii_digit-clause-behind
returns-then-not-is_ascii_digit-clause-behind c =
    let l = c.loop-index in
    rest_of c.args.text.now l.index ∙ (ended_here l.value c.args.front c.args.text.now l.index c.loop-index-test.true
    (sym c.if-not-is_ascii_digit.ensures.value) l.invariant.0 l.invariant.1).1
