use Rattle.std.proofs.Common.{◌≡◌, ◌<◌, ◌≤◌, length, sym, arith}
use Rattle.fixed_um.proofs.PlainLemmas.{rest_of}
use Rattle.fixed_um.proofs.FrontLemmas.{taken_small, taken_more, digits_taken}
use Rattle.fixed_um.proofs.front.cut_whole.Goals as goal

pub returns-then-not-is_ascii_digit : goal.returns-then-not-is_ascii_digit
returns-then-not-is_ascii_digit c =
    let l = c.loop-index in
    digits_taken c.args.text.now _ l.index l.value l.invariant (omega (arith, c.loop-index-test.true, c.min-most.ensures))
    (rest_of c.args.text.now l.index)

pub overflow_mul-value : goal.overflow_mul-value
overflow_mul-value c =
    let l = c.loop-index in
    let few : l.index ≤ 7 = omega (arith, c.loop-index-test.true, c.min-most.ensures) in
    let small : l.value < 10000000 = taken_small c.args.text.now l.index l.value l.invariant few in
    omega (arith, small)

pub overflow_add-value : goal.overflow_add-value
overflow_add-value c =
    let l = c.loop-index in
    let few : l.index ≤ 7 = omega (arith, c.loop-index-test.true, c.min-most.ensures) in
    let small : l.value < 10000000 = taken_small c.args.text.now l.index l.value l.invariant few in
    omega (arith, small, c.from.ensures)

pub loop-index-preserved : goal.loop-index-preserved
loop-index-preserved c =
    let l = c.loop-index in
    let within : l.index < length c.args.text.now = omega (arith, c.loop-index-test.true, c.min-most.ensures) in
    rw c.from.ensures (taken_more c.args.text.now l.index l.value l.invariant within (sym c.if-not-is_ascii_digit.ensures.value))

pub returns : goal.returns
returns c =
    let l = c.loop-index in
    let same : l.index ≡ c.min-most.result = omega (arith, c.loop-index-test.false, l.auto.index-end) in
    let few : c.min-most.result ≤ 7 = omega (arith, c.min-most.ensures) in
    digits_taken c.args.text.now _ c.min-most.result l.value (rw same at l.invariant) few (rest_of c.args.text.now c.min-most.result)
