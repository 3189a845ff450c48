use Rattle.fixed_um.proofs.Names.{◌≤◌, length, rules, sym, the_numeral}
use Rattle.fixed_um.proofs.ReadLemmas.{zero_here, zero_long, zero_none}
use Rattle.fixed_um.proofs.numerals.is_any_zero.Goals as goal

pub returns-then-is_short : goal.returns-then-is_short
returns-then-is_short c =
    let short : length (the_numeral c.in-Some.parts).digits ≤ 30 = search rules in
    zero_here c.args.bytes.now (the_numeral c.in-Some.parts) c.digits_value.result (sym c.in-Some.ensures.parts) short
    c.digits_value.ensures.value

pub returns-else-is_short : goal.returns-else-is_short
returns-else-is_short c = zero_long c.args.bytes.now (the_numeral c.in-Some.parts) c.is_short.result (sym c.in-Some.ensures.parts)
    c.is_short.ensures c.if-is_short.false

pub returns-in-None : goal.returns-in-None
returns-in-None c = zero_none c.args.bytes.now (sym c.in-None.ensures.parts)
