use Rattle.std.proofs.Common.{sym, arith}
use Rattle.fixed_um.proofs.ReadLemmas.{zero_here}
use Rattle.fixed_um.proofs.numerals.is_zero.Goals as goal

pub returns-in-Some : goal.returns-in-Some
returns-in-Some c =
    let plain = c.in-Some.ensures in
    zero_here c.args.bytes.now plain.numeral c.in-Some.plain.digits plain.found (omega (arith, plain.short)) (sym plain.value_is)
