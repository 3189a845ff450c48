use Rattle.fixed_um.proofs.Names.{◌+◌, ◌-◌, ◌<ℤ◌, ◌≡◌, arith, codes, drop-set, ints, length-set, minus_sign, negsuc, pos, refl, rules, ℤ}
use Rattle.fixed_um.proofs.WrittenLemmas.{whole-short}
use Rattle.fixed_um.proofs.writing.put_whole_before.Goals as goal

below_zero : (z : ℤ) → z <ℤ pos 0 → minus_sign z ≡ codes "-"
below_zero (pos n) lt = absurd (omega (arith, ints))
below_zero (negsuc n) lt = refl

pub write_digits-start-requires : goal.write_digits-start-requires
write_digits-start-requires c =
    let short = whole-short c.args.whole c.requires.whole in
    (omega (arith, short), omega (arith, length-set c.args.text.now (c.args.end - 1) 46))

pub returns-clause-written : goal.returns-clause-written
returns-clause-written c =
    let short = whole-short c.args.whole c.requires.whole in
    let negative : c.args.value <ℤ pos 0 = search rules in
    let start = c.write_digits-start.result in
    let next : start - 1 + 1 ≡ start = omega (arith, short, c.write_digits-start.ensures.start) in
    let last : c.args.end - 1 + 1 ≡ c.args.end = omega arith in
    rw (
      drop-set c.write_digits-start.new.buf (start - 1) 45 (omega (arith, short, c.write_digits-start.ensures.start, c.write_digits-start.auto.buf, length-set c.args.text.now (c.args.end - 1) 46)),
      next,
      c.write_digits-start.ensures.written,
      drop-set c.args.text.now (c.args.end - 1) 46 (omega arith),
      last,
      below_zero c.args.value negative,
    )
    refl
