use Rattle.fixed_um.proofs.Names.{◌-◌, ◌∙◌, ◌≡◌, arith, drop, eqb-true, get_or, length, refl, rules, sym, take}
use Rattle.fixed_um.proofs.PlainLemmas.{whole_fits, fraction_fits, whole_is_plain, fraction_is_plain, pointed_rest, no_rest}
use Rattle.fixed_um.proofs.plain.read_plain.Goals as goal

pub read_digits-whole-requires : goal.read_digits-whole-requires
read_digits-whole-requires c = record { fits = whole_fits c.cut_sign-negative.result.1.now c.if-text-gt19.false }

pub read_digits-digits-requires : goal.read_digits-digits-requires
read_digits-digits-requires c =
    let text = c.cut_sign-negative.result.1.now in
    let rest = c.read_digits-whole.result.1.now in
    let point : get_or rest 0 0 ≡ 46 = search rules in
    let is = sym c.read_digits-whole.ensures.behind ∙ pointed_rest rest point in
    record { fits = rw c.read_digits-whole.ensures.value (fraction_fits text (take (length rest - 1) (drop 1 rest)) c.if-text-gt19.false is) }

pub returns-in-empty : goal.returns-in-empty
returns-in-empty c =
    let text = c.cut_sign-negative.result.1.now in
    let signless = c.cut_sign-negative.ensures.rest in
    let ended = sym c.read_digits-whole.ensures.behind ∙ no_rest c.read_digits-whole.result.1.now c.in-empty.len_below in
    whole_is_plain c.args.bytes.now _ (rw (sym signless) c.if-text-gt19.false) (rw (sym signless) (omega (arith, c.if-text-lt1.false)))
    (rw (sym signless) ended) (sym c.cut_sign-negative.ensures.sign) (rw (sym signless) (sym c.read_digits-whole.ensures.value)) refl

pub returns-else-text-eq1 : goal.returns-else-text-eq1
returns-else-text-eq1 c =
    let text = c.cut_sign-negative.result.1.now in
    let signless = c.cut_sign-negative.ensures.rest in
    let rest = c.read_digits-whole.result.1.now in
    let fraction = take (length rest - 1) (drop 1 rest) in
    let point : get_or rest 0 0 ≡ 46 = search rules in
    let is = sym c.read_digits-whole.ensures.behind ∙ pointed_rest rest point in
    let none : length c.read_digits-digits.result.1.now ≡ 0 = eqb-true _ 0 (sym c.if-not-is_empty.ensures) in
    let ended = sym c.read_digits-digits.ensures.behind ∙ no_rest c.read_digits-digits.result.1.now (omega (arith, none)) in
    let value = rw c.read_digits-whole.ensures.value at c.read_digits-digits.ensures.value in
    fraction_is_plain c.args.bytes.now fraction _ (rw (sym signless) c.if-text-gt19.false)
    (rw (sym signless) (omega (arith, c.if-text-lt1.false, c.if-text-eq1.false))) (rw (sym signless) is) ended
    (sym c.cut_sign-negative.ensures.sign) (rw (sym signless) (sym value)) refl
