use Rattle.fixed_um.proofs.Names.{◌-◌, ◌∙◌, ◌≡◌, arith, drop, get_or, is_ascii_digit, length, rules, sym, take, true}
use Rattle.fixed_um.proofs.DigitLemmas.{digit-from_test, value-digit}
use Rattle.fixed_um.proofs.FrontLemmas.{four_rest, three_decimals}
use Rattle.fixed_um.proofs.front.cut_decimals.Goals as goal

pub returns : goal.returns
returns c =
    let text = c.args.text.now in
    let point : get_or text 0 0 ≡ 46 = search rules in
    let is_a : is_ascii_digit (get_or text 1 0) ≡ true = search rules in
    let is_b : is_ascii_digit (get_or text 2 0) ≡ true = search rules in
    let is_c : is_ascii_digit (get_or text 3 0) ≡ true = search rules in
    let a = digit-from_test (get_or text 1 0) is_a in
    let b = digit-from_test (get_or text 2 0) is_b in
    let d = digit-from_test (get_or text 3 0) is_c in
    let at_a = c.from.ensures ∙ sym (value-digit _ a).2 in
    let at_b = c.from-2.ensures ∙ sym (value-digit _ b).2 in
    let at_c = c.from-3.ensures ∙ sym (value-digit _ d).2 in
    three_decimals text (take (length text - 4) (drop 4 text)) (get_or text 1 0) (get_or text 2 0) (get_or text 3 0) _ _ _
    (four_rest text c.in-46.len_at_least point) at_a at_b at_c (omega (arith, at_a, a)) (omega (arith, at_b, b)) (omega (arith, at_c, d))
