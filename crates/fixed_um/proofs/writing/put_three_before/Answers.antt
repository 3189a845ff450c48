use Rattle.fixed_um.proofs.Names.{◌++◌, ◌∙◌, ◌∷◌, ◌≡◌, ap, arith, drop, drop-drop, sym, three_digits}
use Rattle.fixed_um.proofs.WrittenLemmas.{three_behind_one, three_behind_one-length}
use Rattle.fixed_um.proofs.writing.put_three_before.Goals as goal

pub write_digits-requires : goal.write_digits-requires
write_digits-requires c = (omega (arith, three_behind_one-length c.args.value), c.requires.1)

pub returns-clause-place : goal.returns-clause-place
returns-clause-place c = omega (arith, three_behind_one-length c.args.value, c.write_digits.ensures.start)

pub returns-clause-written : goal.returns-clause-written
returns-clause-written c =
    let start = c.write_digits.result in
    let all : drop start c.write_digits.new.buf ≡ 49 ∷ (three_digits c.args.value ++ drop c.args.end c.args.text.now) =
    c.write_digits.ensures.written ∙ ap (λ ds. ds ++ drop c.args.end c.args.text.now) (three_behind_one c.args.value) in
    sym (drop-drop 1 start c.write_digits.new.buf) ∙ ap (drop 1) all
