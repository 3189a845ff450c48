use Rattle.program_review.proofs.Outside.{◌≡◌, arith, is_at, rules, sym, true}
use Rattle.program_review.proofs.Searches.{found_first, found_none}
use Rattle.program_review.proofs.words.place_from.Goals as goal

pub returns-then-eq_ignore_ascii_case-clause-place : goal.returns-then-eq_ignore_ascii_case-clause-place
returns-then-eq_ignore_ascii_case-clause-place c =
    let t : is_at c.args.text.now c.args.wanted.now c.loop-at.at ≡ true = search rules in
    sym (found_first (is_at c.args.text.now c.args.wanted.now) _ c.args.from c.loop-at.at (omega arith) (omega arith)
    c.loop-at.invariant t)

pub returns-clause-place : goal.returns-clause-place
returns-clause-place c =
    sym (found_none (is_at c.args.text.now c.args.wanted.now) _ c.args.from
    (λ k a b. c.loop-at.invariant k a (omega arith)))
