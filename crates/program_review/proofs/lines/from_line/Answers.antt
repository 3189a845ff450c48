use Rattle.program_review.proofs.Outside.{◌+◌, ◌-◌, ◌<◌, ◌∙◌, ◌≡◌, after_feeds, ap, arith, length, lines, rules, suc, sym, ℕ}
use Rattle.program_review.proofs.Feeds.{one_feed_more, some_line, last_line}
use Rattle.program_review.proofs.LineSteps.{at_last, asked_there, one_more}
use Rattle.program_review.proofs.lines.from_line.Goals as goal

pub returns-then-is_empty-clause-bytes : goal.returns-then-is_empty-clause-bytes
returns-then-is_empty-clause-bytes c =
    let z : length c.after_feed-after.result.now ≡ 0 = search rules in
    c.loop-left.invariant.behind ∙ ap (λ (k : ℕ). after_feeds k c.args.text.now)
    (at_last _ _ _ _ c.loop-left.invariant.passed c.loop-left-test.true (last_line c.loop-left.rest.now c.after_feed-after.result.now c.after_feed-after.ensures.others z))

pub returns-then-is_empty-clause-lines : goal.returns-then-is_empty-clause-lines
returns-then-is_empty-clause-lines c =
    let z : length c.after_feed-after.result.now ≡ 0 = search rules in
    asked_there _ _ _ _ c.loop-left.invariant.passed
    (at_last _ _ _ _ c.loop-left.invariant.passed c.loop-left-test.true (last_line c.loop-left.rest.now c.after_feed-after.result.now c.after_feed-after.ensures.others z))

pub loop-left-preserved : goal.loop-left-preserved
loop-left-preserved c =
    let z : 0 < length c.after_feed-after.result.now = search rules in
    let p = c.loop-left.invariant.passed in
    let d = p.down in
    let t = c.loop-left-test.true in
    let k : suc (c.args.number - c.loop-left.left) ≡ c.args.number - (c.loop-left.left - 1) = omega arith in
    record {
      passed = one_more _ _ _ _ _ p t c.after_feed-after.ensures.others (some_line c.after_feed-after.result.now z);
      behind = c.after_feed-after.ensures.after ∙ (ap (after_feeds 1) c.loop-left.invariant.behind
          ∙ (sym (one_feed_more (c.args.number - c.loop-left.left) c.args.text.now) ∙ ap (λ (j : ℕ). after_feeds j c.args.text.now) k));
    }
