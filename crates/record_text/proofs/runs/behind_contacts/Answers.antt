use Rattle.record_text.proofs.Names.{◌+◌, ◌∙◌, Act, ap, contacts, drop, List, sym, ℕ}
use Rattle.record_text.proofs.HeadLines.{drop_item}
use Rattle.record_text.proofs.ContactRuns.{contacts_end}
use Rattle.record_text.proofs.runs.behind_contacts.Goals as goal

pub loop-at-preserved : goal.loop-at-preserved
loop-at-preserved c =
    let step = drop_item c.loop-at.at c.args.acts.now c.index-acts-at.result c.loop-at-test.true c.index-acts-at.is in
    sym (c.left_after-left.ensures c.index-acts-at.result.0 (drop (c.loop-at.at + 1) c.args.acts.now))
    ∙ ap (λ (xs : List (ℕ × Act)). drop c.loop-at.left (contacts xs)) (sym step) ∙ c.loop-at.invariant

pub returns : goal.returns
returns c = ap (λ (xs : List (ℕ × Act)). contacts xs) c.split_at-2.ensures.back ∙ contacts_end c.loop-at.at c.loop-at.left c.args.acts.now _ c.loop-at-test.false c.loop-at.invariant
