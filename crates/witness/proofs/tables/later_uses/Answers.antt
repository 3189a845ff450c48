use Rattle.witness.proofs.JudgementNames.{◌+◌, ◌-◌, ◌∙◌, ◌≡◌, arith, AreFirst, AreNext, length, Sent, subst, sym, ℕ}
use Rattle.std.proofs.Common.{rules, slice_set}
use Rattle.witness.proofs.TagTables.{first_more, next_more}
use Rattle.witness.proofs.tables.later_uses.Goals as goal

pub loop-passed-preserved : goal.loop-passed-preserved
loop-passed-preserved c =
    let up = c.args.up.now in
    let at = length up - 1 - c.loop-passed.passed in
    let short = c.loop-passed-test.true in
    let is = sym c.tag_of.ensures ∙ c.in-Some.is in
    let here : at ≡ length up - (c.loop-passed.passed + 1) = omega (arith, short) in
    let later : length up - c.loop-passed.passed ≡ at + 1 = omega (arith, short) in
    let first = subst (λ (n : ℕ). AreFirst up n c.loop-passed.first.items) later c.loop-passed.invariant.0 in
    let next = subst (λ (n : ℕ). AreNext up n c.loop-passed.next.items) later c.loop-passed.invariant.1 in (
      subst (λ (n : ℕ). AreFirst up n c.put.new.table.items) here
          (first_more up at Sent.Untagged c.in-Some.tag c.loop-passed.first.items c.put.new.table.items (omega (arith, short)) is first c.in_ok-put.ensures),
      subst (λ (n : ℕ). AreNext up n (slice_set c.loop-passed.next.items at c.look.result)) here
          (next_more up at Sent.Untagged c.in-Some.tag c.loop-passed.first.items c.loop-passed.next.items _ (omega (arith, short)) is first next
          (search rules) (search rules) (search rules)),
    )
