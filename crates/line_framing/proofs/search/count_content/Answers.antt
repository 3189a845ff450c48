use Rattle.std.proofs.Common.{arith, ◌∙◌, sym, ap, ◌+◌}
use Rattle.line_framing.proofs.Lanes.{ends_in_block, goes_behind}
use Rattle.line_framing.proofs.search.count_content.Goals as goal

pub returns-then-count-lt-LANES-clause-count : goal.returns-then-count-lt-LANES-clause-count
returns-then-count-lt-LANES-clause-count c =
    let room = c.loop-at-test.true in
    ap (λ n. c.loop-at.at + n) (sym (ends_in_block _ c.args.bytes.now c.loop-at.at _ (omega (arith, c.loop-at.invariant.1, room))
    c.count_in_lanes-count.ensures (omega (arith, c.if-count-lt-LANES.true))))
    ∙ c.loop-at.invariant.0

pub loop-at-preserved : goal.loop-at-preserved
loop-at-preserved c =
    let behind = goes_behind _ c.args.bytes.now c.loop-at.at _ (omega (arith, c.loop-at.invariant.1, c.loop-at-test.true))
    c.count_in_lanes-count.ensures (omega (arith, c.if-count-lt-LANES.false)) in (
      omega (arith, behind.1, c.loop-at.invariant.0),
      omega (arith, behind.0, c.loop-at.invariant.1, c.loop-at-test.true),
    )
