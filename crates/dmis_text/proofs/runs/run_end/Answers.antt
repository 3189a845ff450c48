use Rattle.std.proofs.Common.{arith, ◌∙◌, sym, ap, ◌+◌}
use Rattle.dmis_text.proofs.Lanes.{ends_in_block, goes_behind}
use Rattle.dmis_text.proofs.runs.run_end.Goals as goal

pub returns-then-run-lt-LANES-clause-run : goal.returns-then-run-lt-LANES-clause-run
returns-then-run-lt-LANES-clause-run g c =
    let room = c.loop-at-test.true in
    ap (λ n. c.loop-at.at + n) (sym (ends_in_block _ c.args.bytes.now c.loop-at.at _ (omega (arith, c.loop-at.invariant.1, room))
    c.run_in_block-run.ensures (omega (arith, c.if-run-lt-LANES.true))))
    ∙ c.loop-at.invariant.0

pub loop-at-preserved : goal.loop-at-preserved
loop-at-preserved g c =
    let behind = goes_behind _ c.args.bytes.now c.loop-at.at _ (omega (arith, c.loop-at.invariant.1, c.loop-at-test.true))
    c.run_in_block-run.ensures (omega (arith, c.if-run-lt-LANES.false)) in
    (omega (arith, behind.1, c.loop-at.invariant.0), omega (arith, behind.0, c.loop-at.invariant.1, c.loop-at-test.true))
