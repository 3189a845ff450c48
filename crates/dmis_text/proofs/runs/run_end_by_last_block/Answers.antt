use Rattle.dmis_text.proofs.Names.{◌+◌, ◌-◌, ◌∙◌, ap, arith, drop, length, length-take, prefix_len-le-length, sym, take}
use Rattle.dmis_text.proofs.Lanes.{ends_in_block, goes_behind, ends_in_last}
use Rattle.dmis_text.proofs.runs.run_end_by_last_block.Goals as goal

pub returns-then-run-lt-LANES-clause-run : goal.returns-then-run-lt-LANES-clause-run
returns-then-run-lt-LANES-clause-run g c =
    let room = c.loop-at-test.true in
    ap (λ n. c.loop-at.at + n) (sym (ends_in_block _ c.args.bytes.now c.loop-at.at _ (omega (arith, c.loop-at.invariant.2, room))
    c.run_in_block-run.ensures (omega (arith, c.if-run-lt-LANES.true))))
    ∙ c.loop-at.invariant.0

pub returns-clause-run : goal.returns-clause-run
returns-clause-run g c =
    ends_in_last _ c.args.bytes.now c.args.from c.loop-at.at _ _
    (omega (arith, c.loop-at.invariant.1, c.loop-at.invariant.2, c.if-at-from-lt-LANES.false))
    (omega (arith, c.loop-at.invariant.2, c.loop-at-test.false))
    (omega (arith, c.loop-at.invariant.1, c.loop-at.invariant.2, c.if-at-from-lt-LANES.false))
    c.loop-at.invariant.0 c.run_in_block.ensures

pub returns-clause-within : goal.returns-clause-within
returns-clause-within g c = omega (
  arith,
  c.run_in_block.ensures,
  c.loop-at.invariant.1,
  c.loop-at.invariant.2,
  c.if-at-from-lt-LANES.false,
  prefix_len-le-length (g.C.Class.holds c.args.class.now) (take 16 (drop (length c.args.bytes.now - 16) c.args.bytes.now)),
  length-take 16 (drop (length c.args.bytes.now - 16) c.args.bytes.now),
)

pub loop-at-preserved : goal.loop-at-preserved
loop-at-preserved g c =
    let behind = goes_behind _ c.args.bytes.now c.loop-at.at _ (omega (arith, c.loop-at.invariant.2, c.loop-at-test.true))
    c.run_in_block-run.ensures (omega (arith, c.if-run-lt-LANES.false)) in (
      omega (arith, behind.1, c.loop-at.invariant.0),
      omega (arith, c.loop-at.invariant.1),
      omega (arith, behind.0, c.loop-at.invariant.2, c.loop-at-test.true),
    )
