use Rattle.std.proofs.Common.{arith, rules}
use Rattle.dmis_text.proofs.Lanes.{behind_filled}
use Rattle.dmis_text.proofs.runs.long_run_end.Goals as goal

pub loop-at-preserved : goal.loop-at-preserved
loop-at-preserved g c =
    let room = c.loop-at-test.true in
    let behind = behind_filled (g.C.Class.holds c.args.class.now) c.args.bytes.now c.loop-at.at (omega (arith, c.loop-at.invariant.1, room))
    (c.if-is_filled.ensures (search rules)) in
    (omega (arith, behind, c.loop-at.invariant.0), omega (arith, c.loop-at.invariant.1, room))
