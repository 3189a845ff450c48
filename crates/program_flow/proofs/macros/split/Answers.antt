use Rattle.std.proofs.Common.{ap, arith, length}
use Rattle.program_flow.proofs.Splits.{taken_inside, taken_outside}
use Rattle.program_flow.proofs.macros.split.Goals as goal

pub loop-statement-preserved-in-Continue-1 : goal.loop-statement-preserved-in-Continue-1
loop-statement-preserved-in-Continue-1 c =
    let at = c.loop-statement in
    let it = taken_inside _ _ _ _ _ _ _ _ _ _ _ _ _ _ _ c.in-Some.ensures.items at.invariant.2 at.invariant.0 at.invariant.1 c.in_ok-push.ensures.items
    c.ends_macro-last.ensures c.ends_below-ends.ensures c.begins_macro.ensures c.within_by-inside.ensures c.within_after-within.ensures c.if-inside.true in (
      it.outside,
      it.inside,
      it.ends,
      omega (arith, c.in-Some.ensures.len, at.invariant.3, ap length c.in-Some.ensures.items),
    )

pub loop-statement-preserved : goal.loop-statement-preserved
loop-statement-preserved c =
    let at = c.loop-statement in
    let it = taken_outside _ _ _ _ _ _ _ _ _ _ _ _ _ _ _ c.in-Some.ensures.items at.invariant.2 at.invariant.0 at.invariant.1 c.in_ok-push-2.ensures.items
    c.ends_macro-last.ensures c.ends_below-ends.ensures c.begins_macro.ensures c.within_by-inside.ensures c.within_after-within.ensures c.if-inside.false in (
      it.outside,
      it.inside,
      it.ends,
      omega (arith, c.in-Some.ensures.len, at.invariant.3, ap length c.in-Some.ensures.items),
    )
