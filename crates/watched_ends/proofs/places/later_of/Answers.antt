use Rattle.watched_ends.proofs.Names.{[], ◌+◌, ◌∙◌, AreQuiet, arith, at_once_line, refl, subst, sym}
use Rattle.watched_ends.proofs.PlaceLemmas.{same_item, quiet_more, last_all, quiet_all, quiet_within}
use Rattle.watched_ends.proofs.places.later_of.Goals as goal

pub loop-at-preserved : goal.loop-at-preserved
loop-at-preserved c =
    let before = c.loop-at.invariant in
    let there = same_item c.args.up.now c.loop-at.at [] c.index-up-at.result c.loop-at-test.true ∙ sym c.index-up-at.is ∙ sym c.as_slice.ensures.bytes in
    let quiet = subst (AreQuiet c.args.up.now (c.loop-at.at + 1)) (sym c.in_ok-quiet.ensures.quiet)
    (quiet_more c.args.up.now c.loop-at.at c.loop-at.quiet c.as_slice.result.now there before.1 (at_once_line c.as_slice.result.now) refl) in (
      c.in_ok-quiet.ensures.noted c.args.up.now there before.0,
      quiet,
      quiet_within (at_once_line c.as_slice.result.now) c.loop-at.at c.loop-at.quiet _ c.in_ok-quiet.ensures.quiet before.2,
    )

pub returns-clause-last : goal.returns-clause-last
returns-clause-last c = last_all c.args.up.now c.loop-at.at c.loop-at.places.items (omega (arith, c.loop-at-test.false)) c.loop-at.invariant.0

pub returns-clause-quiet : goal.returns-clause-quiet
returns-clause-quiet c = quiet_all c.args.up.now c.loop-at.at c.loop-at.quiet (omega (arith, c.loop-at-test.false)) c.loop-at.invariant.1
