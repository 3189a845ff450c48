use Rattle.dmis_text.proofs.Names.{◌∙◌, arith, is_unmarked, prefix_len-le-length, sym}
use Rattle.dmis_text.proofs.Skipping.{cut_first, cut_next}
use Rattle.dmis_text.proofs.bytes.cut_from.Goals as goal

pub loop-at-init : goal.loop-at-init
loop-at-init c = (
  rw c.requires.first (cut_first c.args.mark c.args.bytes.now c.requires.mark),
  omega (arith, c.requires.first, prefix_len-le-length is_unmarked c.args.bytes.now),
)

pub loop-at-preserved : goal.loop-at-preserved
loop-at-preserved c = (
  rw (c.within_end-at.ensures.run, c.turned-inside.ensures)
      (cut_next c.args.mark c.loop-at.inside c.args.bytes.now c.loop-at.at c.requires.mark c.loop-at-test.true
      (sym c.is_cut.ensures ∙ c.if-is_cut.false) ∙ c.loop-at.invariant.0),
  c.within_end-at.ensures.within,
)
