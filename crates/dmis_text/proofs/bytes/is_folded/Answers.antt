use Rattle.std.proofs.Common.{◌∙◌, sym}
use Rattle.dmis_text.proofs.Skipping.{kept_run, kept_next}
use Rattle.dmis_text.proofs.bytes.is_folded.Goals as goal

pub loop-at-init : goal.loop-at-init
loop-at-init c = (rw c.kept_end-at.ensures.run (kept_run _ c.args.bytes.now 0), c.kept_end-at.ensures.within)

pub loop-at-preserved : goal.loop-at-preserved
loop-at-preserved c = (
  rw (c.kept_end-at-in-loop-at.ensures.run, c.turned-inside.ensures)
      (kept_next c.loop-at.inside c.args.bytes.now c.loop-at.at c.loop-at-test.true (sym c.is_small.ensures ∙ c.if-is_small.false)
      ∙ c.loop-at.invariant.0),
  c.kept_end-at-in-loop-at.ensures.within,
)
