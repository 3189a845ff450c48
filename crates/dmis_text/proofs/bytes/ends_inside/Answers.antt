use Rattle.std.proofs.Common.{◌∙◌}
use Rattle.dmis_text.proofs.Skipping.{open_run, open_next}
use Rattle.dmis_text.proofs.bytes.ends_inside.Goals as goal

pub loop-at-init : goal.loop-at-init
loop-at-init c = (rw c.run_end-at.ensures.run (open_run _ c.args.bytes.now 0), c.run_end-at.ensures.within)

pub loop-at-preserved : goal.loop-at-preserved
loop-at-preserved c = (
  rw (c.unquoted_end-at.ensures.run, c.turned-inside.ensures)
      (open_next c.loop-at.inside c.args.bytes.now c.loop-at.at c.loop-at-test.true ∙ c.loop-at.invariant.0),
  c.unquoted_end-at.ensures.within,
)
