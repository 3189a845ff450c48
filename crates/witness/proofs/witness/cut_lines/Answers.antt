use Rattle.witness.proofs.Cuts.{shorter, cut_more, cut_end, cut_fault}
use Rattle.witness.proofs.witness.cut_lines.Goals as goal

pub loop-line-smaller : goal.loop-line-smaller
loop-line-smaller c = shorter c.loop-line.lines.rest _ _ (rw c.in-Ok-Some.field-0-is at c.in-Ok-Some.ensures.line)

pub loop-line-preserved : goal.loop-line-preserved
loop-line-preserved c = λ lines rest fault stream. rw c.in_ok-push-in-Ok-Some.ensures.items
    (cut_more _ c.loop-line.lines.rest _ _ c.loop-line.all.items (rw c.in-Ok-Some.field-0-is at c.in-Ok-Some.ensures.line)
    c.loop-line.invariant lines rest fault stream)

pub returns-in-Ok-None : goal.returns-in-Ok-None
returns-in-Ok-None c = (
  c.loop-line.lines.rest,
  cut_end _ c.loop-line.lines.rest c.loop-line.all.items
      (rw c.in-Ok-None.field-0-is at c.in-Ok-None.ensures.nothing) c.loop-line.invariant,
)

pub returns-in-Err-Framing : goal.returns-in-Err-Framing
returns-in-Err-Framing c = (
  c.loop-line.lines.rest,
  cut_fault _ c.loop-line.lines.rest c.loop-line.all.items _
      (rw c.in-Err-Framing.field-0-is at c.in-Err-Framing.ensures.refused) c.loop-line.invariant,
)
