use Rattle.record_text.proofs.HeadSteps.{no_within}
use Rattle.record_text.proofs.head_reading.touch_line.Goals as goal

pub returns-in_default-clause-damaged : goal.returns-in_default-clause-damaged
returns-in_default-clause-damaged c n e = no_within c.args.head.now.part c.args.head.now.asked c.args.unfinished c.args.line.now
    c.args.number n e (rw c.in_default.is at c.in_ok-touch.ensures)
