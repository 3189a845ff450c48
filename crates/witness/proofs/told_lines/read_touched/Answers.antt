use Rattle.witness.proofs.OtherLines.{no_last_point, no_tool}
use Rattle.witness.proofs.told_lines.read_touched.Goals as goal

pub returns-in_default-point : goal.returns-in_default-point
returns-in_default-point c a h =
    no_last_point _ _ _ _ _ c.in-Some.target c.in-Some-direction.dir c.in-Some-next_field.tool.now c.in-Some-read_frame.frame a
    c.in-Some.ensures.1 c.in-Some-direction.ensures.1 c.in-Some-next_field.ensures c.in-Some-read_frame.ensures.1
    c.in_default-point.ensures h.0 h.1

pub returns-in_default-2 : goal.returns-in_default-2
returns-in_default-2 c a h =
    no_tool _ _ _ _ _ c.in-Some.target c.in-Some-direction.dir c.in-Some-next_field.tool.now c.in-Some-read_frame.frame a
    c.in-Some.ensures.1 c.in-Some-direction.ensures.1 c.in-Some-next_field.ensures c.in-Some-read_frame.ensures.1
    (rw c.in_default-2.is at c.in_ok-tool.ensures) h.0 h.1
