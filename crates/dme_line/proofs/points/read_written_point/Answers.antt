use Rattle.dme_line.proofs.WrittenLemmas.{point_text}
use Rattle.dme_line.proofs.points.read_written_point.Goals as goal

pub returns-then-is_end : goal.returns-then-is_end
returns-then-is_end c = point_text c.args.text.now c.in-Some.rest.now c.in-Some.point c.in-Some.ensures
    (c.is_end.ensures.0 c.if-is_end.true) c.requires
