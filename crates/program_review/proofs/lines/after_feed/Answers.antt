use Rattle.program_review.proofs.Outside.{◌∙◌, arith, drop_all}
use Rattle.program_review.proofs.Feeds.{fed_some, fed_none, lines_some, lines_none}
use Rattle.program_review.proofs.lines.after_feed.Goals as goal

pub returns-in-Some-clause-after : goal.returns-in-Some-clause-after
returns-in-Some-clause-after c = fed_some c.args.bytes.now _ _ c.in-Some.ensures.place c.split_at.ensures.back

pub returns-in-Some-clause-others : goal.returns-in-Some-clause-others
returns-in-Some-clause-others c = lines_some c.args.bytes.now _ _ c.in-Some.ensures.place c.split_at.ensures.back

pub returns-in-None-clause-after : goal.returns-in-None-clause-after
returns-in-None-clause-after c =
    fed_none c.args.bytes.now _ c.in-None.ensures.place (c.split_at-in-None.ensures.back ∙ drop_all _ c.args.bytes.now (omega arith))

pub returns-in-None-clause-others : goal.returns-in-None-clause-others
returns-in-None-clause-others c =
    lines_none c.args.bytes.now _ c.in-None.ensures.place (c.split_at-in-None.ensures.back ∙ drop_all _ c.args.bytes.now (omega arith))
