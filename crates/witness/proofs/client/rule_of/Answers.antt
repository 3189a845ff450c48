use Rattle.std.proofs.Common.{rules, reverse, arith}
use Rattle.witness.proofs.AboveLemmas.{previous_among, before_among}
use Rattle.witness.proofs.Lists.{above_count}
use Rattle.witness.proofs.client.rule_of.Goals as goal

pub is_used-requires-clause-one : goal.is_used-requires-clause-one
is_used-requires-clause-one c =
    let count = above_count c.args.lines.now in
    previous_among c.in-Some.tag (reverse c.args.lines.now) _ _ (search rules)
    (omega (arith, count, c.requires.within))

pub is_used-requires-clause-two : goal.is_used-requires-clause-two
is_used-requires-clause-two c =
    let count = above_count c.args.lines.now in
    before_among c.in-Some.tag (reverse c.args.lines.now) _ _ (search rules)
    (omega (arith, count, c.requires.within))
