use Rattle.std.proofs.Common.{rules}
use Rattle.witness.proofs.JudgementNames.{◌∙◌, ap, front, reverse, Sought}
use Rattle.witness.proofs.JudgedStandings.{other_first, stands}
use Rattle.witness.proofs.server.stand.Goals as goal

pub returns-else-waiting-before : goal.returns-else-waiting-before
returns-else-waiting-before c = stands c.args.up.now c.args.heard (reverse c.args.above.now) c.args.before _ c.requires.standing
    (c.front-waiting.ensures.place ∙ ap (front Sought.Open c.args.up.now) c.requires.lines)
    (c.front.ensures.place ∙ ap (front Sought.Unended c.args.up.now) c.requires.lines)
    (c.front-2.ensures.place ∙ ap (front Sought.Clearing c.args.up.now) c.requires.lines)
    (search rules)
    (other_first c.front-waiting.result c.args.before.waiting c.match-heard.reach c.args.before.barred c.if-waiting-before.false)
