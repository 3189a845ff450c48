use Rattle.witness.proofs.JudgementNames.{◌&&◌, ◌∙◌, ◌≡◌, ap, Bool, found, front, is_doubtful, is_halted, is_in_turn, is_some, leaves_some, List, nat_lt, Option, reverse, Sought, ℕ}
use Rattle.witness.proofs.JudgedStandings.{first_ends, known_doubt}
use Rattle.witness.proofs.server.command_rule.Goals as goal
use Rattle.witness.proofs.server.command_rule.Goals.{then-is_some, else-is_some}

is_kept : (c : goal.After-mark_rule) → c.if-is_some.doubtful ≡ is_doubtful (reverse c.args.so.above.now) c.args.tag
is_kept c =
    let some = ap (λ (o : Option ℕ). is_some o) (c.look.ensures ∙ ap (λ (l : List (Option ℕ)). found l c.args.tag) c.as_slice.ensures.value) in
    let refused = λ (b : Bool). b && nat_lt 0 c.args.so.course.now.moment.refusals in
    elim c.if-is_some.branch as (λ x. c.if-is_some.doubtful ≡ refused (is_some (found c.args.so.course.now.closed.items c.args.tag))) [
      | then-is_some w ↦ w.doubtful-is ∙ ap refused (w.if-is_some.ensures ∙ some)
      | else-is_some w ↦ w.doubtful-is ∙ w.if-is_some.false ∙ ap refused (w.if-is_some.ensures ∙ some)
    ] ∙ known_doubt c.args.so.up.now (reverse c.args.so.above.now) c.args.so.course.now c.args.so.standing c.args.tag c.requires.known

pub returns : goal.returns
returns c =
    let up = c.args.so.up.now in
    let above = reverse c.args.so.above.now in
    let whole = first_ends up above c.args.tag c.args.reply c.args.at c.args.sent c.requires.there c.requires.within in
    let rule = c.mark_rule.ensures (is_in_turn up above c.args.at c.args.sent) (is_halted up above (front Sought.Open up above) c.args.sent)
    (leaves_some up above c.args.at c.args.sent) c.ending_rule.ensures in
    let stage = c.stage_at-stage.ensures in
    let doubtful = is_kept c in
    let asks = c.asks_under-asks.ensures in
    let ending = c.ending_rule.ensures in
    cc
