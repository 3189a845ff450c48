use Rattle.std.proofs.Common.{rules}
use Rattle.witness.proofs.JudgementNames.{◌+◌, ◌∙◌, ◌∷◌, ◌≡◌, ap, drop, first_break, Found, found_at, get_or, Heard, IsCourse, IsStanding, List, None, Option}
use Rattle.witness.proofs.JudgementNames.{option_or, reverse, Rule, server_rule, subst, sym, take}
use Rattle.witness.proofs.Lists.{above_more, first_more, found_more}
use Rattle.witness.proofs.server.server_break.Goals as goal

pub loop-at-preserved : goal.loop-at-preserved
loop-at-preserved c =
    let above = c.split_at-in-loop-at.ensures.front in
    let short = c.loop-at-test.true in
    let kept : c.or-found.result ≡ option_or c.loop-at.found (found_at (c.loop-at.at + 1) c.rule_of.result None) = search rules in
    let more = first_break (server_rule c.args.seen.now c.args.up.now) (reverse (take (c.loop-at.at + 1) c.args.down.now)) (drop (c.loop-at.at + 1) c.args.down.now) in (
      ap (λ (f : Option Found). option_or f more) kept
          ∙ found_more c.loop-at.found (c.loop-at.at + 1) c.rule_of.result more
          ∙ ap (λ (r : Option Rule). option_or c.loop-at.found (found_at (c.loop-at.at + 1) r more)) c.rule_of.ensures
          ∙ ap (λ (l : List Heard). option_or c.loop-at.found (found_at (c.loop-at.at + 1) (server_rule c.args.seen.now c.args.up.now (reverse l) (get_or c.args.down.now c.loop-at.at Heard.Other)) more)) above
          ∙ ap (λ (f : Option Found). option_or c.loop-at.found f) (sym (first_more (server_rule c.args.seen.now c.args.up.now) c.args.down.now c.loop-at.at Heard.Other short))
          ∙ c.loop-at.invariant.0,
      subst (λ (l : List Heard). IsCourse c.args.up.now l c.hear.new.self)
          (ap (λ (l : List Heard). get_or c.args.down.now c.loop-at.at Heard.Other ∷ reverse l) above ∙ sym (above_more c.args.down.now c.loop-at.at Heard.Other short)) c.in_ok-hear.ensures,
      subst (λ (l : List Heard). IsStanding c.args.up.now l c.stand-standing.result)
          (ap (λ (l : List Heard). get_or c.args.down.now c.loop-at.at Heard.Other ∷ reverse l) above ∙ sym (above_more c.args.down.now c.loop-at.at Heard.Other short)) c.stand-standing.ensures,
    )
