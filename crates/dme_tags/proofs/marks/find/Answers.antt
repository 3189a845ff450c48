use Rattle.dme_tags.proofs.Names.{◌<◌, ◌∙◌, ◌≤◌, ap, is_held, subst, sym, take_all, ℕ}
use Rattle.dme_tags.proofs.Places.{found_at, nobody, not_yet}
use Rattle.dme_tags.proofs.marks.find.Goals as goal

pub loop-index-preserved : goal.loop-index-preserved
loop-index-preserved c =
    not_yet c.args.tag c.args.commands.now c.loop-index.index c.at-held.result.now
    (subst (λ (n : ℕ). c.loop-index.index < n) c.len-index-end.ensures c.loop-index-test.true)
    (sym c.at-held.ensures) c.loop-index.invariant (sym c.is_same.ensures ∙ c.if-is_same.false)

pub returns-clause-unknown : goal.returns-clause-unknown
returns-clause-unknown c =
    λ front m. nobody front c.args.commands.now c.args.tag m
    (sym (ap (is_held c.args.tag) (take_all c.loop-index.index c.args.commands.now
    (subst (λ (n : ℕ). n ≤ c.loop-index.index) c.len-index-end.ensures c.loop-index-test.false))) ∙ c.loop-index.invariant)
