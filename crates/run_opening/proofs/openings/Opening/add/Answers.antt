use Rattle.run_opening.proofs.Names.{[], ◌++◌, ◌≡◌, rules, State, subst, sym}
use Rattle.std.proofs.Common.{◌∷◌, ◌≤◌, arith, map, suc}
use Rattle.effects.specs.Naming.{seen_of}
use Rattle.run_opening.specs.Naming.{IsClear}
use Rattle.run_opening.specs.Openings.{IsComparing}
use Rattle.run_opening.proofs.Comparing.{joined}
use Rattle.run_opening.proofs.openings.Opening.add.Goals as goal

pub returns : goal.returns
returns c =
    let clear : IsClear (map seen_of c.self.inside.called.items) (seen_of c.args.called) = search rules in
    let few : c.saturating_add-next.result ≤ suc c.args.called.at = omega arith in
    let more : c.push.new.self.items ≡ c.self.inside.called.items ++ c.args.called ∷ [] = search rules in
    λ run o h. c.compare_next.ensures run (record o { answered = record (o.answered) { seen = o.answered.seen ++ seen_of c.args.called ∷ [] } })
    (joined run c.args.called c.saturating_add-next.result c.self.inside.called.items c.push.new.self.items _ o.answered
    (subst (λ (s : State). IsComparing run c.args.called.at s.called s.core o.answered) (sym c.self.view_is) h) clear few more)
