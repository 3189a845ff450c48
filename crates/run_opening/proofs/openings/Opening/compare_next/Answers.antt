use Rattle.run_opening.proofs.Names.{State, subst, sym}
use Rattle.std.proofs.Common.{refl}
use Rattle.run_opening.specs.Naming.{AreNone}
use Rattle.run_opening.specs.Openings.{IsComparing}
use Rattle.run_opening.proofs.Comparing.{all_compared, on_next}
use Rattle.run_opening.proofs.openings.Opening.compare_next.Goals as goal

pub returns-in-Some : goal.returns-in-Some
returns-in-Some c = λ run o h. on_next run c.args.from c.in-Some.at _ _ o.answered
    (subst (λ (s : State). IsComparing run c.args.from s.called s.core o.answered) (sym c.self.view_is) h) c.in-Some.ensures.some

pub returns-in-None : goal.returns-in-None
returns-in-None c = λ run o h. c.hold_record.ensures run o (
  h.fresh,
  all_compared run c.args.from _ _ o.answered h
      (subst (λ (s : State). AreNone c.args.from 8 s.core.order) c.self.view_is (c.in-None.ensures.none refl)),
)
