use Rattle.std.proofs.Common.{◌≡◌, ◌∙◌, Ok, Some, arith, rules, subst, sym}
use Rattle.std.specs.Prelude.{None, take}
use Rattle.program_flow.proofs.Appending.{appends-both}
use Rattle.program_flow.proofs.ValueSteps.{expanded-done, expanded-by}
use Rattle.program_flow.specs.Texts.{Appends, appended}
use Rattle.program_flow.proofs.texts.+expanded.Goals as goal

pub push_expanded-returns-then-names-eq0 : goal.push_expanded-returns-then-names-eq0
push_expanded-returns-then-names-eq0 t c = (search rules, λ apart. expanded-done _ _ _ c.if-names-eq0.true)

pub push_expanded-returns-in-Some : goal.push_expanded-returns-in-Some
push_expanded-returns-in-Some t c = subst (λ made. Appends c.push_named.result c.args.out.now.items c.push_named.new.out.items made)
    (expanded-by _ _ _ (Some c.in-Some.mark) (omega (arith, c.if-names-eq0.false)) (sym c.in-Some.is ∙ c.first_place.ensures.value)) c.push_named.ensures

pub push_expanded-returns-in_ok-extend_from_slice-in-None : goal.push_expanded-returns-in_ok-extend_from_slice-in-None
push_expanded-returns-in_ok-extend_from_slice-in-None t c = (
  subst (λ made. appended c.args.out.now.items made ≡ Ok c.extend_from_slice.new.self.items)
      (expanded-by _ _ _ None (omega (arith, c.if-names-eq0.false)) (sym c.in-None.is ∙ c.first_place.ensures.value)) (search rules),
  search rules,
)

pub push_named-returns : goal.push_named-returns
push_named-returns t c = appends-both c.push_expanded.result c.args.out.now.items c.extend_from_slice.new.self.items c.push_inserted.new.out.items
    c.push_expanded.new.out.items (take c.args.mark c.args.text.now) _ _ (rw c.split_at.ensures.front at c.in_ok-extend_from_slice.ensures.items)
    (rw (c.cut_name.ensures.front, c.split_at-2.ensures.back) at c.in_ok-push_inserted.ensures.0)
    (rw (c.cut_name.ensures.behind, c.split_at-2.ensures.back) at c.push_expanded.ensures)
