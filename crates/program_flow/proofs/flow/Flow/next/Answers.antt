use Rattle.std.proofs.Common.{◌≡◌, ◌∙◌, [], ◌∷◌, ◌+◌, ◌<◌, List, ap, arith, subst, sym}
use Rattle.dmis_text.specs.declared.elements.Statement.{Statement}
use Rattle.program_flow.specs.Flow.{carried}
use Rattle.program_flow.specs.Left.{IsGiven, Left, left_of, size}
use Rattle.program_flow.proofs.Frames.{ends-next, fewer-seen, given-on, gives-next, passes-next, stops-next}
use Rattle.program_flow.proofs.flow.Flow.next.Goals as goal

pub returns-in-Ends-clause-given : goal.returns-in-Ends-clause-given
returns-in-Ends-clause-given c = λ above h.
    let fewer : c.self.inside.turns ≡ c.take_turn.new.self.turns + 1 = omega (arith, c.loop-self-test.true, c.take_turn.ensures.turns) in
    let step = rw c.in-Ends.is at c.in_ok-take_turn.ensures.step in
    sym (c.loop-self.invariant.2 above h) ∙ subst (λ (l : Left). left_of l above ≡ []) c.self.view_is (ends-next _ c.take_turn.new.self above _ h fewer step)

pub loop-self-preserved : goal.loop-self-preserved
loop-self-preserved c =
    let fewer : c.self.inside.turns ≡ c.take_turn.new.self.turns + 1 = omega (arith, c.loop-self-test.true, c.take_turn.ensures.turns) in
    let less : size c.take_turn.new.self < size c.loop-self.self = fewer-seen _ c.take_turn.new.self _ c.self.view_is fewer in
    let step = rw c.in-Passes.is at c.in_ok-take_turn.ensures.step in (
      c.take_turn.ensures.outside ∙ (ap (λ (l : Left). l.outside) c.self.view_is ∙ c.loop-self.invariant.0),
      omega (arith, less, c.loop-self.invariant.1),
      λ above h. subst (λ (l : Left). left_of c.take_turn.new.self above ≡ left_of l above) c.self.view_is
          (passes-next _ c.take_turn.new.self above _ h fewer c.take_turn.ensures.macros step) ∙ c.loop-self.invariant.2 above h,
    )

pub returns-in-Gives-clause-given : goal.returns-in-Gives-clause-given
returns-in-Gives-clause-given c = λ above h.
    let fewer : c.self.inside.turns ≡ c.take_turn.new.self.turns + 1 = omega (arith, c.loop-self-test.true, c.take_turn.ensures.turns) in
    let same = c.take_turn.ensures.outside ∙ (ap (λ (l : Left). l.outside) c.self.view_is ∙ c.loop-self.invariant.0) in
    let step = rw c.in-Gives.is at c.in_ok-take_turn.ensures.step in (
      step.0,
      subst (λ (ss : List Statement). IsGiven ss c.in-Gives.given step.0) same step.1,
      sym (c.loop-self.invariant.2 above h) ∙ subst (λ (l : Left). left_of l above ≡ step.0 ∷ left_of c.take_turn.new.self (carried above step.0))
          c.self.view_is (gives-next _ c.take_turn.new.self above _ step.0 h fewer c.take_turn.ensures.macros step.2),
    )

pub returns-in-Gives-clause-fewer : goal.returns-in-Gives-clause-fewer
returns-in-Gives-clause-fewer c =
    let fewer : c.self.inside.turns ≡ c.take_turn.new.self.turns + 1 = omega (arith, c.loop-self-test.true, c.take_turn.ensures.turns) in
    let less : size c.take_turn.new.self < size c.loop-self.self = fewer-seen _ c.take_turn.new.self _ c.self.view_is fewer in
    omega (arith, less, c.loop-self.invariant.1)

pub returns-in-Stops-clause-given : goal.returns-in-Stops-clause-given
returns-in-Stops-clause-given c = λ above h.
    let fewer : c.self.inside.turns ≡ c.take_turn.new.self.turns + 1 = omega (arith, c.loop-self-test.true, c.take_turn.ensures.turns) in
    let same = c.take_turn.ensures.outside ∙ (ap (λ (l : Left). l.outside) c.self.view_is ∙ c.loop-self.invariant.0) in
    let step = rw c.in-Stops.is at c.in_ok-take_turn.ensures.step in (
      step.0,
      subst (λ (ss : List Statement). IsGiven ss c.in-Stops.given step.0) same step.1,
      sym (c.loop-self.invariant.2 above h) ∙ subst (λ (l : Left). left_of l above ≡ step.0 ∷ left_of c.take_turn.new.self (carried above step.0))
          c.self.view_is (stops-next _ c.take_turn.new.self above _ step.0 h fewer step.2 step.3),
    )

pub returns-in-Stops-clause-fewer : goal.returns-in-Stops-clause-fewer
returns-in-Stops-clause-fewer c =
    let fewer : c.self.inside.turns ≡ c.take_turn.new.self.turns + 1 = omega (arith, c.loop-self-test.true, c.take_turn.ensures.turns) in
    let less : size c.take_turn.new.self < size c.loop-self.self = fewer-seen _ c.take_turn.new.self _ c.self.view_is fewer in
    omega (arith, less, c.loop-self.invariant.1)

pub returns-clause-given : goal.returns-clause-given
returns-clause-given c = λ above h.
    given-on _ _ _ _ above c.loop-self.invariant.0 (c.loop-self.invariant.2 above h) (c.give_up.ensures.given above)
