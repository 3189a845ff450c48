use Rattle.link_world.proofs.Names.{◌∙◌, arith, IsWorkFault, Job, Outcome, refl, ServerGoesOn, subst, sym, Working, ℕ}
use Rattle.link_world.proofs.ClientPumps.{if_err}
use Rattle.link_world.proofs.ServerPumps.{works_none, works_on, most_steps, goes_less}
use Rattle.link_world.proofs.connections.server_pump.work.Goals as goal

pub loop-budget-init : goal.loop-budget-init
loop-budget-init g c = (
  works_none (g.M.Machine.answers c.args.machine.now) c.args.budget.now.left c.args.server.now,
  refl,
  omega arith,
  most_steps c.args.server.now c.view-known.ensures.few,
)

pub loop-budget-preserved : goal.loop-budget-preserved
loop-budget-preserved g c =
    let so_far = c.loop-budget.invariant.2 in
    let step = c.in_ok-count.ensures.ok in
    let less = c.in_ok-work_once.ensures.less in (
      works_on (g.M.Machine.answers c.args.machine.now) c.args.budget.now.left c.loop-budget.budget.left c.count.new.self.left
          c.args.server.now c.loop-budget.server c.work_once.new.server c.loop-budget.invariant.0 step
          (subst (λ (answer : Job → ℕ → Outcome). ServerGoesOn answer Working 1 0 c.loop-budget.server c.work_once.new.server)
          c.loop-budget.invariant.1 c.work_once.ensures.goes),
      c.work_once.ensures.keeps ∙ c.loop-budget.invariant.1,
      omega (arith, so_far, step, less),
      c.loop-budget.invariant.3,
    )

pub returns-in_err-count-clause-goes : goal.returns-in_err-count-clause-goes
returns-in_err-count-clause-goes g c = goes_less (g.M.Machine.answers c.args.machine.now) Working c.args.budget.now.left
    c.loop-budget.budget.left c.count.new.self.left c.args.server.now c.loop-budget.server c.loop-budget.invariant.0 c.count.ensures.less

pub returns-in_err-count-clause-faults : goal.returns-in_err-count-clause-faults
returns-in_err-count-clause-faults g c =
    let so_far = c.loop-budget.invariant.2 in
    let most = c.loop-budget.invariant.3 in
    let none = c.in_err-count.ensures.spent in
    if_err c.from_residual.result _ _ c.from_residual.ensures.0 c.from_residual.ensures.1
    (subst (IsWorkFault c.args.budget.now.left) (sym c.in_err-count.ensures.err) (omega (arith, so_far, most, none)))

pub returns-in_err-work_once-clause-goes : goal.returns-in_err-work_once-clause-goes
returns-in_err-work_once-clause-goes g c = works_on (g.M.Machine.answers c.args.machine.now) c.args.budget.now.left
    c.loop-budget.budget.left c.count.new.self.left c.args.server.now c.loop-budget.server c.work_once.new.server c.loop-budget.invariant.0
    c.in_ok-count.ensures.ok
    (subst (λ (answer : Job → ℕ → Outcome). ServerGoesOn answer Working 1 0 c.loop-budget.server c.work_once.new.server)
    c.loop-budget.invariant.1 c.work_once.ensures.goes)

pub returns-in_err-work_once-clause-faults : goal.returns-in_err-work_once-clause-faults
returns-in_err-work_once-clause-faults g c = if_err c.from_residual-in_err-work_once.result _ _
    c.from_residual-in_err-work_once.ensures.0 c.from_residual-in_err-work_once.ensures.1
    (subst (IsWorkFault c.args.budget.now.left) (sym c.in_err-work_once.ensures.memory) tt)
