use Rattle.link_world.proofs.Names.{ap, arith, Bool, Err, Ok, Reading, rules, ServerFault, ServerGoesOn, ServerReadStops, subst, sym}
use Rattle.link_world.proofs.ClientPumps.{if_err}
use Rattle.link_world.proofs.ServerPumps.{goes_less, server_lines_none, server_lines_more, server_lines_spent, server_read_stops, is_on}
use Rattle.link_world.proofs.connections.server_pump.read_lines.Goals.{then-has_line+in_ok-count, else-has_line}
use Rattle.link_world.proofs.connections.server_pump.read_lines.Goals as goal

pub loop-budget-init : goal.loop-budget-init
loop-budget-init c = server_lines_none c.args.server.now c.args.budget.now.left

pub returns-in_err-read_one-clause-stops : goal.returns-in_err-read_one-clause-stops
returns-in_err-read_one-clause-stops c = if_err c.from_residual-in_err-read_one.result _ _ c.from_residual-in_err-read_one.ensures.0
    c.from_residual-in_err-read_one.ensures.1
    (server_read_stops c.args.server.now c.loop-budget.server c.read_one.new.self c.in_err-read_one.field-0.0 c.args.budget.now.left
    c.loop-budget.budget.left c.loop-budget.invariant c.in_err-read_one.ensures.others (λ e. c.in_err-read_one.ensures.not_now.0 (ap (λ (x : ServerFault). Err x) e)))

pub loop-budget-preserved : goal.loop-budget-preserved
loop-budget-preserved c = elim c.if-has_line.branch [
  | then-has_line+in_ok-count w ↦ server_lines_more c.args.server.now c.loop-budget.server c.read_one.new.self c.args.budget.now.left
      c.loop-budget.budget.left c.if-has_line.budget.left c.loop-budget.invariant (grind arith)
      (is_on c.loop-budget.server.end.server.on c.in_ok-read_one.field-0 _ c.in_ok-read_one.ensures.not_now.1) (search rules) c.in_ok-read_one.ensures.ok
  | else-has_line w ↦ absurd (grind arith)
]

pub returns-in_err-count-clause-stops : goal.returns-in_err-count-clause-stops
returns-in_err-count-clause-stops c = if_err c.from_residual.result _ _ c.from_residual.ensures.0 c.from_residual.ensures.1
    (subst (ServerReadStops c.args.server.now c.loop-budget.server c.args.budget.now.left) (sym c.in_err-count.ensures.err)
    (server_lines_spent c.args.server.now c.loop-budget.server c.args.budget.now.left c.loop-budget.budget.left c.loop-budget.invariant
    c.in_err-count.ensures.spent))

pub returns-then-not-branch-clause-reads : goal.returns-then-not-branch-clause-reads
returns-then-not-branch-clause-reads c = λ answer.
    subst (ServerGoesOn answer Reading c.args.budget.now.left c.if-has_line.budget.left c.args.server.now)
    (sym (c.in_ok-read_one.ensures.unread (ap (λ (b : Bool). Ok b) (search rules))))
    (goes_less answer Reading c.args.budget.now.left c.loop-budget.budget.left c.if-has_line.budget.left c.args.server.now
    c.loop-budget.server (c.loop-budget.invariant.goes answer) (grind arith))
