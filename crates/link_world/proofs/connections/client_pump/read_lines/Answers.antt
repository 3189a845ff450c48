use Rattle.link_world.proofs.Names.{◌∙◌, ap, arith, ClientEnd, may_read, next_of, rules}
use Rattle.link_world.proofs.ClientPumps.{not_there, lines_none, lines_more, lines_end, read_stops, spends_more, stays, one_line, no_line}
use Rattle.link_world.proofs.connections.client_pump.read_lines.Goals.{then-has_line+in_ok-count, else-has_line}
use Rattle.link_world.proofs.connections.client_pump.read_lines.Goals as goal

pub loop-budget-init : goal.loop-budget-init
loop-budget-init c = lines_none c.args.client.now c.args.budget.now.left

pub returns-in_err-count-clause-reads : goal.returns-in_err-count-clause-reads
returns-in_err-count-clause-reads c = spends_more c.args.client.now c.loop-budget.client c.args.budget.now.left c.loop-budget.budget.left
    c.count.new.self.left c.loop-budget.invariant.goes c.count.ensures.less

pub returns-then-not-branch-clause-reads : goal.returns-then-not-branch-clause-reads
returns-then-not-branch-clause-reads c = stays c.args.client.now c.loop-budget.client c.read_one.new.self c.args.budget.now.left
    c.loop-budget.budget.left c.if-has_line.budget.left c.loop-budget.invariant.goes (grind arith)
    (lines_end c.loop-budget.client c.read_one.new.self
    (not_there c.in_ok-read_one.field-0 _ c.in_ok-read_one.ensures.read (search rules)) c.in_ok-read_one.ensures.fine
    c.in_ok-read_one.ensures.ok).same

pub returns-in_err-read_one-clause-reads : goal.returns-in_err-read_one-clause-reads
returns-in_err-read_one-clause-reads c = (read_stops c.args.client.now c.loop-budget.client c.read_one.new.self
    c.in_err-read_one.field-0.0 c.args.budget.now.left c.loop-budget.budget.left c.if-has_line.budget.left 0 c.loop-budget.invariant.goes
    (elim c.if-has_line.branch [
      | then-has_line+in_ok-count w ↦ let one = one_line (next_of c.loop-budget.client.input.rest) in grind arith
      | else-has_line w ↦ let none = no_line (next_of c.loop-budget.client.input.rest) (grind arith) in grind arith
    ]) c.in_err-read_one.ensures.refused c.in_err-read_one.ensures.met
    c.read_one.ensures.before).goes

pub returns-then-not-branch-clause-all : goal.returns-then-not-branch-clause-all
returns-then-not-branch-clause-all c = (lines_end c.loop-budget.client c.read_one.new.self
    (not_there c.in_ok-read_one.field-0 _ c.in_ok-read_one.ensures.read (search rules)) c.in_ok-read_one.ensures.fine
    c.in_ok-read_one.ensures.ok).none

pub returns-then-not-branch-clause-may : goal.returns-then-not-branch-clause-may
returns-then-not-branch-clause-may c = ap (λ (e : ClientEnd). may_read e.client) (lines_end c.loop-budget.client c.read_one.new.self
    (not_there c.in_ok-read_one.field-0 _ c.in_ok-read_one.ensures.read (search rules)) c.in_ok-read_one.ensures.fine
    c.in_ok-read_one.ensures.ok).same ∙ c.in_ok-read_one.ensures.can

pub loop-budget-preserved : goal.loop-budget-preserved
loop-budget-preserved c = elim c.if-has_line.branch [
  | then-has_line+in_ok-count w ↦ lines_more c.args.client.now c.loop-budget.client c.read_one.new.self c.args.budget.now.left
      c.loop-budget.budget.left c.if-has_line.budget.left c.loop-budget.invariant (grind arith) c.in_ok-read_one.ensures.can
      (search rules) c.in_ok-read_one.ensures.ok
  | else-has_line w ↦ absurd (grind arith)
]
