use Rattle.program_lowering.proofs.Names.{◌∙◌, ◌≡◌, GivesStep, None, Some, Statement, step, subst, sym}
use Rattle.program_lowering.specs.Carried.{IsRead}
use Rattle.program_lowering.specs.Cartesian.{cartesian, reference_after}
use Rattle.program_lowering.proofs.CartesianLemmas.{gives_cartesian}
use Rattle.program_lowering.proofs.ValuedLemmas.{on_ok, read_again}
use Rattle.program_lowering.proofs.lowering.take_cartesian.Goals as goal

pub returns-in_default : goal.returns-in_default
returns-in_default c =
    let given : cartesian c.args.reference.now c.args.statement.now ≡ c.args.statement.now =
    gives_cartesian c.args.reference.now c.args.statement.now None (rw c.in_default.is at c.in_ok-line.ensures) in
    rw given (c.take_touched.ensures.step, (on_ok c.take_touched.result c.after.ensures, c.take_touched.ensures.seen))

pub read_back-requires : goal.read_back-requires
read_back-requires c =
    let given = gives_cartesian c.args.reference.now c.args.statement.now (Some c.in-Some.line.items) (rw c.in-Some.is at c.in_ok-line.ensures) in
    (record (cartesian c.args.reference.now c.args.statement.now) { line = 1 }, rw c.deref.ensures.value given.0)

pub returns : goal.returns
returns c =
    let v = cartesian c.args.reference.now c.args.statement.now in
    let given = gives_cartesian c.args.reference.now c.args.statement.now (Some c.in-Some.line.items) (rw c.in-Some.is at c.in_ok-line.ensures) in
    let read : IsRead c.deref.result.now (record v { line = 1 }) = rw c.deref.ensures.value given.0 in
    let is = c.in_ok-made.ensures.read (record v { line = 1 }) read ∙ read_again v c.args.statement.now.line given.1 in
    rw (sym is) (c.take_touched-2.ensures.step, (on_ok c.take_touched-2.result c.after-2.ensures, c.take_touched-2.ensures.seen))
