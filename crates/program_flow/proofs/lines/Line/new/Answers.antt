use Rattle.std.proofs.Common.{◌∙◌, sym}
use Rattle.program_flow.specs.Macros.{said_by}
use Rattle.program_flow.proofs.SaidLines.{none_said, says_on, some_said}
use Rattle.program_flow.proofs.lines.Line.new.Goals as goal

pub returns-then-not-branch : goal.returns-then-not-branch
returns-then-not-branch c =
    let test = rw c.deref.ensures.value at c.in_ok-says_one.ensures in
    none_said (said_by c.args.line c.args.text.items) (says_on c.args.line c.args.text.items ∙ (sym test ∙ c.if-not-branch.true))

pub invariant_of-result : goal.invariant_of-result
invariant_of-result c =
    let test = rw c.deref.ensures.value at c.in_ok-says_one.ensures in
    says_on c.args.line c.args.text.items ∙ (sym test ∙ c.if-not-branch.false)

pub returns : goal.returns
returns c =
    let test = rw c.deref.ensures.value at c.in_ok-says_one.ensures in
    some_said (said_by c.args.line c.args.text.items) (says_on c.args.line c.args.text.items ∙ (sym test ∙ c.if-not-branch.false))
