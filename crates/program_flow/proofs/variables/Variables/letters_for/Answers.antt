use Rattle.std.proofs.Common.{◌∙◌, arith}
use Rattle.program_flow.proofs.Appending.{letters-found, past-limit, within-limit}
use Rattle.program_flow.proofs.variables.Variables.letters_for.Goals as goal

pub returns-then-len-most : goal.returns-then-len-most
returns-then-len-most c = (
  tt,
  λ apart. letters-found _ c.push_letters.new.out.items c.args.most (rw c.new-text.ensures.items at c.in_ok-push_letters.ensures.0)
      ∙ past-limit c.push_letters.new.out.items c.args.most (omega (arith, c.if-len-most.true, c.len.ensures)),
)

pub returns : goal.returns
returns c = (
  letters-found _ c.push_letters.new.out.items c.args.most (rw c.new-text.ensures.items at c.in_ok-push_letters.ensures.0)
      ∙ within-limit c.push_letters.new.out.items c.args.most (omega (arith, c.if-len-most.false, c.len.ensures)),
  tt,
)
