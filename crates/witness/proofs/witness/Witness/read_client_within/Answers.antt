use Rattle.witness.proofs.Names.{◌∙◌, ◌≤◌, ap, at_first, client_read, length, List, refl, subst, suc, Use, zero}
use Rattle.witness.proofs.Courses.{line_within}
use Rattle.witness.proofs.witness.Witness.read_client_within.Goals as goal

pub loop-self-init : goal.loop-self-init
loop-self-init c = ((zero, refl), at_first)

-- one line more
pub loop-self-preserved : goal.loop-self-preserved
loop-self-preserved c =
    let so_far = c.loop-self.invariant.0 in (
      (suc so_far.0, c.in_ok-read_client.ensures.ok ∙ ap client_read so_far.1),
      line_within c.args.most c.args.self.now c.loop-self.self c.read_client.new.self c.loop-self.invariant.1
          (c.has_client_line.ensures.0 c.loop-self-test.true) c.in_ok-read_client.ensures.ok
          (subst (λ (us : List Use). length us ≤ c.args.most) c.uses.ensures c.if-uses-most.false),
    )

pub returns-then-uses-most-clause-reads : goal.returns-then-uses-most-clause-reads
returns-then-uses-most-clause-reads c =
    let so_far = c.loop-self.invariant.0 in
    (suc so_far.0, c.in_ok-read_client.ensures.ok ∙ ap client_read so_far.1)

pub returns-clause-reads : goal.returns-clause-reads
returns-clause-reads c =
    let so_far = c.loop-self.invariant.0 in
    (suc so_far.0, c.in_ok-read_client-2.ensures.ok ∙ ap client_read so_far.1)
