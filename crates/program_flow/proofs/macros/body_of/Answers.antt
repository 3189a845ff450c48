use Rattle.std.proofs.Common.{◌∙◌, ℕ, ap, take}
use Rattle.program_flow.proofs.Bodies.{body_is_front}
use Rattle.program_flow.proofs.macros.body_of.Goals as goal

pub returns : goal.returns
returns c = c.split_at.ensures.front ∙ (ap (λ (n : ℕ). take n c.args.below.now) c.count_of.ensures.value ∙ body_is_front c.args.below.now)
