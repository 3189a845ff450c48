use Rattle.tool_rack.specs.Setups.{has_name}
use Rattle.program_lowering.proofs.FrameLemmas.{follows_same}
use Rattle.program_lowering.proofs.Names.{◌∙◌, ap, Carried}
use Rattle.program_lowering.proofs.lowering.Lowering.judge.Goals as goal
use Rattle.program_lowering.specs.StoredFrames.{stored_frame}

pub returns-in-Some-clause-same : goal.returns-in-Some-clause-same
returns-in-Some-clause-same c =
    follows_same c.args.self.now c.args.choices (has_name c.args.self.now.used) c.args.statement.now c.in-Some.name c.in_ok-name.field-0
    c.judge_frame.result c.in-Some.is
    (c.in_ok-name.ensures ∙ ap (λ (x : Carried). stored_frame c.args.choices (has_name x.used) c.args.statement.now) c.self.view_is)
    c.judge_frame.ensures.says
