use Rattle.resume_plan.proofs.Names.{◌≡◌, block_touches, drop, is_empty}
use Rattle.resume_plan.proofs.position.ends_feature.Given as goal

-- no touch and no end was passed
abbrev pub invariant-loop-step : goal.invariant-loop-step
invariant-loop-step l = is_empty (block_touches l.behind) ≡ is_empty (block_touches (drop l.step-index l.behind))
