-- The names of the crates below, and of the definitions of this one, that its proofs use.
pub use Rattle.dmis_program.specs.Meaning.{block_touches, Meaning}
pub use Rattle.dmis_program.specs.Programs.{feature_touches, IsFrame, IsProgram, IsStep}
pub use Rattle.dmis_program.specs.declared.steps.Step.{Step}
pub use Rattle.fixed_um.specs.declared.frames.Frame.{Frame}
pub use Rattle.fixed_um.specs.declared.frames.Frame.TheVariants.{Machine, Part}
pub use Rattle.protocol_model.specs.Plan.{behind, clearing, frame_behind, framing, is_empty, measuring, plan, starting, stepping, tool_behind}
pub use Rattle.protocol_model.specs.Plan.{tooling, up_to}
pub use Rattle.protocol_model.specs.PlanReading.{touches_of}
pub use Rattle.protocol_model.specs.declared.plans.Planned.{Planned}
pub use Rattle.protocol_model.specs.declared.plans.Start.{Start}
pub use Rattle.resume_plan.specs.Made.{planned_with}
pub use Rattle.resume_plan.specs.Sendable.{IsSendable}
pub use Rattle.std.proofs.Common.{[], ◌++◌, ◌∷◌, ◌≡◌, arith, Bool, cond, drop, false, length, List, neg_ℤ, negsuc, None, Option, pos, refl, rules}
pub use Rattle.std.proofs.Common.{Some, subst, suc, sym, true, unsigned_abs, zero, ℕ, ℤ}
