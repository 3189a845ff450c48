-- The names of other files that contracts of this crate cite.
pub use Rattle.dmis_program.specs.Meaning.{block_touches}
pub use Rattle.dmis_program.specs.Programs.{feature_touches}
pub use Rattle.fixed_um.specs.declared.frames.Frame.TheVariants.{Machine}
pub use Rattle.protocol_model.specs.Plan.{behind, clearing, frame_behind, framing, is_empty, plan, planned, starting, stepping, tool_behind, tooling, up_to}
pub use Rattle.protocol_model.specs.PlanReading.{touches_of}
pub use Rattle.resume_plan.specs.Made.{planned_with}
pub use Rattle.resume_plan.specs.Sendable.{IsSendable}
