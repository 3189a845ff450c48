-- The names of other files that contracts of this crate cite.
pub use Rattle.std.specs.List.{position}
pub use Rattle.client_core.specs.Clients.{are_ours, is_window}
pub use Rattle.dme_line.specs.Kinds.{is_event_kind, kind_of}
pub use Rattle.dme_line.specs.Written.{HasVolumeLengths}
pub use Rattle.dme_line.specs.declared.tags.Tag.TheVariants.{Std}
pub use Rattle.link_world.specs.Reports.{report_text}
pub use Rattle.protocol_model.specs.Ends.{new_client_end}
pub use Rattle.resume_plan.specs.Sendable.{IsSendable}
pub use Rattle.server_core.specs.Serving.{new_serving, with_end}
pub use Rattle.order_parts.specs.Broken.{IsBreakShown, break_status, cause_of, client_cause, is_for_a_line, is_open, server_cause, unexpected}
pub use Rattle.order_parts.specs.Ends.{end_shown, ends_shown, first_client, first_server}
pub use Rattle.order_parts.specs.Faults.{status_of, status_of_state}
pub use Rattle.order_parts.specs.Numbered.{line_under, lines_from, number_behind, number_behind_all, shown_from}
pub use Rattle.order_parts.specs.Plan.{count_to_touch, first_commands, homing_mark, is_touch, plan_text, shown_behind, shown_line}
