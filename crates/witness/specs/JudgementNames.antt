-- The names of other files that contracts of this crate cite.
pub use Rattle.std.specs.Option.{option_map, option_or}
pub use Rattle.dme_line.specs.Kinds.{is_event_kind, kind_name}
pub use Rattle.dme_line.specs.Responses.{the_mark}
pub use Rattle.dme_line.specs.Tags.{is_event_tag}
pub use Rattle.dme_line.specs.declared.tags.Tag.{Tag}
pub use Rattle.dme_line.specs.declared.tags.Tag.TheVariants.{Event, Std}
pub use Rattle.fixed_um.specs.Calls.{Writes}
pub use Rattle.fixed_um.specs.declared.lengths.Point.{Point}
pub use Rattle.protocol_model.specs.Readings.{command_of, response_of}
pub use Rattle.protocol_model.specs.Replies.{tag_is}
pub use Rattle.witness.specs.declared.lines.Side.TheVariants.{Client, Server}
pub use Rattle.witness.specs.ClientRules.{client_rule}
pub use Rattle.witness.specs.Counts.{kinds}
pub use Rattle.witness.specs.JudgementExamples.{ClientKeeps, ServerKeeps, abort, abort_complete, abort_received, again, all_received, asks, begun, breaks, cleared_end, client_breaks, complete, crowd, error, given, moves, received, refused, server_breaks, touch, warning}
pub use Rattle.witness.specs.Judging.{client_found, first_break, found_at, IsFirst, server_found}
pub use Rattle.witness.specs.Orders.{bytes_of, seen_lines}
pub use Rattle.witness.specs.ServerRules.{server_rule}
pub use Rattle.witness.specs.JudgedUses.{AreAllNoted, IsCourse, stage_of}
pub use Rattle.witness.specs.declared.judged_lines.Heard.{Heard}
pub use Rattle.witness.specs.declared.judged_lines.Sent.{Sent}
