-- The names of other files that contracts of this crate cite.
pub use Rattle.std.specs.List.{list_any, prefix_len}
pub use Rattle.contact_ledger.specs.Lines.{spaced, text_of}
pub use Rattle.dme_line.specs.CommandText.{is_name_part}
pub use Rattle.dme_line.specs.Kinds.{kind_of}
pub use Rattle.dme_line.specs.Responses.{the_mark}
pub use Rattle.dme_line.specs.Tags.{written_tag}
pub use Rattle.fixed_um.specs.Calls.{Leads}
pub use Rattle.fixed_um.specs.Written.{last_digit}
pub use Rattle.fixed_um.specs.declared.frames.Frame.TheVariants.{Machine, Part}
pub use Rattle.line_framing.specs.Framing.{IsLineDue, fed, no_bytes}
pub use Rattle.line_framing.specs.Next.{next_of}
pub use Rattle.line_framing.specs.Stream.{IsStream}
pub use Rattle.protocol_model.specs.Open.{asks_data}
pub use Rattle.protocol_model.specs.Readings.{command_of}
pub use Rattle.witness.specs.Asking.{Ack, Done, Error, Line, client_line, server_line, signal_of}
pub use Rattle.witness.specs.Dialogues.{after_all}
pub use Rattle.witness.specs.Examples.{ack, asking, asks, both, done, ends, event, fails, foreign, given, gives, hears_event, known_in, machine, neither, no_response, other_tool, part, ready, tool, touch, touched, untagged, zero_point}
pub use Rattle.witness.specs.Known.{all_renewed, is_rival}
pub use Rattle.witness.specs.Marks.{is_error, is_foreign}
pub use Rattle.witness.specs.Relaying.{Course, IsAllTold, IsClientRead, IsServerRead, IsToldOf, Reads, Relaying, Relays}
pub use Rattle.witness.specs.Rules.{all_reported, witnessed}
pub use Rattle.witness.specs.Texts.{known_frame, rule_name, told_fields, told_line, told_lines, tool_field}
pub use Rattle.witness.specs.Watching.{AreAllRead, Watching}
pub use Rattle.witness.specs.declared.lines.SentCommand.TheVariants.{Asking, Foreign, Known}
