-- The names of other files that contracts of this crate cite.
pub use Rattle.std.specs.List.{list_any}
pub use Rattle.fixed_um.specs.Calls.{Leads}
pub use Rattle.protocol_model.specs.Replies.{tag_is}
pub use Rattle.protocol_model.specs.Server.{waits_under}
pub use Rattle.protocol_model.specs.declared.lines.Waiting.{Waiting}
pub use Rattle.command_queue.specs.Calls.{Call, Do, put_by, taken_by}
