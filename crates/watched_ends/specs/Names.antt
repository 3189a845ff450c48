-- The names of other files that contracts of this crate cite.
pub use Rattle.dme_line.specs.Responses.{the_mark}
pub use Rattle.fixed_um.specs.Calls.{Finds}
pub use Rattle.witness.specs.Asking.{signal_of}
pub use Rattle.witness.specs.Relaying.{IsClientRead, IsServerRead, Reads}
pub use Rattle.witness.specs.Texts.{numbered, side_field, told_text}
pub use Rattle.witness.specs.Watching.{KeepsFew, ledger}
pub use Rattle.witness.specs.declared.lines.Reported.{Reported}
pub use Rattle.witness.specs.Orders.{Pieces, bytes_of, count_of}
pub use Rattle.witness_laws.specs.Orders.{at_once_line, some_sends}
pub use Rattle.watched_ends.specs.Ledgers.{AreReportedBy}
pub use Rattle.watched_ends.specs.Limits.{Limited}
