-- The names of the crates below, and of the definitions of this one, that its proofs use.
pub use Rattle.contact_ledger.specs.Lines.{whole_lines}
pub use Rattle.dme_line.specs.declared.tags.Tag.{Tag}
pub use Rattle.protocol_model.specs.Readings.{command_of, response_of}
pub use Rattle.std.proofs.Common.{[], ◌++◌, ◌+◌, ◌<◌, ◌==◌, ◌∙◌, ◌∷◌, ◌≡◌, ◌≤◌, ap, append-nil, append_assoc, arith, Bool, drop, eq-eqb, eqb-true}
pub use Rattle.std.proofs.Common.{Err, false, get_or, get_or-drop, if◌then◌else◌, inl, inr, length, length-drop, List, ltb-false, map, None, Ok, OnOk}
pub use Rattle.std.proofs.Common.{Option, refl, Result, Some, subst, suc, sym, take, take_all, true, zero, ℕ}
pub use Rattle.std.proofs.Math.Seq.{drop-length, take-add, take-length}
pub use Rattle.std.specs.List.{AllByRecursion, list_any}
pub use Rattle.watched_ends.specs.Limits.{all, are_too_many, client_came, down_of, down_sent, due_of, IsRead, IsStop, keeps_more, Limited}
pub use Rattle.watched_ends.specs.Limits.{limited, none, reports, server_came, some, up_of, up_sent, without_due}
pub use Rattle.watched_ends.specs.Pieces.{begun, client, header, IsNoOrder, IsPiece, piece_line, Relayed, server, with_down, with_up}
pub use Rattle.watched_ends.specs.Turns.{AreLast, AreQuiet, AreTaken, IsAnswer, IsBefore}
pub use Rattle.witness.specs.Asking.{client_line, sent, server_line, signal_of}
pub use Rattle.witness.specs.Watching.{client_lines, IsFirstPast, KeepsFew, ledger, server_lines, Watching}
pub use Rattle.witness.specs.declared.lines.Side.{Side}
pub use Rattle.witness.specs.Orders.{bytes_of, Pieces}
pub use Rattle.witness_laws.specs.Orders.{at_once_line, Down, downs, has_failed_under, is_open, is_under, IsBehind, IsCausal, IsClear, IsSure, Line}
pub use Rattle.witness_laws.specs.Orders.{said, said_all, sends, some_at_once, some_sends, Up, ups}
