-- The names of other files that contracts of this crate cite.
pub use Rattle.client_core.specs.Clients.{may_connect}
pub use Rattle.contact_ledger.specs.Ledgers.{connection_most}
pub use Rattle.contact_ledger.specs.declared.features.Feature.{Feature}
pub use Rattle.dme_words.specs.declared.orders.Run.{Run}
pub use Rattle.effects.specs.Effects.{Bytes, Done, End, Found, Missing, the_reply}
pub use Rattle.protocol_model.specs.Ends.{end_connected}
pub use Rattle.record_text.specs.Recordings.{Pair}
pub use Rattle.record_text.specs.Growths.{begun}
pub use Rattle.record_text.specs.declared.opening.Beginning.{Beginning}
pub use Rattle.run_opening.specs.Asking.{IsSessionOf}
pub use Rattle.run_opening.specs.Begun.{IsRunBegun}
pub use Rattle.effects.specs.Naming.{is_written}
pub use Rattle.run_opening.specs.Naming.{AreApart, AreNone, Covers, Disturbs, given, name_at, or_nothing, written}
pub use Rattle.run_opening.specs.Openings.{Answered, AreFeaturesRead, AreFirstFeatures, KeepsFile, Known, Outside, State, is_there, outcome, read, untouched}
