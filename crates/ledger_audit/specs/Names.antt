-- The names of other files that contracts of this crate cite.
pub use Rattle.contact_ledger.specs.declared.acts.Act.{Act}
pub use Rattle.contact_ledger.specs.declared.features.Feature.{Feature}
pub use Rattle.dmis_program.specs.declared.features.Wanted.{Wanted}
pub use Rattle.protocol_model.specs.Claims.{AreRuns, MadeContact, Sound, contacts}
pub use Rattle.protocol_model.specs.LedgerRows.{one_wanted}
pub use Rattle.ledger_audit.specs.Rows.{made_twice, once, once_more}
pub use Rattle.ledger_audit.specs.Shifts.{AreShifts, Begins, HasNoneBetween, IsFirstServed, asked_at, shown}
pub use Rattle.ledger_audit.specs.Verdicts.{AreAtMost, AreFewestUnsound, AreLeast, HasNoRun, IfNoRun, IfStarts, IsFirstRun, TellsNoRun, TellsStarts}
