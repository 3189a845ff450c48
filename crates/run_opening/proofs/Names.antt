-- The names of the crates below, and of the definitions of this one, that its proofs use.
pub use Rattle.client_core.specs.Clients.{may_connect}
pub use Rattle.contact_ledger.specs.declared.features.Feature.{Feature}
pub use Rattle.order_parts.specs.Faults.{status_of}
pub use Rattle.order_parts.specs.declared.faults.OrderFault.{OrderFault}
pub use Rattle.dme_words.specs.declared.orders.Run.{Run}
pub use Rattle.dmis_program.specs.Meaning.{Meaning}
pub use Rattle.protocol_model.specs.Ends.{ClientEnd, end_connected, new_client_end}
pub use Rattle.record_text.specs.Recordings.{Pair}
pub use Rattle.record_text.specs.Growths.{begun, Growth}
pub use Rattle.record_text.specs.declared.opening.Beginning.{Beginning}
pub use Rattle.run_opening.specs.Asking.{IsSessionOf}
pub use Rattle.run_opening.specs.Begun.{IsRunBegun}
pub use Rattle.run_opening.specs.Openings.{Answered, AreFeaturesRead, BeginsRecorded, GivesBack, HasClient, HasGiven, IsFilled, IsLookedAt, IsOpened, IsProgramOf, IsProgramRead, IsRecordRead, IsSetupRead}
pub use Rattle.run_opening.specs.Openings.{Keeps, Leads, part_of, Starts, StartsClient, State, TakesClient}
pub use Rattle.run_session.specs.Records.{Start}
pub use Rattle.std.proofs.Common.{[], ◌++◌, ◌<◌, ◌∙◌, ◌≡◌, ap, ap₂, arith, Bool, false, is_some, length, List, None, OnOk, Option, Result, rules, Some, subst, sym}
pub use Rattle.std.proofs.Common.{true, true≢false, unwrap_or, ℕ}
pub use Rattle.tool_rack.specs.Setups.{SetupValue}
