-- The names of the crates below, and of the definitions of this one, that its proofs use.
pub use Rattle.contact_ledger.specs.declared.acts.Act.{Act}
pub use Rattle.contact_ledger.specs.declared.features.Feature.{Feature}
pub use Rattle.dmis_program.specs.declared.features.Touch.{Touch}
pub use Rattle.dmis_program.specs.declared.features.Wanted.{Wanted}
pub use Rattle.fixed_um.specs.declared.lengths.Point.{Point}
pub use Rattle.ledger_audit.specs.Shifts.{AreShifts, asked, asked_at, Begins, connection_by, contact_at, HasNoneBetween, IsCandidate, IsFirstServed}
pub use Rattle.ledger_audit.specs.Shifts.{IsLeastShift, LastMeets, Meets, Probed, shown, shown_by}
pub use Rattle.ledger_audit.specs.Verdicts.{AreAtMost, AreFewestUnsound, AreLeast, HasNoRun, IsFirstRun}
pub use Rattle.protocol_model.specs.Claims.{AreRuns, contacts, IsRun, IsServed, MadeContact, Serves, Sound}
pub use Rattle.std.proofs.Common.{[], ◌++◌, ◌+◌, ◌-◌, ◌<◌, ◌∙◌, ◌∷◌, ◌≡◌, ◌≤◌, ◌⊎◌, ap, arith, codes, drop, get_or, IfNone, IfSome, inl, inr, length}
pub use Rattle.std.proofs.Common.{length-append, length-drop, length-take, length-take-le, List, None, Option, refl, rules, slice_index_or, Some}
pub use Rattle.std.proofs.Common.{subst, suc, sym, take, take-take, zero, ℕ}
pub use Rattle.std.proofs.lemmas.Bool.{cases_lt}
