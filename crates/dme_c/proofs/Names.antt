-- The names of the crates below, and of the definitions of this one, that its proofs use.
pub use Rattle.client_core.specs.Clients.{are_ours, is_ours, is_window}
pub use Rattle.contact_ledger.specs.declared.features.Feature.{Feature}
pub use Rattle.dme_c.specs.Continuing.{IsDue, IsDueFor, IsOfTexts, RefusesBytes}
pub use Rattle.dme_c.specs.Held.{held_at}
pub use Rattle.dme_c.specs.Making.{AnswersJust, IsBadFeatures, IsBadProgram, IsBadSetup, IsBadWindow, IsClientOf, IsNotOurs, IsWhy, Means, Say}
pub use Rattle.dme_c.specs.Recordings.{CalledBoth, RecordValue}
pub use Rattle.dmis_program.specs.Meaning.{Meaning, program_of}
pub use Rattle.fixed_um.specs.Names.{IsName}
pub use Rattle.libc.specs.Heap.{chunk}
pub use Rattle.protocol_model.specs.Ends.{ClientEnd}
pub use Rattle.record_text.specs.declared.opening.RecordRefusal.{RecordRefusal}
pub use Rattle.std.proofs.Common.{[], ◌&&◌, ◌==◌, ◌∙◌, ◌∷◌, ◌≡◌, ◌≢◌, ◌≤◌, ap, arith, Bool, bytes_eq, eq-eqb, Err, false, IfErr, inl, inr, IsErr}
pub use Rattle.std.proofs.Common.{IsSome, length, List, None, not, Ok, Option, refl, Result, Some, subst, suc, sym, true, ℕ}
pub use Rattle.std.proofs.alloc.Calls.{Goes-blank}
pub use Rattle.std.proofs.impls.GlobalAllocator.TheImpl.Met.{passed}
pub use Rattle.std.proofs.lemmas.Bool.{false≢true}
pub use Rattle.std.proofs.raw_atomic.Walks.{leaves, proved}
pub use Rattle.std.specs.Box.Ownership.{box_owns}
pub use Rattle.std.specs.contracts.impls.GlobalAllocator.TheImpl.{dict, ghosts}
