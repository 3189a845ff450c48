-- The names of other files that contracts of this crate cite.
pub use Rattle.std.specs.List.{AllByRecursion, list_all}
pub use Rattle.contact_ledger.specs.ContactTexts.{IsWrittenAct}
pub use Rattle.contact_ledger.specs.FeatureTexts.{IsPointCount}
pub use Rattle.contact_ledger.specs.Ledgers.{IsConnection, connection_most, is_contact}
unfoldable pub use Rattle.contact_ledger.specs.Lines.{whole_lines}
pub use Rattle.contact_ledger.specs.Lines.{fields_behind, spaced, text_of}
pub use Rattle.contact_ledger.specs.declared.acts.Act.{Act}
pub use Rattle.dmis_program.specs.Programs.{IsFeature}
pub use Rattle.dmis_program.specs.declared.features.Wanted.{Wanted}
pub use Rattle.fixed_um.specs.Calls.{Finds, Writes}
pub use Rattle.fixed_um.specs.Names.{IsName}
pub use Rattle.fixed_um.specs.declared.lengths.Point.{Point}
pub use Rattle.protocol_model.specs.Claims.{Serves, Sound, contacts}
pub use Rattle.session_telling.specs.Visible.{visible}
pub use Rattle.record_text.specs.Beginnings.{AreWhole, BeginsRun, Continues, IsNew, IsSame, RefusesSame}
pub use Rattle.record_text.specs.Cuts.{ReadsCut}
pub use Rattle.record_text.specs.Entries.{IsFitting, IsWrittenEntry, completed_line, entry_line, error_note, fitting, kept_error, noted_line}
pub use Rattle.record_text.specs.Heads.{AreAsked, IsAsked, IsAskedTouch, IsPart, IsPartGiven, IsPrinted, asked_lines, feature_line, head_lines, header, is_printed, part_line, part_lines, touch_fields, touch_line, wanted_lines}
pub use Rattle.record_text.specs.Notes.{AreSaid, IsNoteText, Says, after_form, fits, has_form, ends_so, is_decimal, is_digest, is_error, is_hex, is_identified, is_stamped, is_time, word_of}
pub use Rattle.record_text.specs.Reading.{BeginsHeader, IsDamagedRecord, IsRecord, IsUnbegun, ReadsRecord}
pub use Rattle.record_text.specs.Records.{Completes, Follow, Follows, IsLastRun, IsRecorded, Kept, Recorded, errors_during, last_frame, nothing_kept, record_lines, recorded, with_completed, with_noted, with_told}
pub use Rattle.record_text.specs.Serving.{CanComplete, IsServedBy}
pub use Rattle.record_text.specs.Stages.{FollowsLine, HasHead, HasTornHead, IsBadHead, IsOpen, IsValid, Leads, Next, Stage, StopsAfter, body, stage_of}
pub use Rattle.record_text.specs.Tellings.{Counts, entries_of, told_on}
pub use Rattle.record_text.specs.declared.entries.Entry.{Entry}
pub use Rattle.record_text.specs.declared.faults.RecordFault.TheVariants.{Damaged}
pub use Rattle.record_text.specs.declared.heads.Place.TheVariants.{Between, Within}
pub use Rattle.record_text.specs.declared.versions.Version.{Version}
pub use Rattle.record_text.specs.declared.versions.Version.TheVariants.{First, Second}
