-- The names of the crates below, and of the definitions of this one, that its proofs use.
pub use Rattle.contact_ledger.proofs.EntryLines.{direction_tail, entry_back, entry_plain, frame_tail, kind}
pub use Rattle.contact_ledger.proofs.FeatureReads.{take_one_more}
pub use Rattle.contact_ledger.proofs.Leaves.{not_equal_word, not_same, same_word}
pub use Rattle.contact_ledger.proofs.LineFields.{line_fields, made_of, part_behind}
pub use Rattle.contact_ledger.proofs.PlainFields.{ArePlain, decimal_plain, direction_plain, frame_plain, is_plain, name_plain, plain_fields_append}
pub use Rattle.contact_ledger.proofs.PlainFields.{point_plain}
pub use Rattle.contact_ledger.proofs.WrittenTexts.{entry_written, spaced_more, text_more, then_ok}
pub use Rattle.contact_ledger.specs.ContactTexts.{act_fields, act_line, IsEntry, IsWrittenAct}
pub use Rattle.contact_ledger.specs.FeatureTexts.{CanBeWritten, IsPointCount}
pub use Rattle.contact_ledger.specs.Fields.{direction_fields, frame_fields, IsFrame, point_fields}
pub use Rattle.contact_ledger.specs.Ledgers.{connection_most, contact_count, is_contact, IsConnection}
pub use Rattle.contact_ledger.specs.Lines.{fields_behind, line_of, spaced, text_of, whole_lines}
pub use Rattle.contact_ledger.specs.declared.acts.Act.{Act}
pub use Rattle.contact_ledger.specs.declared.features.Feature.{Feature}
pub use Rattle.dmis_program.specs.declared.features.Touch.{Touch}
pub use Rattle.dmis_program.specs.declared.features.Wanted.{Wanted}
pub use Rattle.fixed_um.specs.Calls.{Finds}
pub use Rattle.fixed_um.specs.Names.{IsName}
pub use Rattle.fixed_um.specs.declared.frames.Frame.{Frame}
pub use Rattle.fixed_um.specs.declared.lengths.Point.{Point}
pub use Rattle.protocol_model.specs.Claims.{contacts, MadeContact, Serves}
pub use Rattle.record_text.specs.Entries.{completed_line, entry_line, fitting, IsFitting, IsWrittenEntry, kept_error, noted_line}
pub use Rattle.record_text.specs.Heads.{AreAsked, asked_lines, feature_line, head_lines, header, is_printed, IsAsked, IsAskedTouch, IsPart}
pub use Rattle.record_text.specs.Heads.{IsPartGiven, part_line, part_lines, touch_fields, touch_line, wanted_lines}
pub use Rattle.record_text.specs.Notes.{IsNoteText, Says, word_of}
pub use Rattle.record_text.specs.declared.notes.Note.{Note}
pub use Rattle.record_text.specs.Reading.{AreTornHead, BeginsHeader, IsDamagedRecord, IsRecord, IsUnbegun, ReadsRecord}
pub use Rattle.record_text.specs.Records.{AreRecordLines, Begins, completed_feature, Completes, errors_during, Follow, Follows, IsLastRun, IsRecorded}
pub use Rattle.record_text.specs.Records.{Kept, last_frame, nothing_kept, record_lines, Recorded, recorded, with_completed, with_noted, with_told}
pub use Rattle.record_text.specs.Serving.{CanComplete, IsServedBy}
pub use Rattle.record_text.specs.Stages.{AddsEntry, AddsTouch, body, EndsFeature, EndsHead, FollowsLine, HasHead, HasTornHead, head, IsBadHead}
pub use Rattle.record_text.specs.Stages.{IsOpen, IsValid, Leads, LeadsNowhere, NamesPart, Next, none, OpensFeature, some, Stage, stage_of, start}
pub use Rattle.record_text.specs.Stages.{StopsAfter, wanted_with, with_touch, within}
pub use Rattle.record_text.specs.Tellings.{counted, Counts, entries_of, Telling, told_on}
pub use Rattle.record_text.specs.Unfinished.{Asking, Unfinished}
pub use Rattle.record_text.specs.declared.entries.Entry.{Entry}
pub use Rattle.record_text.specs.declared.entries.Entry.TheVariants.{Completed, Noted, Told}
pub use Rattle.record_text.specs.declared.faults.RecordFault.{RecordFault}
pub use Rattle.record_text.specs.declared.faults.RecordFault.TheVariants.{Damaged, Memory}
pub use Rattle.record_text.specs.declared.heads.Place.{Place}
pub use Rattle.record_text.specs.declared.heads.Place.TheVariants.{Between, Done, Within}
pub use Rattle.record_text.specs.declared.versions.Version.{Version}
pub use Rattle.record_text.specs.declared.versions.Version.TheVariants.{First, Second}
pub use Rattle.std.proofs.Common.{[], ◌++◌, ◌+◌, ◌-◌, ◌<◌, ◌==◌, ◌^◌, ◌∙◌, ◌∷◌, ◌≡◌, ◌≤◌, ◌⊎◌, ap, append-nil, append_assoc, arith, Bool, codes, cond}
pub use Rattle.std.proofs.Common.{decimal, drop, drop-drop, Err, false, get_or, IfOk, if◌then◌else◌, inl, inr, le-leb, leb-true, length}
pub use Rattle.std.proofs.Common.{length-append, length-drop, List, ltb-true, map, nat_le, None, Ok, OnErr, OnOk, Option, pos, refl, Result}
pub use Rattle.std.proofs.Common.{slice_get, slice_index, Some, string_bytes, subst, suc, sym, take, take-append-drop, take_all, true, zero, ℕ}
pub use Rattle.std.proofs.Math.Seq.{take-add, take-append-add}
pub use Rattle.std.proofs.lemmas.Bool.Decides.{Decides-eqb, nat_tests}
pub use Rattle.std.proofs.lemmas.List.{drop-append-le, drop_all, take_more}
pub use Rattle.std.specs.List.{AllByRecursion, flat_map, list_all}
pub use Rattle.std.specs.Result.{is_ok, IsErr, IsErrAnd}
