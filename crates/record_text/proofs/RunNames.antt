-- The names of the crates below, and of the definitions of this one, that its proofs use.
pub use Rattle.client_core.proofs.Runs.{behind_holds, Holds, IsCalm, IsOnPlan}
pub use Rattle.client_core.specs.Calls.{Abort, behind_call, behind_calls, Call, client_behind, Connected, done_by, Feed, Leave, Plans, plans_begun}
pub use Rattle.client_core.specs.Calls.{possible, ReadOne, Restart, Resume, Send, Sent, start_behind, told_homed}
pub use Rattle.client_core.specs.Clients.{are_ours, is_apart, is_ours, may_connect, may_read}
pub use Rattle.contact_ledger.specs.ContactTexts.{IsWrittenAct}
pub use Rattle.contact_ledger.specs.Ledgers.{connection_most, is_contact, IsConnection}
pub use Rattle.contact_ledger.specs.Lines.{but_last, text_of, whole_lines}
pub use Rattle.contact_ledger.specs.declared.acts.Act.{Act}
pub use Rattle.contact_ledger.specs.declared.features.Feature.{Feature}
pub use Rattle.dme_line.specs.declared.commands.Kind.{Kind}
pub use Rattle.dme_line.specs.declared.responses.NotResponse.{NotResponse}
pub use Rattle.dme_line.specs.declared.responses.Response.{Response}
pub use Rattle.dme_line.specs.declared.tags.Tag.{Tag}
pub use Rattle.dmis_program.specs.Meaning.{Meaning}
pub use Rattle.dmis_program.specs.Programs.{IsProgram}
pub use Rattle.dmis_program.specs.declared.features.Touch.{Touch}
pub use Rattle.dmis_program.specs.declared.features.Wanted.{Wanted}
pub use Rattle.fixed_um.specs.declared.lengths.Point.{Point}
pub use Rattle.line_framing.specs.Next.{Front, next_of}
pub use Rattle.protocol_model.proofs.HeardTables.{heard}
pub use Rattle.protocol_model.proofs.invariant.Moves.{acts_done, acts_more, done_on, up_to_done, up_to_join}
pub use Rattle.protocol_model.proofs.invariant.Served.{acts_none, contacts_more, HasRun, HaveTouches, IsNext, IsProgress, joined_is, next_touch}
pub use Rattle.protocol_model.proofs.invariant.Served.{program_has, progress_new, progress_served, Served, served_sound, served_take, serves_more}
pub use Rattle.protocol_model.proofs.invariant.Served.{up_to_above, with_made}
pub use Rattle.protocol_model.proofs.plan.Blocks.{program_is_plain}
pub use Rattle.protocol_model.proofs.plan.Marks.{Marked, marks, marks_of, plan_fits, plan_touches, touch_in, touches_in}
pub use Rattle.protocol_model.proofs.table.Replying.{fine, step_cases}
pub use Rattle.protocol_model.specs.Claims.{acts_on, AreRuns, contacts, IsRun, MadeContact, Serves, Sound}
pub use Rattle.protocol_model.specs.Client.{act_of, begins_session, Client, client_connected, client_hears, client_read, counted_next, ends_abort}
pub use Rattle.protocol_model.specs.Client.{faulted, heard_on, joined, measured, next_number, origin_of, passed_over, sends_abort, sends_next}
pub use Rattle.protocol_model.specs.Client.{state_behind, Table, tallied, Tally, tells_homed}
pub use Rattle.protocol_model.specs.Ends.{ClientEnd, end_read, front_read, front_served, given_for, given_homed, given_point, given_under, held_under}
pub use Rattle.protocol_model.specs.Ends.{line_read, new_client_end, response_read, ServerEnd}
pub use Rattle.protocol_model.specs.Plan.{is_empty, plan}
pub use Rattle.protocol_model.specs.Undisturbed.{AreUpTo, followed}
pub use Rattle.protocol_model.specs.declared.held.Datum.{Datum}
pub use Rattle.protocol_model.specs.declared.plans.Planned.{Planned}
pub use Rattle.record_text.specs.Recordings.{AreFit, AreNotes, AreWritten, behind_moments, Calls, calls_in, Fits, Moment, recorded_by, Tell}
pub use Rattle.record_text.specs.Recordings.{told_unless}
pub use Rattle.record_text.specs.Told.{EndsUnfinished, first_touches, numbered, told_behind, told_between, told_by}
pub use Rattle.record_text.specs.Beginnings.{AreWhole, BeginsWith, Continues, EndsLine, IsNew, IsSame}
pub use Rattle.record_text.specs.Entries.{entry_line}
pub use Rattle.record_text.specs.Notes.{IsNoteText, Says}
pub use Rattle.record_text.specs.declared.notes.Note.{Note}
pub use Rattle.record_text.specs.declared.run_errors.Remark.{Remark}
pub use Rattle.record_text.specs.Growths.{Growth, noted, with_notes}
pub use Rattle.record_text.specs.Heads.{AreAsked, head_lines, IsAsked, IsPartGiven}
pub use Rattle.record_text.specs.Records.{AreRecordLines, completed_feature, Completes, Follow, Follows, IsLastRun, IsRecorded, Kept, last_frame}
pub use Rattle.record_text.specs.Records.{nothing_kept, record_lines, Recorded, recorded, with_completed, with_noted, with_told}
pub use Rattle.record_text.specs.Tellings.{Counted, counted, counted_after, entries_of, one_point}
pub use Rattle.record_text.specs.declared.entries.Entry.{Entry}
pub use Rattle.record_text.specs.declared.entries.Entry.TheVariants.{Completed, Noted}
pub use Rattle.std.proofs.Common.{[], ◌&&◌, ◌++◌, ◌+◌, ◌-◌, ◌<◌, ◌==◌, ◌||◌, ◌∙◌, ◌∷◌, ◌≡◌, ◌≤◌, ◌⊎◌, ap, append-nil, append_assoc, arith, Bool}
pub use Rattle.std.proofs.Common.{bytes_eq, codes, cond, drop, drop-drop, eq-eqb, eqb, eqb-true, Err, false, inl, inr, le-leb, leb-true, length}
pub use Rattle.std.proofs.Common.{length-append, List, lt-ltb, ltb-false, ltb-true, map, nat_le, nat_lt, None, not, Ok, Option, refl, Result}
pub use Rattle.std.proofs.Common.{slice_get, Some, subst, suc, sym, take, take-append-drop, take_all, true, zero, ℕ}
pub use Rattle.std.proofs.Math.Seq.{drop-append_seam, drop-length, drop-nil, take-append-add, take-append_seam}
pub use Rattle.std.proofs.lemmas.Bool.{and_from, and_parts, false≢true, lt-leb}
pub use Rattle.std.specs.List.{AllByRecursion, list_all, onto_first}
