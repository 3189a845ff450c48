-- The names of the crates below, and of the definitions of this one, that its proofs use.
pub use Rattle.client_core.specs.Always.{FitsState, IsQuiet, IsReached}
pub use Rattle.client_core.specs.Calls.{Abort, acts_of_fronts, AreCounted, begun_now, behind_call, behind_calls, Call, client_behind, Connected}
pub use Rattle.client_core.specs.Calls.{counted_by, done_by, features_ended, Feed, first_plan, front_of, has_homing, is_last, is_told, kind_counted}
pub use Rattle.client_core.specs.Calls.{Leave, next_kind, origin_ended, origins_ended, origins_of, Plans, plans_begun, plans_behind, plans_by}
pub use Rattle.client_core.specs.Calls.{possible, ReadOne, Restart, Resume, Send, Sent, start_behind, tells, told_homed}
pub use Rattle.client_core.specs.Clients.{are_ours, is_faulted, is_ours, may_connect, may_read}
pub use Rattle.client_core.specs.Progress.{is_contact, measured_so, seen, tally_of}
pub use Rattle.client_core.specs.Tables.{is_count, opened_of, planned_command, table_of}
pub use Rattle.client_core.specs.declared.progress.Progress.{Progress}
pub use Rattle.contact_ledger.specs.FeatureTexts.{CanBeWritten, IsPointCount}
pub use Rattle.contact_ledger.specs.Ledgers.{connection_most, HaveOrigins, IsConnection}
pub use Rattle.contact_ledger.specs.declared.acts.Act.{Act}
pub use Rattle.contact_ledger.specs.declared.features.Feature.{Feature}
pub use Rattle.contact_ledger.specs.declared.features.Origin.{Origin}
pub use Rattle.dme_line.specs.Kinds.{is_event_kind, kind_of}
pub use Rattle.dme_line.specs.Written.{written_command}
pub use Rattle.dme_line.specs.declared.commands.Command.{Command}
pub use Rattle.dme_line.specs.declared.commands.Kind.{Kind}
pub use Rattle.dme_line.specs.declared.homed.NotHomedText.{NotHomedText}
pub use Rattle.dme_line.specs.declared.points.NotPoint.{NotPoint}
pub use Rattle.dme_line.specs.declared.responses.NotResponse.{NotResponse}
pub use Rattle.dme_line.specs.declared.responses.Response.{Response}
pub use Rattle.dme_line.specs.declared.tags.Tag.{Tag}
pub use Rattle.dme_line.specs.declared.tags.Tag.TheVariants.{Event, Std}
pub use Rattle.dme_tags.specs.Answers.{effect_heard, IsRefused}
pub use Rattle.dme_tags.specs.Opened.{failed_behind, heard_event, heard_standard, next_tag, OpenValue, tagged, with_drawn}
pub use Rattle.dmis_program.specs.Meaning.{Meaning}
pub use Rattle.dmis_program.specs.Programs.{IsFeature, IsProgram}
pub use Rattle.dmis_program.specs.declared.features.Wanted.{Wanted}
pub use Rattle.fixed_um.specs.declared.lengths.Point.{Point}
pub use Rattle.line_framing.specs.Framing.{after_next, fed, fed_behind, Framing, IsFeedRefused, left_by, no_bytes}
pub use Rattle.line_framing.specs.Next.{Front, next_of}
pub use Rattle.line_framing.specs.declared.faults.FramingFault.{FramingFault}
pub use Rattle.protocol_model.proofs.invariant.Touching.{HasDatum, Keeps, measured_keeps}
pub use Rattle.protocol_model.proofs.table.Asking.{ask_nothing, AskNothing, tells_unasked}
pub use Rattle.protocol_model.proofs.table.Basics.{and_false, if_false, if_true}
pub use Rattle.protocol_model.proofs.table.Counts.{count_keeps, failed_stays, is_failed-true, never_counts}
pub use Rattle.protocol_model.proofs.table.Replying.{fine, step_cases}
pub use Rattle.protocol_model.proofs.undisturbed_run.Following.{act_stands, acts_join, AreAsked, AreFilled, asked_at, becomes_calm, becomes_filled}
pub use Rattle.protocol_model.proofs.undisturbed_run.Following.{counts_given, fits_asked, has_datum, IsAsked, IsAskedBy, IsFilled, IsGiven, kinds_of}
pub use Rattle.protocol_model.proofs.undisturbed_run.Following.{no_closes, no_counts, planned_more}
pub use Rattle.protocol_model.specs.Client.{act_of, begins_session, Client, client_aborted, client_connected, client_hears, client_left, client_read}
pub use Rattle.protocol_model.specs.Client.{client_restarted, client_resumed, client_sent, counted_next, due, ends_abort, faulted, first_due}
pub use Rattle.protocol_model.specs.Client.{first_state, heard_on, held_now, is_homing, is_running, is_whole, joined, last_state, left_state}
pub use Rattle.protocol_model.specs.Client.{may_abort, may_go, may_resume, measured, new_client, next_number, origin_of, passed_over, Sends}
pub use Rattle.protocol_model.specs.Client.{sends_abort, sends_next, state_behind, Table, tallied, Tally, tells_homed, without_homing}
pub use Rattle.protocol_model.specs.Ends.{ClientEnd, end_aborted, end_read, end_sent, front_read, given_for, given_homed, given_point, given_under}
pub use Rattle.protocol_model.specs.Ends.{held_under, line_read, new_client_end, response_read}
pub use Rattle.protocol_model.specs.Lines.{command_bytes}
pub use Rattle.protocol_model.specs.Open.{asks_data, asks_homed, Becomes, Closes, count_open, Counts, Effect, Heard, heard_in, is_asking, is_failed}
pub use Rattle.protocol_model.specs.Open.{judged}
pub use Rattle.protocol_model.specs.Plan.{behind, clearing, frame_behind, framing, is_empty, measuring, plan, stepping, tool_behind, tooling, up_to}
pub use Rattle.protocol_model.specs.PlanReading.{end_of, ends_of, feature_ends, touch_ends}
pub use Rattle.protocol_model.specs.Readings.{homed_of, point_of, reads_homed, reads_point, reads_response, response_of}
pub use Rattle.protocol_model.specs.Replies.{tag_is}
pub use Rattle.protocol_model.specs.Undisturbed.{act_in, acts_planned, AreActs, followed, StandsFor, without_homings}
pub use Rattle.protocol_model.specs.declared.held.Datum.{Datum}
pub use Rattle.protocol_model.specs.declared.held.OpenCommand.{OpenCommand}
pub use Rattle.protocol_model.specs.declared.lines.Line.{Line}
pub use Rattle.protocol_model.specs.declared.plans.Does.{Does}
pub use Rattle.protocol_model.specs.declared.plans.Planned.{Planned}
pub use Rattle.protocol_model.specs.declared.plans.Start.{Start}
pub use Rattle.protocol_model.specs.declared.states.Cause.{Cause}
pub use Rattle.protocol_model.specs.declared.states.State.{State}
pub use Rattle.std.proofs.Common.{[], ◌&&◌, ◌++◌, ◌+◌, ◌-◌, ◌<◌, ◌==◌, ◌||◌, ◌∙◌, ◌∷◌, ◌≡◌, ◌≤◌, add-one, ap, append-nil, append_assoc, arith, Bool}
pub use Rattle.std.proofs.Common.{bytes_eq, cond, drop, eq-eqb, eqb, eqb-true, Err, false, if◌then◌else◌, inr, is_some, le-leb, le_refl, leb-true}
pub use Rattle.std.proofs.Common.{length, length-append, length-drop, List, ltb-true, nat_le, nat_lt, None, not, Ok, Option, refl, Result, rules}
pub use Rattle.std.proofs.Common.{slice_index_or, Some, subst, suc, sym, take, true, zero, ℕ}
pub use Rattle.std.proofs.Math.Seq.{drop-append_seam, drop-cons, take-append_seam}
pub use Rattle.std.proofs.lemmas.Bool.{false≢true}
pub use Rattle.std.specs.List.{AllByRecursion}
