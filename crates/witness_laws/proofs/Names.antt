-- The names of the crates below that proofs of several laws use.
pub use Rattle.contact_ledger.specs.declared.acts.Act.{Act}
pub use Rattle.contact_ledger.specs.declared.features.Feature.{Feature}
pub use Rattle.dme_line.proofs.ReadWritable.{read_is_writable}
pub use Rattle.dme_line.specs.CommandText.{ReadsCommand}
pub use Rattle.dme_line.specs.Kinds.{is_event_kind, kind_of}
pub use Rattle.dme_line.specs.Points.{IsOnWire, written_point}
pub use Rattle.dme_line.specs.Tags.{is_event_tag, IsNumbered, IsTag, written_tag}
pub use Rattle.dme_line.specs.Written.{IsWritable, written_command}
pub use Rattle.dme_line.specs.declared.commands.Command.{Command}
pub use Rattle.dme_line.specs.declared.commands.Csy.{Csy}
pub use Rattle.dme_line.specs.declared.commands.Csy.TheVariants.{MachineCsy, PartCsy}
pub use Rattle.dme_line.specs.declared.commands.Kind.{Kind}
pub use Rattle.dme_line.specs.declared.homed.NotHomedText.{NotHomedText}
pub use Rattle.dme_line.specs.declared.points.NotPoint.{NotPoint}
pub use Rattle.dme_line.specs.declared.reading.LineFault.{LineFault}
pub use Rattle.dme_line.specs.declared.responses.NotResponse.{NotResponse}
pub use Rattle.dme_line.specs.declared.responses.Response.{Response}
pub use Rattle.dme_line.specs.declared.tags.Tag.{Tag}
pub use Rattle.dme_line.specs.declared.tags.Tag.TheVariants.{Event, Std}
pub use Rattle.fixed_um.specs.Points.{IsInVolume, point_difference, point_opposite, zero_point}
pub use Rattle.fixed_um.specs.Shapes.{Direction}
pub use Rattle.fixed_um.specs.declared.frames.Frame.{Frame}
pub use Rattle.fixed_um.specs.declared.frames.Frame.TheVariants.{Machine, Part}
pub use Rattle.fixed_um.specs.declared.lengths.Point.{Point}
pub use Rattle.line_framing.proofs.CallLists.{handed_out_all, nothing_is_lost}
pub use Rattle.line_framing.proofs.FirstLine.{first_line_at, found}
pub use Rattle.line_framing.proofs.Streams.{AreLines-append, line_bytes-append, one_stream, stream_end, stream_more}
pub use Rattle.line_framing.specs.Calls.{after_calls, Ask, bytes_fed, Call, Feed, handed_out, IsAccounted, line_in, NoLineLeft}
pub use Rattle.line_framing.specs.Content.{AreLines, IsLine, line_bytes}
pub use Rattle.line_framing.specs.Framing.{after_next, fed, fed_behind, Framing, IsLineDue, no_bytes}
pub use Rattle.line_framing.specs.Next.{Front, next_of}
pub use Rattle.line_framing.specs.Stream.{fault_in, IsStream}
pub use Rattle.line_framing.specs.declared.faults.FramingFault.{FramingFault}
pub use Rattle.protocol_model.proofs.invariant.Moves.{acts_done, acts_more, done_on, machined_moves, Moves, read_moves, turned_moves, up_to_done}
pub use Rattle.protocol_model.proofs.invariant.Moves.{up_to_join}
pub use Rattle.protocol_model.proofs.invariant.Served.{acts_none, contacts_more, up_to_above}
pub use Rattle.protocol_model.proofs.plan.Marks.{HasNoAbort, plan_no_abort, selected_at, turned_twice}
pub use Rattle.protocol_model.proofs.plan.PassedOver.{homing_is, passed_no_abort, passes}
pub use Rattle.protocol_model.proofs.table.Basics.{and_false, if_cases, if_false, if_true, tag_is-refl, tag_is-true}
pub use Rattle.protocol_model.proofs.table.Replying.{tabled}
pub use Rattle.protocol_model.proofs.table.Walks.{same_two, staged, two}
pub use Rattle.protocol_model.proofs.undisturbed_run.Following.{AreFilled, becomes_calm, IsGiven, no_closes, no_counts}
pub use Rattle.protocol_model.proofs.written_lines.PlainClient.{HaveArguments, plan_arguments, standard_kind}
pub use Rattle.protocol_model.proofs.written_lines.Writable.{AreReplies, command_read, difference_on_wire, homed_read, IsWritableReply}
pub use Rattle.protocol_model.proofs.written_lines.Writable.{opposite_in_volume, point_read, replies_join, reply_lines, reply_read, response_for}
pub use Rattle.protocol_model.specs.Claims.{acts_on, AreRuns, contacts, IsRun, MadeContact, Serves, Sound}
pub use Rattle.protocol_model.specs.Client.{begins_session, client_connected, client_hears, client_left, client_restarted, client_resumed}
pub use Rattle.protocol_model.specs.Client.{counted_next, due, heard_event, heard_on, heard_standard, held_now, is_homing, is_running, left_state}
pub use Rattle.protocol_model.specs.Client.{may_abort, may_resume, measured, next_number, passed_over, sends_abort, sends_next, Table, tallied, Tally}
pub use Rattle.protocol_model.specs.Client.{tells_homed, without_homing}
pub use Rattle.protocol_model.specs.Ends.{ClientEnd, end_connected, end_left, front_read, front_served, given_under, held_kind, held_under, line_read}
pub use Rattle.protocol_model.specs.Ends.{new_client_end, response_read, ServerEnd, serving_accepted, serving_fed, serving_machined, serving_turned}
pub use Rattle.protocol_model.specs.Lines.{command_texts, reading_of, reply_bytes, reply_text, reply_texts}
pub use Rattle.protocol_model.specs.Open.{asks_data, Becomes, Closes, count_open, Counts, Effect, fits, heard_in, is_failed, is_held, judged}
pub use Rattle.protocol_model.specs.Open.{judged_done, judged_given, put_before, Refused, settled, Verdict}
pub use Rattle.protocol_model.specs.Plan.{behind, frame_behind, framing, is_empty, measuring, plan, planned, stepping, tool_behind, up_to}
pub use Rattle.protocol_model.specs.Readings.{command_of, homed_of, point_of, reads_command, reads_response, response_of}
pub use Rattle.protocol_model.specs.Replies.{Reply, tag_is}
pub use Rattle.protocol_model.specs.Server.{aborted, acted, all_fail, carried_out, fails, fault_number, finished, has_outcome, in_error, in_volume}
pub use Rattle.protocol_model.specs.Server.{is_abort, is_clear, kind_in, machined, may_end, offset, queued, refusal, runs_under, server_machined}
pub use Rattle.protocol_model.specs.Server.{server_read, server_turned, stands, stopped, tagged, taken, turned_to, waits_under}
pub use Rattle.protocol_model.specs.declared.held.Datum.{Datum}
pub use Rattle.protocol_model.specs.declared.held.OpenCommand.{OpenCommand}
pub use Rattle.protocol_model.specs.declared.lines.Misread.{Misread}
pub use Rattle.protocol_model.specs.declared.lines.Waiting.{Waiting}
pub use Rattle.protocol_model.specs.declared.machine.Outcome.{Outcome}
pub use Rattle.protocol_model.specs.declared.plans.Planned.{Planned}
pub use Rattle.protocol_model.specs.declared.plans.Start.{Start}
pub use Rattle.protocol_model.specs.declared.states.Cause.{Cause}
pub use Rattle.protocol_model.specs.declared.states.State.{State}
pub use Rattle.std.proofs.Common.{◌&&◌, ◌++◌, ◌+◌, ◌-◌, ◌<◌, ◌==◌, ◌||◌, ◌∙◌, ◌∷◌, ◌≡◌, ◌≤◌, ◌⊎◌, [], ap, append-nil, append_assoc, arith, Bool}
pub use Rattle.std.proofs.Common.{codes, cond, drop, eq-eqb, eqb-true, Err, false, filter, IfOk, if◌then◌else◌, inl, inr, is_none, is_some, IsNone}
pub use Rattle.std.proofs.Common.{length, length-append, List, map, nat_le, nat_lt, ne_eqb, None, not, Ok, Option, position, refl, remove}
pub use Rattle.std.proofs.Common.{Result, slice_get, slice_index, Some, subst, suc, sym, take, true, zero, ℕ}
pub use Rattle.std.proofs.Math.Seq.{drop-append-add, drop-append_seam}
pub use Rattle.std.proofs.lemmas.Bool.{and_from, and_parts, cases_lt, cases_order, false≢true, lt-ltb, ltb-true, not-true, or_from, or_left}
pub use Rattle.std.proofs.lemmas.Bool.{or_parts, or_right}
pub use Rattle.std.proofs.lemmas.Iterator.Adapters.{position_from-zero}
pub use Rattle.std.proofs.lemmas.List.{append_cancel_left, drop-append-le, drop-map, length-drop, length-map, map-append, take-append-le, take-map}
pub use Rattle.std.proofs.lemmas.List.Elements.{filter-append}
pub use Rattle.std.proofs.lemmas.List.Folds.{list_all-append, list_any-append}
pub use Rattle.std.specs.List.{list_all, list_any, position_from}
pub use Rattle.witness.specs.Asking.{Ack, answered, Answers, client_line, Error, Given, is_asking, Sends, sent, server_line, Signal, signal_of}
pub use Rattle.witness.specs.Dialogues.{act_of, after, after_all, after_mark, answered_known, at_once, at_use, client_sent, Dialogue, faulting}
pub use Rattle.witness.specs.Dialogues.{first_under, foreign_event, framed, heard_at, heard_under, hearing, if_own, is_lost, is_out_of_turn}
pub use Rattle.witness.specs.Dialogues.{is_report, last_under, later, left_over, line_of, may_not_come, moved, one_more, other_at, report_of}
pub use Rattle.witness.specs.Dialogues.{reported_by, sending, sending_after, sent_tagged, server_answered, silence, touched, unasked, unknowing}
pub use Rattle.witness.specs.Dialogues.{unless_crossed, use_heard, use_renewed, waits, with_event, without_rival}
pub use Rattle.witness.specs.Histories.{count_sent, first_of, for_line, is_for, line_at, mark_in, marks, open_lines, owner, place, Sent, stage_of}
pub use Rattle.witness.specs.Histories.{without}
pub use Rattle.witness.specs.Known.{all_renewed, answering, at, below, below_command, done, faulted, frame_by, frame_in, frame_of, fresh, if_done}
pub use Rattle.witness.specs.Known.{is_rival, nothing, one_renewed, part_at, renewed, standing, tool_of, unless_part, unless_refused, with_mark}
pub use Rattle.witness.specs.Marks.{given_for, given_homed, given_point, given_to, has_turn, heard_as, is_answer, is_end, is_error, is_foreign}
pub use Rattle.witness.specs.Marks.{is_received, stage_after, stage_with, step}
pub use Rattle.witness.specs.Relaying.{begun, client, Course, FromClient, FromServer, IsAllTold, MakeDue, Move, none, Read, Reads, Relaying, Relays}
pub use Rattle.witness.specs.Relaying.{server, ToClient, ToServer, with_move, Write}
pub use Rattle.witness.specs.Rules.{all_for, all_reported, at_once_below, by_answer, by_owner, by_progress, comes_early, csy_after, done_before}
pub use Rattle.witness.specs.Rules.{early, events_of, fault_since, is_at_once, is_crossed, is_done, is_doubtful, is_fault, known_for, last_csy}
pub use Rattle.witness.specs.Rules.{last_part, last_tool, last_zero, may_hold_for, progress_of, progress_with, reported_at_once, reported_of}
pub use Rattle.witness.specs.Rules.{standing_of, tool_after, unless_fault, unless_report, zero_after}
pub use Rattle.witness.specs.Texts.{numbered, told_lines}
pub use Rattle.witness.specs.Watching.{AreAllRead, came, client_front, client_lines, client_read, client_times, ledger, ReadsClient, ReadsServer}
pub use Rattle.witness.specs.Watching.{server_front, server_lines, server_times, Watching}
pub use Rattle.witness.specs.declared.lines.Heard.{Heard}
pub use Rattle.witness.specs.declared.lines.Known.{Known}
pub use Rattle.witness.specs.declared.lines.Progress.{Progress}
pub use Rattle.witness.specs.declared.lines.Progress.TheVariants.{Begun, Done}
pub use Rattle.witness.specs.declared.lines.Renewal.{Renewal}
pub use Rattle.witness.specs.declared.lines.Renewal.TheVariants.{Answer, Fault, Mark}
pub use Rattle.witness.specs.declared.lines.Reported.{Reported}
pub use Rattle.witness.specs.declared.lines.Reported.TheVariants.{Did, FramedSomehow, Left, MovedSomewhere}
pub use Rattle.witness.specs.declared.lines.Rule.TheVariants.{NotInTurn}
pub use Rattle.witness.specs.declared.lines.SentCommand.{SentCommand}
pub use Rattle.witness.specs.declared.lines.SentCommand.TheVariants.{Asking, Foreign}
pub use Rattle.witness.specs.declared.lines.Side.TheVariants.{Client, Server}
pub use Rattle.witness.specs.declared.lines.Stage.{Stage}
pub use Rattle.witness.specs.declared.lines.Standing.{Standing}
pub use Rattle.witness.specs.declared.lines.Step.{Step}
pub use Rattle.witness.specs.declared.lines.Step.TheVariants.{Breaks, Comes, Fails, Stays}
pub use Rattle.witness.specs.declared.lines.Use.{Use}
pub use Rattle.witness_laws.specs.Claims.{ClaimNoMore, ClaimsNoMore, contact, in_turn, is_at_once_report, IsPart, known, reported_first, same}
pub use Rattle.witness_laws.specs.Claims.{unknown}
pub use Rattle.witness_laws.specs.Courses.{are_whole_lines, AreLinesOf, completed, down_in, lines_came, lines_coming, lines_in, lines_of, lines_read}
pub use Rattle.witness_laws.specs.Courses.{up_in, whole_lines}
pub use Rattle.witness_laws.specs.Orders.{answers, AreCounted, AreFresh, at_once_line, Down, downs, has_failed_under, is_error_signal}
pub use Rattle.witness_laws.specs.Orders.{is_of, is_open, is_refusal, is_under, IsBehind, IsCausal, IsClear, IsCounted, IsFresh, IsNew}
pub use Rattle.witness_laws.specs.Orders.{IsPrefix, IsSure, Line, refuses, said, said_all, sends, some_at_once, some_sends, two_send, Up, ups}
