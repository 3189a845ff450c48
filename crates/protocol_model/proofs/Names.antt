-- The names of the crates below, and of the definitions of this one, that its proofs use.
pub use Rattle.contact_ledger.specs.Ledgers.{connection_most, contact_count, is_contact}
pub use Rattle.contact_ledger.specs.declared.acts.Act.{Act}
pub use Rattle.contact_ledger.specs.declared.features.Feature.{Feature}
pub use Rattle.contact_ledger.specs.declared.features.Origin.{Origin}
pub use Rattle.dme_line.proofs.CommandBack.{command_reads_back, volume_on_wire}
pub use Rattle.dme_line.proofs.CommandWire.{command-wire, wire_weaker}
pub use Rattle.dme_line.proofs.ResponseBack.{error-wire, error_reads_back, point_reads_back, response-wire, response_reads_back}
pub use Rattle.dme_line.specs.Kinds.{is_event_kind, kind_of}
pub use Rattle.dme_line.specs.Tags.{is_event_tag, IsNumbered, IsTag}
pub use Rattle.dme_line.specs.Words.{IsWireText}
pub use Rattle.dme_line.specs.Written.{HasArguments, HasVolumeLengths, IsIjk, IsWritable, written_command}
pub use Rattle.dme_line.specs.declared.commands.Command.{Command}
pub use Rattle.dme_line.specs.declared.commands.Csy.{Csy}
pub use Rattle.dme_line.specs.declared.commands.Csy.TheVariants.{MachineCsy, PartCsy}
pub use Rattle.dme_line.specs.declared.commands.Kind.{Kind}
pub use Rattle.dme_line.specs.declared.homed.NotHomedText.{NotHomedText}
pub use Rattle.dme_line.specs.declared.points.NotPoint.{NotPoint}
pub use Rattle.dme_line.specs.declared.reading.LineFault.{LineFault}
pub use Rattle.dme_line.specs.declared.responses.NotResponse.{NotResponse}
pub use Rattle.dme_line.specs.declared.responses.Response.{Response}
pub use Rattle.dme_line.specs.declared.tags.Tag.{Tag}
pub use Rattle.dme_line.specs.declared.tags.Tag.TheVariants.{Std}
pub use Rattle.dmis_program.specs.Meaning.{block_touches, features_of, Meaning}
pub use Rattle.dmis_program.specs.Programs.{AreBlocks, feature_touches, FollowSelections, IsFrame, IsProgram, IsStep, IsTouch}
pub use Rattle.dmis_program.specs.declared.features.Touch.{Touch}
pub use Rattle.dmis_program.specs.declared.features.Wanted.{Wanted}
pub use Rattle.dmis_program.specs.declared.steps.Step.{Step}
pub use Rattle.fixed_um.specs.Points.{IsInVolume, point_difference, point_opposite, point_sum, zero_point}
pub use Rattle.fixed_um.specs.Shapes.{Direction, IsDirection}
pub use Rattle.fixed_um.specs.declared.frames.Frame.{Frame}
pub use Rattle.fixed_um.specs.declared.frames.Frame.TheVariants.{Part}
pub use Rattle.fixed_um.specs.declared.lengths.Point.{Point}
pub use Rattle.line_framing.proofs.Streams.{line_bytes-append, no_fault, none_left, takes_first}
pub use Rattle.line_framing.specs.Content.{AreLines, IsLine, line_bytes}
pub use Rattle.line_framing.specs.Framing.{fed, fed_behind, Framing, left_by, no_bytes}
pub use Rattle.line_framing.specs.Next.{Front, next_of}
pub use Rattle.line_framing.specs.Stream.{TakesFirst}
pub use Rattle.line_framing.specs.declared.faults.FramingFault.{FramingFault}
pub use Rattle.protocol_model.specs.Claims.{acts_on, AreRuns, contacts, IsRun, IsServed, MadeContact, Serves, Sound, Told}
pub use Rattle.protocol_model.specs.Client.{act_of, begins_session, Client, client_aborted, client_connected, client_hears, client_left, client_read}
pub use Rattle.protocol_model.specs.Client.{client_restarted, client_resumed, client_sent, counted_next, due, ends_abort, faulted, first_due}
pub use Rattle.protocol_model.specs.Client.{first_free, first_state, heard_event, heard_on, heard_standard, held_now, is_apart, is_clearing}
pub use Rattle.protocol_model.specs.Client.{is_homing, is_running, is_whole, joined, last_state, left_state, may_abort, may_go, may_resume, measured}
pub use Rattle.protocol_model.specs.Client.{next_number, no_tally, or_else, origin_of, passed_over, Sends, sends_abort, sends_next, state_behind}
pub use Rattle.protocol_model.specs.Client.{Table, tallied, Tally, tells_homed, without_homing}
pub use Rattle.protocol_model.specs.Ends.{end_aborted, end_left, end_read, end_restarted, end_resumed, end_sent, front_read, front_served, given}
pub use Rattle.protocol_model.specs.Ends.{given_for, given_homed, given_point, given_under, held_kind, held_under, line_read, response_read}
pub use Rattle.protocol_model.specs.Ends.{ServerEnd, serving_accepted, serving_left, serving_machined, serving_read, serving_restarted}
pub use Rattle.protocol_model.specs.Ends.{serving_turned, with_answer, with_lines}
pub use Rattle.protocol_model.specs.Examples.{alike, alike_features, alike_wanted, along, at, feature, from_above, made, part, tool, twice_features}
pub use Rattle.protocol_model.specs.Examples.{twice_wanted}
pub use Rattle.protocol_model.specs.Finishing.{AreInReach, AreObeyed, CanFinish, CanMeasure, HasMeasured, IsInReach, IsObeyed, IsTouched}
pub use Rattle.protocol_model.specs.Finishing.{number_behind, plan_left, rejoined, StepsInReach}
pub use Rattle.protocol_model.specs.Lines.{command_bytes, command_text, command_texts, reading_of, reply_bytes, reply_text, reply_texts}
pub use Rattle.protocol_model.specs.Lines.{written_datum}
pub use Rattle.protocol_model.specs.Open.{asks_data, asks_homed, Becomes, Breaks, Closes, count_open, Counts, Effect, fits, Heard, heard_in}
pub use Rattle.protocol_model.specs.Open.{is_asking, is_failed, is_held, judged, judged_ack, judged_done, judged_error, judged_given, put_before}
pub use Rattle.protocol_model.specs.Open.{Refused, settled, Verdict}
pub use Rattle.protocol_model.specs.PlainExecution.{as_measured, MeasuredFeature, met_at, plain_execution, plain_point, plain_points, touch_job}
pub use Rattle.protocol_model.specs.Plan.{behind, clearing, frame_behind, framing, is_empty, measuring, plan, planned, starting, stepping}
pub use Rattle.protocol_model.specs.Plan.{tool_behind, tooling, up_to}
pub use Rattle.protocol_model.specs.PlanReading.{all_known, CanBeWritten, commands_of, end_of, ends_of, feature_ends, is_last, is_measuring}
pub use Rattle.protocol_model.specs.PlanReading.{IsInOrder, nothing_selected, opening, read_as, read_frame, read_move, read_touch, ReadAsPlanned}
pub use Rattle.protocol_model.specs.PlanReading.{selected_by, selected_frame, Selection, step_commands, touch_ends, touch_made, touch_of}
pub use Rattle.protocol_model.specs.PlanReading.{touches_made, touches_made_by, whole_commands}
pub use Rattle.protocol_model.specs.Readings.{command_of, homed_of, point_of, reads_command, reads_homed, reads_point, reads_response, response_of}
pub use Rattle.protocol_model.specs.Replies.{mark_of, Reading, Reply, tag_is, tag_of}
pub use Rattle.protocol_model.specs.Rounds.{all_down, all_of, all_up, AreAllBusy, AreBusy, AreRounds, AreWhile, AreWork, ended, ending, IsOne}
pub use Rattle.protocol_model.specs.Rounds.{IsRound, possible, Then, working}
pub use Rattle.protocol_model.specs.Server.{aborted, acted, all_fail, Answer, answers, carried, carried_out, fails, finished, first_failing, frame_of}
pub use Rattle.protocol_model.specs.Server.{fresh, has_no_tool, has_outcome, idle, in_error, in_volume, is_abort, is_clear, job_of, job_run}
pub use Rattle.protocol_model.specs.Server.{lacks_tool, leaves_volume, machined, may_end, offset, opens, queued, refusal, running_fails, running_job}
pub use Rattle.protocol_model.specs.Server.{runs_under, Server, server_accepted, server_left, server_machined, server_read, server_restarted}
pub use Rattle.protocol_model.specs.Server.{server_turned, stands, stopped, tagged, taken, touched, turned_to, waits_under, wants_home, wants_session}
pub use Rattle.protocol_model.specs.Typed.{answered, client_reads, sent, server_reads, ServerReadsOld}
pub use Rattle.protocol_model.specs.Undisturbed.{act_in, acts_in, acts_planned, AreActs, AreFirstActs, AreFirstLines, AreFirstOf, AreUndisturbed}
pub use Rattle.protocol_model.specs.Undisturbed.{AreUpTo, followed, homings_of, IsHomedOff, IsUndisturbed, lines_from, met, tag_at, without_homings}
pub use Rattle.protocol_model.specs.World.{client_link, client_writes, has_some, is_any, is_faulted, is_line, Link, link_of, moved_down, moved_up}
pub use Rattle.protocol_model.specs.World.{no_link, server_link, server_writes, with_link}
pub use Rattle.protocol_model.specs.declared.events.Event.TheVariants.{Down, Up}
pub use Rattle.protocol_model.specs.declared.held.Datum.{Datum}
pub use Rattle.protocol_model.specs.declared.held.OpenCommand.{OpenCommand}
pub use Rattle.protocol_model.specs.declared.held.Stage.{Stage}
pub use Rattle.protocol_model.specs.declared.lines.Line.{Line}
pub use Rattle.protocol_model.specs.declared.lines.Misread.{Misread}
pub use Rattle.protocol_model.specs.declared.lines.Waiting.{Waiting}
pub use Rattle.protocol_model.specs.declared.machine.Job.{Job}
pub use Rattle.protocol_model.specs.declared.machine.Outcome.{Outcome}
pub use Rattle.protocol_model.specs.declared.plans.Does.{Does}
pub use Rattle.protocol_model.specs.declared.plans.Planned.{Planned}
pub use Rattle.protocol_model.specs.declared.plans.Start.{Start}
pub use Rattle.protocol_model.specs.declared.plans.Start.TheVariants.{NewConnection, SameConnection}
pub use Rattle.protocol_model.specs.declared.states.Cause.{Cause}
pub use Rattle.protocol_model.specs.declared.states.State.{State}
pub use Rattle.std.proofs.Common.{[], ◌%◌, ◌&&◌, ◌++◌, ◌+◌, ◌-ℤ◌, ◌-◌, ◌<◌, ◌||◌, ◌∙◌, ◌∷◌, ◌≡◌, ◌≢◌, ◌≤◌, ◌⊎◌, ap, append-nil, append_assoc, arith}
pub use Rattle.std.proofs.Common.{Bool, bytes_eq, codes, cond, drop, eq-eqb, eqb, eqb-true, Err, false, get_or, get_or-set_other, get_or-set_same}
pub use Rattle.std.proofs.Common.{IfSome, if◌then◌else◌, inl, inr, is_none, is_some, le-leb, le_refl, le_trans, leb-true, length, length-append}
pub use Rattle.std.proofs.Common.{length-set, List, ltb-true, map, nat_le, nat_lt, ne_eqb, neg_ℤ, None, not, Ok, Option, pos, refl, Result, Some}
pub use Rattle.std.proofs.Common.{subst, suc, suc-ne-zero, sym, take, take-append-drop, true, unsigned_abs, zero, ℕ, ℤ}
pub use Rattle.std.proofs.lemmas.Bool.{and_parts, eqb-false, false≢true, lt-leb}
pub use Rattle.std.proofs.lemmas.List.{append_cancel_left, append_cancel_right}
pub use Rattle.std.specs.List.{All, AllByRecursion, flat_map, list_all, list_any}
