-- The names of the crates below, and of the definitions of this one, that its proofs use.
pub use Rattle.client_core.specs.Always.{FitsState}
pub use Rattle.client_core.specs.Calls.{Send}
pub use Rattle.client_core.specs.Clients.{are_ours, may_connect, may_read}
pub use Rattle.client_core.specs.Refusals.{IsReadRefused, IsRefused, IsSendRefused}
pub use Rattle.client_core.specs.declared.faults.ClientFault.{ClientFault}
pub use Rattle.contact_ledger.specs.Ledgers.{connection_most, contact_count, is_contact}
pub use Rattle.contact_ledger.specs.declared.acts.Act.{Act}
pub use Rattle.contact_ledger.specs.declared.features.Feature.{Feature}
pub use Rattle.dme_line.specs.declared.commands.Command.{Command}
pub use Rattle.dme_line.specs.declared.commands.Kind.{Kind}
pub use Rattle.dme_line.specs.declared.homed.NotHomedText.{NotHomedText}
pub use Rattle.dme_line.specs.declared.points.NotPoint.{NotPoint}
pub use Rattle.dme_line.specs.declared.responses.NotResponse.{NotResponse}
pub use Rattle.dme_line.specs.declared.responses.Response.{Response}
pub use Rattle.dme_line.specs.declared.tags.Tag.{Tag}
pub use Rattle.dmis_program.specs.Meaning.{block_touches, Meaning}
pub use Rattle.dmis_program.specs.Programs.{IsProgram}
pub use Rattle.dmis_program.specs.declared.features.Wanted.{Wanted}
pub use Rattle.fixed_um.specs.Calls.{Leads}
pub use Rattle.fixed_um.specs.Points.{point_sum}
pub use Rattle.fixed_um.specs.Shapes.{Direction}
pub use Rattle.fixed_um.specs.declared.frames.Frame.{Frame}
pub use Rattle.fixed_um.specs.declared.lengths.Point.{Point}
pub use Rattle.line_framing.proofs.FirstLine.{found}
pub use Rattle.line_framing.specs.Framing.{fed, fed_behind, Framing, IsLineDue, IsSound, left_by}
pub use Rattle.line_framing.specs.Next.{Front, IsFound, next_of}
pub use Rattle.line_framing.specs.declared.faults.FramingFault.{FramingFault}
pub use Rattle.link_world.specs.Claims.{first_plan, Headline, IsAnswer, IsNew, refused_by, takes_memory}
pub use Rattle.link_world.specs.Events.{HappensIf, HappensIff}
pub use Rattle.link_world.specs.Finishing.{AreFirstOfJoining, AreTurns, commands_most, Finishes, IsFinish, IsSameKind, Stops}
pub use Rattle.link_world.specs.Joined.{AreCalls, AreFit, AreOnWay, AreOwnCalls, called, client_joined, client_moves, client_turn, ClientCalls}
pub use Rattle.link_world.specs.Joined.{EndPair, IsCall, IsClientTurn, IsOneWorld, IsServerTurn, IsWorldOf, moves, no_call, no_calls, no_event}
pub use Rattle.link_world.specs.Joined.{not_called, one_more, PumpCalls, pumped_of, server_joined, server_left, server_moves, server_turn, steered}
pub use Rattle.link_world.specs.Joined.{steering, stops, TurnLeads, with_client, with_server}
pub use Rattle.link_world.specs.LinkRuns.{are_still, client_side, ClientEnds, ClientRan, ClientRun, ClientRunStopped, ClientRunWhy, ClientSide}
pub use Rattle.link_world.specs.LinkRuns.{is_over, LoopRan, LoopRun, LoopStopped, PairMoved, PairStopped, server_leaves, server_side, ServerRun}
pub use Rattle.link_world.specs.LinkRuns.{ServerRunStopped, ServerRunWhy, ServerSide, steps_most, turns_most}
pub use Rattle.link_world.specs.Links.{fewer_down, fewer_up, IsReached, link_of_connection, links_of, quiet_client, quiet_server, seen, StandsOn}
pub use Rattle.link_world.specs.Links.{with_down, with_up, with_world, WorldValue}
pub use Rattle.link_world.specs.Machines.{fits_job, simulated}
pub use Rattle.link_world.specs.Parts.{Leading, Makes, PlaysPart, repeats, Staged, staged, Tells, unwatched}
pub use Rattle.link_world.specs.PumpParts.{AllOut, Came, CameShort, GoesOn, IsPullFault, IsPushFault, IsTakeFault, Pushed, ReadsOn}
pub use Rattle.link_world.specs.Pumps.{ClientMoved, ClientMovedWithin, ClientStopped, ClientStoppedWithin, ClientTurn, ClientWhy, HasRefused, IsLost}
pub use Rattle.link_world.specs.Pumps.{lines_read, next_lines, of_client, Reading, Sending, sends, Stage, Taking, Working, Writing}
pub use Rattle.link_world.specs.Reports.{contact_rows, feature_rows, line, numbered_from, point_rows, reported}
pub use Rattle.link_world.specs.Runs.{FollowsPlan, Happened, happened, HasRun, Refused, refused, Wanting, wanting}
pub use Rattle.link_world.specs.ScheduleTexts.{instruction_on, instructions_on, is_number, is_refused, schedule_of, schedule_on}
pub use Rattle.link_world.specs.Schedules.{AreCounted, AreMade, ArePlayed, AreQuiet, Plays, PlaysTraced, rounds_most}
pub use Rattle.link_world.specs.ServerPumpParts.{has_work, IsServerReadFault, IsWorkFault, ReadIn, ServerCame, ServerCameShort, ServerGoesOn}
pub use Rattle.link_world.specs.ServerPumpParts.{ServerReadStops, steps_of, steps_of_one}
pub use Rattle.link_world.specs.ServerPumps.{ends, knows, of_server, ServerMoved, ServerMovedWithin, ServerStopped, ServerStoppedWithin, ServerTurn}
pub use Rattle.link_world.specs.ServerPumps.{ServerWhy, steps_made, turns}
pub use Rattle.link_world.specs.Showing.{EndsShown, IsRunCall, Shown}
pub use Rattle.link_world.specs.Traces.{client_mark, client_wrote, comes_up, down_on, Ends, is_there, lost_down, lost_up, no_trace, place, row, rows}
pub use Rattle.link_world.specs.Traces.{server_mark, server_wrote, standing, taken_after, traced, Traces, TracesAll, TraceValue, up_on, without_cr}
pub use Rattle.link_world.specs.Watching.{Completed, Hears, Note, notes_from, TellsRun}
pub use Rattle.link_world.specs.declared.connections.pumps.Moved.{Moved}
pub use Rattle.link_world.specs.declared.connections.pumps.PumpFault.{PumpFault}
pub use Rattle.link_world.specs.declared.texts.schedule_faults.ScheduleFault.{ScheduleFault}
pub use Rattle.link_world.specs.declared.texts.schedules.Instruction.{Instruction}
pub use Rattle.link_world.specs.declared.worlds.connection.Connection.{Connection}
pub use Rattle.link_world.specs.declared.worlds.faults.WorldFault.{WorldFault}
pub use Rattle.protocol_model.proofs.invariant.Moves.{done_on, machined_moves, Moves, read_moves, turned_moves, up_to_done, up_to_join}
pub use Rattle.protocol_model.proofs.invariant.Served.{contacts_more, served_sound, up_to_above}
pub use Rattle.protocol_model.proofs.undisturbed_run.UndisturbedRun.{homed_lines, undisturbed_acts, undisturbed_counts, undisturbed_lines}
pub use Rattle.protocol_model.proofs.whole_run.Carrying.{IsCarried, lined}
pub use Rattle.protocol_model.proofs.whole_run.Links.{link_long, link_same}
pub use Rattle.protocol_model.proofs.whole_run.SameProgram.{run_same, run_window}
pub use Rattle.protocol_model.proofs.whole_run.WholeRun.{always_sound, always_told, happens_carried, never_faulted_run, no_framing_fault, run_carried}
pub use Rattle.protocol_model.proofs.whole_run.WholeRun.{start_carried}
pub use Rattle.protocol_model.specs.Claims.{contacts, MadeContact, Sound, Told}
pub use Rattle.protocol_model.specs.Client.{Client, client_hears, client_read, counted_next, due, faulted, first_due, heard_event, heard_on}
pub use Rattle.protocol_model.specs.Client.{heard_standard, is_apart, is_homing, is_running, left_state, may_abort, may_resume, measured, next_number}
pub use Rattle.protocol_model.specs.Client.{sends_abort, sends_next, Table, tallied, Tally, tells_homed, without_homing}
pub use Rattle.protocol_model.specs.Ends.{ClientEnd, end_aborted, end_connected, end_fed, end_left, end_read, end_restarted, end_resumed, end_sent}
pub use Rattle.protocol_model.specs.Ends.{end_taken, front_read, front_served, given_for, given_homed, given_point, given_under, held_under}
pub use Rattle.protocol_model.specs.Ends.{line_read, new_client_end, new_server_end, response_read, ServerEnd, serving_accepted, serving_fed}
pub use Rattle.protocol_model.specs.Ends.{serving_left, serving_machined, serving_read, serving_restarted, serving_taken, serving_turned, with_answer}
pub use Rattle.protocol_model.specs.Finishing.{CanFinish, CanMeasure, HasMeasured, plan_left, rejoined, rejoining}
pub use Rattle.protocol_model.specs.Lines.{command_texts, reading_of, reply_bytes}
pub use Rattle.protocol_model.specs.Open.{count_open, Effect, Heard, heard_in, is_asking}
pub use Rattle.protocol_model.specs.Plan.{behind, frame_behind, framing, is_empty, measuring, plan, planned, stepping, tool_behind, tooling, up_to}
pub use Rattle.protocol_model.specs.Readings.{command_of, homed_of, point_of, response_of}
pub use Rattle.protocol_model.specs.Replies.{Reply, tag_is}
pub use Rattle.protocol_model.specs.Rounds.{all_down, all_of, all_up, AreAllBusy, AreBusy, AreRounds, AreWhile, AreWork, ended, ending, IsOne}
pub use Rattle.protocol_model.specs.Rounds.{IsRound, MayEnd, Then, working}
pub use Rattle.protocol_model.specs.Server.{carried, carried_out, checks, finished, first_failing, has_outcome, in_volume, job_of, job_run, machined}
pub use Rattle.protocol_model.specs.Server.{may_end, offset, refusal, running_job, Server, server_machined, server_read, server_turned, taken}
pub use Rattle.protocol_model.specs.Server.{touched, turned_to}
pub use Rattle.protocol_model.specs.Undisturbed.{acts_in, acts_planned, AreFirstActs, AreFirstLines, AreFirstOf, AreUndisturbed, AreUpTo, followed}
pub use Rattle.protocol_model.specs.Undisturbed.{met}
pub use Rattle.protocol_model.specs.World.{after, can, client_link, client_writes, connected, happens, has_some, is_line, Link, link_of, moved_down}
pub use Rattle.protocol_model.specs.World.{moved_up, no_link, run_of, server_link, server_writes, start, with_link, World}
pub use Rattle.protocol_model.specs.declared.events.Event.{Event}
pub use Rattle.protocol_model.specs.declared.held.Datum.{Datum}
pub use Rattle.protocol_model.specs.declared.lines.Line.{Line}
pub use Rattle.protocol_model.specs.declared.lines.Waiting.{Waiting}
pub use Rattle.protocol_model.specs.declared.machine.Job.{Job}
pub use Rattle.protocol_model.specs.declared.machine.Outcome.{Outcome}
pub use Rattle.protocol_model.specs.declared.plans.Planned.{Planned}
pub use Rattle.protocol_model.specs.declared.plans.Start.{Start}
pub use Rattle.protocol_model.specs.declared.states.Cause.{Cause}
pub use Rattle.protocol_model.specs.declared.states.State.{State}
pub use Rattle.server_core.specs.Serving.{IsFeedFault, may_accept, may_feed, may_turn, new_serving, ServerValue, with_end}
pub use Rattle.server_core.specs.Steady.{IsOff, IsRunnable}
pub use Rattle.server_core.specs.declared.faults.ServerFault.{ServerFault}
pub use Rattle.std.proofs.Common.{[], ◌&&◌, ◌*◌, ◌++◌, ◌+◌, ◌-◌, ◌<◌, ◌^◌, ◌||◌, ◌↔◌, ◌∙◌, ◌∷◌, ◌≡◌, ◌≢◌, ◌≤◌, ◌⊎◌, ap, append-nil, append_assoc}
pub use Rattle.std.proofs.Common.{arith, Bool, codes, cond, decimal, drop, eqb, Err, false, get_or, IfErr, IfOk, IfSome, if◌then◌else◌, inl, inr}
pub use Rattle.std.proofs.Common.{is_none, is_some, IsErr, IsErrAnd, IsOk, IsTrue, le-leb, leb-true, length, length-append, length-take-le, List}
pub use Rattle.std.proofs.Common.{lt-ltb, ltb-true, nat_le, nat_lt, None, not, Ok, OnErr, OnOk, Option, option_map, refl, Result, rules}
pub use Rattle.std.proofs.Common.{slice_index_or, slice_set, Some, subst, suc, sym, take, take-append-drop, take_all, true, true≢false, zero, ℕ}
pub use Rattle.std.proofs.KnownBytes.{Appends-kept, Appends-nil, Appends-trans, Consumes-nil, Consumes-trans}
pub use Rattle.std.proofs.Math.Seq.{drop-append_seam, take-append_seam}
pub use Rattle.std.proofs.lemmas.Bool.{and_from, and_parts, false≢true}
pub use Rattle.std.proofs.lemmas.Grind.{common_steps, flat_map-append}
pub use Rattle.std.proofs.lemmas.List.{drop-append-le, drop_all, drop_more, set-get_or, take-append-le, take_more}
pub use Rattle.std.specs.Io.KnownBytes.{Appends, Consumes, Keeps}
pub use Rattle.std.specs.List.{All, flat_map, IsLastAndRest, list_all, position, position_from}
pub use Rattle.std.specs.Result.{IsErrOf}
pub use Rattle.std.specs.Str.Lines.{lines}
pub use Rattle.std.specs.Str.Parse.{AllDigits, digits_value, digits_value_after}
pub use Rattle.std.specs.Vec.{vec_len}
pub use Rattle.tool_rack.specs.Setups.{SetupValue, shift_at}
