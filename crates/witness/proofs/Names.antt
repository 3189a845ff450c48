-- The names of the crates below, and of the definitions of this one, that its proofs use.
pub use Rattle.contact_ledger.proofs.WrittenTexts.{line_spaced, spaced_more, text_more}
pub use Rattle.contact_ledger.specs.Lines.{spaced, text_of}
pub use Rattle.dme_line.specs.declared.commands.Command.{Command}
pub use Rattle.dme_line.specs.declared.commands.Csy.{Csy}
pub use Rattle.dme_line.specs.declared.tags.Tag.{Tag}
pub use Rattle.fixed_um.specs.declared.lengths.Point.{Point}
pub use Rattle.line_framing.specs.Framing.{Framing, IsLineDue}
pub use Rattle.line_framing.specs.Next.{behind_content, content_len, content_of, ending, Front, next_of, verdict}
pub use Rattle.line_framing.specs.Stream.{fault_in, IsStream}
pub use Rattle.line_framing.specs.declared.faults.FramingFault.{FramingFault}
pub use Rattle.protocol_model.specs.Readings.{command_of, homed_of, point_of, reads_command, reads_homed, reads_point, reads_response, response_of}
pub use Rattle.protocol_model.specs.Replies.{tag_is}
pub use Rattle.std.proofs.Common.{[], ◌&&◌, ◌++◌, ◌+◌, ◌<◌, ◌==◌, ◌||◌, ◌∙◌, ◌∷◌, ◌≡◌, ◌≤◌, add-one, ap, append-nil, append_assoc, arith, Bool, cond}
pub use Rattle.std.proofs.Common.{decimal, drop, eq-eqb, Err, false, get_or, IfOk, if◌then◌else◌, is_some, IsNone, length, length-append, List}
pub use Rattle.std.proofs.Common.{lt-ltb, ltb-false, map, nat_lt, ne_eqb, None, not, Ok, OnErr, OnOk, Option, option_map, position, refl, remove}
pub use Rattle.std.proofs.Common.{Result, rules, slice_get, Some, subst, suc, sym, take, take-append-drop, take_all, true, zero, ℕ}
pub use Rattle.std.proofs.Math.Bool.{and-false, or-false}
pub use Rattle.std.proofs.lemmas.List.{drop-map, drop_all, map-append, take-map}
pub use Rattle.std.proofs.lemmas.List.Edits.{map_over_more}
pub use Rattle.std.proofs.lemmas.Option.{slice_get-map, slice_get_read}
pub use Rattle.witness.specs.Asking.{answered, Answers, Line, Sends, sent, Signal}
pub use Rattle.witness.specs.Dialogues.{after, after_all, after_mark, answered_known, at_once, at_use, client_sent, Dialogue, faulting, first_under}
pub use Rattle.witness.specs.Dialogues.{foreign_event, heard_at, heard_under, hearing, is_out_of_turn, is_report, last_under, may_not_come, one_more}
pub use Rattle.witness.specs.Dialogues.{reported_by, sending, sending_after, sent_tagged, server_answered, unasked, unknowing, unless_crossed}
pub use Rattle.witness.specs.Dialogues.{use_heard, use_renewed, waits, with_event, without_rival}
pub use Rattle.witness.specs.Histories.{count_sent, error_at, first_of, for_line, is_for, last_of, later, line_at, mark_in, marks, open_lines, owner}
pub use Rattle.witness.specs.Histories.{place, rival_of, stage_of, without}
pub use Rattle.witness.specs.Known.{all_renewed, below, fresh, is_rival, nothing, one_renewed, renewed, standing}
pub use Rattle.witness.specs.Marks.{has_turn, heard_as, is_answer, is_end, is_error, is_foreign, is_received, stage_with}
pub use Rattle.witness.specs.Rules.{all_for, all_reported, at_once_below, below_sent, by_answer, by_owner, by_progress, comes_early, csy_after}
pub use Rattle.witness.specs.Rules.{done_before, early, early_at, error_of, events_of, fault_of, fault_since, is_at_once, is_crossed, is_done}
pub use Rattle.witness.specs.Rules.{is_doubtful, is_fault, known_below, known_for, last_csy, last_part, last_tool, last_zero, may_hold, may_hold_for}
pub use Rattle.witness.specs.Rules.{part_after, progress_of, progress_with, reported_at_once, seen, so_far, standing_of, tool_after, unless_report}
pub use Rattle.witness.specs.Rules.{witnessed, zero_after}
pub use Rattle.witness.specs.Texts.{numbered, told_fields, told_line, told_lines}
pub use Rattle.witness.specs.Watching.{after_first, AreAllRead, at_first, came, client_front, client_read, client_times, IsFew, left_after}
pub use Rattle.witness.specs.Watching.{ReadsClient, ReadsServer, ReadsWithin, server_front, server_read, server_times, then_one, unwatched, Watching}
pub use Rattle.witness.specs.declared.lines.Heard.{Heard}
pub use Rattle.witness.specs.declared.lines.Known.{Known}
pub use Rattle.witness.specs.declared.lines.Progress.{Progress}
pub use Rattle.witness.specs.declared.lines.Progress.TheVariants.{Begun, Done}
pub use Rattle.witness.specs.declared.lines.Renewal.TheVariants.{Answer, Fault, Mark}
pub use Rattle.witness.specs.declared.lines.Reported.{Reported}
pub use Rattle.witness.specs.declared.lines.Rule.TheVariants.{NotInTurn}
pub use Rattle.witness.specs.declared.lines.SentCommand.{SentCommand}
pub use Rattle.witness.specs.declared.lines.Stage.{Stage}
pub use Rattle.witness.specs.declared.lines.Standing.{Standing}
pub use Rattle.witness.specs.declared.lines.Use.{Use}
