-- The names of other files that contracts of this crate cite.
pub use Rattle.std.specs.List.{list_all, list_any}
pub use Rattle.client_core.specs.Calls.{Abort, Call, Connected, Feed, Leave, ReadOne, Restart, Resume, Send, Sent, behind_calls}
pub use Rattle.client_core.specs.Clients.{may_read}
pub use Rattle.contact_ledger.specs.declared.acts.Act.{Act}
pub use Rattle.dme_line.specs.declared.commands.Csy.TheVariants.{MachineCsy}
pub use Rattle.dme_line.specs.declared.tags.Tag.{Tag}
pub use Rattle.dme_line.specs.declared.tags.Tag.TheVariants.{Event, Std}
pub use Rattle.dmis_program.specs.Meaning.{Meaning}
pub use Rattle.fixed_um.specs.declared.frames.Frame.TheVariants.{Machine, Part}
pub use Rattle.protocol_model.specs.Ends.{ClientEnd, ServerEnd, new_server_end}
pub use Rattle.protocol_model.specs.Lines.{reply_bytes, reply_text}
pub use Rattle.protocol_model.specs.Replies.{Ack, Done, Given}
pub use Rattle.server_core.specs.Calls.{behind_call}
pub use Rattle.record_text.specs.ToldExamples.{changing, completed}
pub use Rattle.witness.specs.Asking.{Answers, Sends, Signal}
pub use Rattle.witness.specs.Dialogues.{Dialogue, after, foreign_event, silence}
pub use Rattle.witness.specs.Examples.{hears_event, touched}
pub use Rattle.witness.specs.Known.{frame_of}
pub use Rattle.witness.specs.Relaying.{Course, IsAllTold, IsClientRead, Relaying, Relays}
pub use Rattle.witness.specs.Rules.{all_reported, reported_of}
pub use Rattle.witness.specs.Texts.{told_lines}
pub use Rattle.witness.specs.Watching.{AreAllRead, Watching, client_lines, client_read, ledger, server_lines}
pub use Rattle.witness.specs.declared.lines.Reported.{Reported}
pub use Rattle.witness.specs.declared.lines.Reported.TheVariants.{Broken, Did, FramedSomehow, Left, MovedSomewhere, Other, Touched, Unasked}
pub use Rattle.witness.specs.declared.lines.Rule.TheVariants.{OutOfOrder}
pub use Rattle.witness.specs.declared.lines.SentCommand.{SentCommand}
pub use Rattle.witness.specs.declared.lines.SentCommand.TheVariants.{Asking, Foreign, Known}
pub use Rattle.witness.specs.declared.lines.Side.TheVariants.{Client}
pub use Rattle.witness_laws.specs.Acts.{BeginsToClaim, BeginsWith, Claims, all_done}
pub use Rattle.witness_laws.specs.Ahead.{AreCausal, AreUnanswered, Calls, Comes, IsBegun, Turn, Watched, after_turns, unasked_turns}
pub use Rattle.witness_laws.specs.Claims.{ClaimNoMore, in_turn, reported_first}
pub use Rattle.witness_laws.specs.ClientExamples.{fresh, homing, origin, relayed, sending, sent, stray, touch, two, unread_on, watching, zero, zero_read}
pub use Rattle.witness_laws.specs.Contacts.{HadKnown}
pub use Rattle.witness_laws.specs.Courses.{AreLinesOf, lines_came, lines_of}
pub use Rattle.witness_laws.specs.Lines.{IsNewClient, IsOurClient, counted_by, unasked, witnessed}
pub use Rattle.witness_laws.specs.Lockstep.{IsCourse, TakesCourse, acts_after, all_read, answered, keeps_out, line_read, reported, taking, uses_again}
pub use Rattle.witness_laws.specs.MachineExamples.{BreaksBefore, BreaksMade, BreaksOrder, BreaksReported, BreaksTouched, BreaksWithin, Shows, acts_late, change_first, crosswise, fell_off, frame_had, homed, in_part, known, late_end, no_contact, not_held, not_made, once_late, p1, p2, part_frame, plain, sent_foreign, sent_untagged, taken_again, touch_takes, two_clients, used_again, zero_selects}
pub use Rattle.witness_laws.specs.Machines.{Entry, Message, lines}
pub use Rattle.witness_laws.specs.OrderExamples.{asked_course, asked_too, course, crossing, early, ended, ended_2, failed_before, home, home_2, read_both, received, refused, selecting, untagged, with_end}
pub use Rattle.witness_laws.specs.Orders.{AreFresh, Down, IsCausal, IsCausalAndClear, IsClear, IsCounted, IsPrefix, Line, Same, Up, answers, downs, is_open, refuses, said, said_all, some_at_once, two_send, ups}
pub use Rattle.witness_laws.specs.Premises.{Keeps, KeepsUnlessCrossed}
pub use Rattle.witness_laws.specs.Relays.{IsRelayed, KnowsSo, onto}
pub use Rattle.witness_laws.specs.Reports.{AreReportsOf, IsReportOf, NamesThoseOf, act_reports, breaks_only, frame_named, is_foreign_under, some_foreign, tool_named, tool_of}
pub use Rattle.witness_laws.specs.ServerExamples.{at, contact, line, runs, serving, waits}
pub use Rattle.witness_laws.specs.Transit.{AreReportsOfFirst, all_fed, all_written, fed_by, lines_seen}
pub use Rattle.witness_laws.specs.Visits.{BeginSo, HoldsTrue, Visit, behind_visits, is_visit, some_unasked, stays, told_of_all, written_of}
