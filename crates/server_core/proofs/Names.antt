-- The names of the crates below, and of the definitions of this one, that its proofs use.
pub use Rattle.contact_ledger.specs.declared.acts.Act.{Act}
pub use Rattle.dme_line.proofs.ReadWritable.{read_is_writable}
pub use Rattle.dme_line.specs.CommandText.{IsTagged, ReadsCommand}
pub use Rattle.dme_line.specs.Tags.{is_event_tag, IsNumbered, IsTag, written_tag}
pub use Rattle.dme_line.specs.declared.commands.Command.{Command}
pub use Rattle.dme_line.specs.declared.reading.LineFault.{LineFault}
pub use Rattle.dme_line.specs.declared.tags.Tag.{Tag}
pub use Rattle.dme_line.specs.declared.tags.Tag.TheVariants.{Event, Std}
pub use Rattle.fixed_um.specs.Points.{point_difference, point_sum}
pub use Rattle.fixed_um.specs.Shapes.{Direction}
pub use Rattle.fixed_um.specs.declared.lengths.Point.{Point}
pub use Rattle.line_framing.specs.Framing.{fed_behind, Framing, IsSound, no_bytes}
pub use Rattle.line_framing.specs.Next.{Front, next_of}
pub use Rattle.line_framing.specs.declared.faults.FramingFault.{FramingFault}
pub use Rattle.protocol_model.proofs.invariant.Moves.{machined_moves, Moves, read_moves, turned_moves}
pub use Rattle.protocol_model.specs.Claims.{contacts, MadeContact}
pub use Rattle.protocol_model.specs.Ends.{front_served, new_server_end, ServerEnd, serving_accepted, serving_fed, serving_left, serving_machined}
pub use Rattle.protocol_model.specs.Ends.{serving_read, serving_restarted, serving_taken, serving_turned, with_answer}
pub use Rattle.protocol_model.specs.Lines.{reading_of, reply_bytes}
pub use Rattle.protocol_model.specs.Readings.{command_of, reads_command}
pub use Rattle.protocol_model.specs.Replies.{Reading, Reply}
pub use Rattle.protocol_model.specs.Server.{all_fail, Answer, carried, carried_out, checks, fails, finished, first_failing, frame_of, fresh, is_abort}
pub use Rattle.protocol_model.specs.Server.{is_clear, kind_in, machined, may_end, offset, refusal, running_fails, runs_under, Server, server_machined}
pub use Rattle.protocol_model.specs.Server.{server_read, server_turned, stands, tagged, taken, touched, turned_to, waits_under}
pub use Rattle.protocol_model.specs.declared.lines.Line.{Line}
pub use Rattle.protocol_model.specs.declared.lines.Misread.{Misread}
pub use Rattle.protocol_model.specs.declared.lines.Waiting.{Waiting}
pub use Rattle.protocol_model.specs.declared.machine.Outcome.{Outcome}
pub use Rattle.server_core.specs.Acting.{IsCommanded, IsOneMore, with_act}
pub use Rattle.server_core.specs.Calls.{Accept, acts_at_once, behind_call, behind_calls, Call, completes_act, Deed, deed_at_once, deed_of, done_by}
pub use Rattle.server_core.specs.Calls.{done_deed, end_deed, Feed, gives_up, homed_behind, is_home, IsContactOf, IsDone, IsEndOfEarlier, IsFull}
pub use Rattle.server_core.specs.Calls.{Leave, Machine, possible, RanBefore, reached, ReadOne, Restart, runs_home, RunsInError, Sent, StaysInError}
pub use Rattle.server_core.specs.Calls.{touch_deed, Turn, turn_deed}
pub use Rattle.server_core.specs.Kept.{BeginsSo, BeginsWith, IsFit, IsLineFit}
pub use Rattle.server_core.specs.Serving.{command_in, ControllerValue, may_accept, may_feed, may_turn, ok_of, refusal_in, with_answered}
pub use Rattle.server_core.specs.Steady.{AreStandard, HasStandardTag, IsOff, IsOrderly, IsRunnable, IsServing, IsSteady}
pub use Rattle.std.proofs.Common.{[], ◌&&◌, ◌*◌, ◌++◌, ◌+◌, ◌<◌, ◌||◌, ◌∙◌, ◌∷◌, ◌≡◌, ◌≤◌, ◌⊎◌, ap, append-nil, append_assoc, arith, Bool, cond, drop}
pub use Rattle.std.proofs.Common.{Err, false, inl, inr, is_err, is_none, is_some, le-leb, leb-true, length, length-append, List, ltb-true, nat_le}
pub use Rattle.std.proofs.Common.{nat_lt, None, not, Ok, OnErr, OnOk, Option, refl, Result, Some, subst, suc, sym, take, true, vec_capacity, vec_len}
pub use Rattle.std.proofs.Common.{ℕ}
pub use Rattle.std.proofs.lemmas.Bool.{and_parts, false≢true}
pub use Rattle.std.specs.List.{AllByRecursion}
