-- The names of the crates below, and of the definitions of this one, that its proofs use.
pub use Rattle.client_core.specs.Calls.{Abort, behind_call, behind_calls, Call, Connected, done_by, Feed, Leave, possible, ReadOne, Restart, Resume}
pub use Rattle.client_core.specs.Calls.{Send, Sent}
pub use Rattle.contact_ledger.specs.declared.acts.Act.{Act}
pub use Rattle.effects.specs.Effects.{At, Bytes, Done, End, Failed, Found, Missing, Nothing, Reply, Short, the_reply, Took}
pub use Rattle.link_world.specs.Showing.{IsRunCall}
pub use Rattle.protocol_model.specs.Ends.{ClientEnd, end_connected, end_read, new_client_end}
pub use Rattle.record_text.specs.Recordings.{AreFit, AreNotes, AreWritten, behind_moments, Calls, calls_in, Fits, Moment, Pair, recorded_by, Tell}
pub use Rattle.record_text.specs.Recordings.{told_now, told_unless}
pub use Rattle.record_text.specs.Told.{numbered, told_behind, told_by}
pub use Rattle.record_text.specs.Entries.{entry_line, error_note, fitting, kept_error}
pub use Rattle.record_text.specs.Notes.{AreSaid, IsNoteText, is_error, Says}
pub use Rattle.record_text.specs.Growths.{AddsErrors, Growth, new_lines, note_lines, with_acts, with_notes}
pub use Rattle.record_text.specs.Heads.{AreAsked, is_printed, IsPartGiven}
pub use Rattle.run_session.specs.Records.{begins, Book, calls, confirms, filed, filed_by, GoesOn, HaveLines, held, IsFree, IsKept, IsSafe, Keeps}
pub use Rattle.run_session.specs.Records.{lacking, of_file, outcome, outcome_by, Outside, Ran, State, tells, writes}
pub use Rattle.run_session.specs.Records.{Apart, Filed, Follows, FollowsApart, FollowsGoing, FollowsTold, Going, HasAll, HasEnded, HasFiled, HasFollowed, HasLines, open_on, HasTold, IsAt, IsQuiet, IsTold, pace, Pace, StaysTold, Told}
pub use Rattle.run_session.specs.Records.{anything, HasReported, IsRun, IsRunOf, KeepsNoting, May, nothing, Reports}
pub use Rattle.run_session.specs.declared.stages.Stage.{Stage}
pub use Rattle.std.proofs.Common.{[], ◌%◌, ◌&&◌, ◌++◌, ◌+◌, ◌-◌, ◌/◌, ◌<◌, ◌==◌, ◌∙◌, ◌∷◌, ◌≡◌, ◌≤◌, ◌⊎◌, ap, append-nil, append_assoc, ap₂, arith, codes}
pub use Rattle.std.proofs.Common.{Bool, cond, drop, Err, false, get_or, Global, IfErr, inl, inr, is_some, le-leb, length, length-append, List, map}
pub use Rattle.std.proofs.Common.{nat_le, None, not, Ok, OnErr, OnOk, Option, refl, Result, Some, subst, suc, sym, take, take-append-drop, true, Vec}
pub use Rattle.std.proofs.Common.{w8, zero, ℕ}
pub use Rattle.std.proofs.Math.Seq.{drop-append_seam, drop-length, take-append_seam}
pub use Rattle.std.proofs.lemmas.Bool.{agree_below_at, false≢true}
pub use Rattle.std.specs.List.{AllByRecursion, list_all}
