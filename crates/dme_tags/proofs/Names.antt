-- The names of the crates below, and of the definitions of this one, that its proofs use.
pub use Rattle.dme_line.specs.Kinds.{is_event_kind}
pub use Rattle.dme_line.specs.declared.commands.Kind.{Kind}
pub use Rattle.dme_line.specs.declared.tags.Tag.{Tag}
pub use Rattle.dme_line.specs.declared.tags.Tag.TheVariants.{Event, Std}
pub use Rattle.dme_tags.specs.Answers.{cause_of, effect_heard, effect_of, failure_of, IsRefused}
pub use Rattle.dme_tags.specs.Calls.{answered, BeginPlan, behind_answer, behind_call, behind_draw, Call, Complete, Data, Draw, Failed, placed}
pub use Rattle.dme_tags.specs.Calls.{Received, taken_under, until_end}
pub use Rattle.dme_tags.specs.Data.{AreFit, has_its_data, is_fit, may_be_given}
pub use Rattle.dme_tags.specs.Kept.{AreKeys, command_at, is_open, is_open_question, IsApart, listed, slot, Slots}
pub use Rattle.dme_tags.specs.Opened.{Answer, ArePassedOver, failed_behind, heard, heard_event, heard_standard, is_next, IsBetween, IsNext}
pub use Rattle.dme_tags.specs.Opened.{IsSpentFor, kind_under, next_tag, number_of, OpenValue, tagged, with_drawn}
pub use Rattle.dme_tags.specs.Places.{ahead_of, all_failed, IsAt}
pub use Rattle.dme_tags.specs.Sorts.{AreSpent, is_event_sort, numbered}
pub use Rattle.dme_tags.specs.Standing.{AwaitsData, CountsAs, HasData, HasFailed, IsUnread, standing, standing_in}
pub use Rattle.dme_tags.specs.declared.endings.Ended.{Ended}
pub use Rattle.dme_tags.specs.declared.faults.TagFault.{TagFault}
pub use Rattle.protocol_model.proofs.table.Drawing.{drawn, found, none_free}
pub use Rattle.protocol_model.proofs.table.Speaking.{accepts_only, fits_asks}
pub use Rattle.protocol_model.proofs.table.Walks.{heard_cases, staged, two}
pub use Rattle.protocol_model.specs.Client.{Client, counted_next, first_free, heard_on, held_now, measured, next_number, or_else, Table, tallied}
pub use Rattle.protocol_model.specs.Client.{Tally}
pub use Rattle.protocol_model.specs.Ends.{held_kind}
pub use Rattle.protocol_model.specs.Open.{asks_data, asks_homed, Becomes, Breaks, Closes, count_open, Counts, Effect, fits, Heard, heard_in}
pub use Rattle.protocol_model.specs.Open.{is_asking, is_failed, is_held, judged, judged_ack, judged_done, judged_error, judged_given, put_before}
pub use Rattle.protocol_model.specs.Open.{Refused, settled, Verdict}
pub use Rattle.protocol_model.specs.Replies.{Mark, tag_is}
pub use Rattle.protocol_model.specs.declared.held.Datum.{Datum}
pub use Rattle.protocol_model.specs.declared.held.OpenCommand.{OpenCommand}
pub use Rattle.protocol_model.specs.declared.held.Stage.{Stage}
pub use Rattle.protocol_model.specs.declared.states.Cause.{Cause}
pub use Rattle.slab.specs.Slab.{Slab, slab_len, Updates, with_value}
pub use Rattle.std.proofs.Common.{[], ◌&&◌, ◌++◌, ◌+◌, ◌-◌, ◌<◌, ◌==◌, ◌||◌, ◌↔◌, ◌∙◌, ◌∷◌, ◌≡◌, ◌≢◌, ◌≤◌, ◌⊎◌, add-one, ap, arith, Bool, cond, drop}
pub use Rattle.std.proofs.Common.{eqb, eqb-true, Err, false, get_or, get_or-set_other, get_or-set_same, IfErr, IfOk, inl, inr, is_some, IsErrOf, IsOk}
pub use Rattle.std.proofs.Common.{IsSome, length, length-append, List, map, None, not, Ok, OnErr, Option, refl, Result, rules, set, Some, subst, suc}
pub use Rattle.std.proofs.Common.{sym, take, take-append-drop, take_all, true, true≢false, zero, ℕ}
pub use Rattle.std.proofs.lemmas.Bool.{and_parts, eqb-false, false≢true}
pub use Rattle.std.proofs.lemmas.List.{drop_more, get_or_default, length-map, set_split, take_more}
pub use Rattle.std.proofs.lemmas.Result.{err_from_is_err_and, IfErr-weaker, IfOk-weaker, on_err_weaker}
pub use Rattle.std.specs.List.{count_by, list_any, remove}
