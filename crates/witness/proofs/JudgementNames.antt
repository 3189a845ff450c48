-- The names of the crates below, and of the definitions of this one, that its proofs use.
pub use Rattle.dme_line.specs.declared.tags.Tag.{Tag}
pub use Rattle.dme_line.specs.declared.tags.Tag.TheVariants.{Event, Std}
pub use Rattle.protocol_model.specs.Replies.{tag_is}
pub use Rattle.std.proofs.Common.{[], ◌&&◌, ◌++◌, ◌+◌, ◌-◌, ◌<◌, ◌==◌, ◌||◌, ◌∙◌, ◌∷◌, ◌≡◌, ◌≤◌, ap, append-nil, append_assoc, arith, Bool, cond}
pub use Rattle.std.proofs.Common.{drop, eq-eqb, eqb-true, false, get_or, IfSome, if◌then◌else◌, is_some, le-leb, leb-false, leb-true, length}
pub use Rattle.std.proofs.Common.{length-take-le, List, lt-ltb, ltb-false, ltb-true, nat_le, nat_lt, None, not, Option, refl, replicate, Result}
pub use Rattle.std.proofs.Common.{reverse, slice_get, Some, string_bytes, subst, suc, sym, take, true, zero, ℕ}
pub use Rattle.std.proofs.lemmas.Bool.{false≢true}
pub use Rattle.std.proofs.lemmas.List.{drop_all, drop_more, length-replicate, length-reverse, reverse-append, take_more}
pub use Rattle.std.proofs.lemmas.Option.{get_or_from_slice_get, none-some}
pub use Rattle.std.specs.Option.{option_or}
pub use Rattle.witness.specs.Judging.{BreaksAt, first_break, found_at, IsFirst}
pub use Rattle.witness.specs.Orders.{bytes_of, IsAt, IsOn, seen_from, seen_lines, whole_in}
pub use Rattle.witness.specs.ServerRules.{asks_data, asks_under, bars, command_rule, complete_rule, end_rule, first_barred, first_from, front}
pub use Rattle.witness.specs.ServerRules.{halts, is_abort, is_barred, is_clear, is_doubtful, is_ended, is_halted, is_in_turn, is_open}
pub use Rattle.witness.specs.ServerRules.{is_queued, is_sought, is_sought_after, IsStanding, leaves_some, mark_rule, reach_after, server_rule}
pub use Rattle.witness.specs.JudgementTexts.{commands_text, ends_text, judgement_text}
pub use Rattle.witness.specs.JudgedUses.{answers, AreFirst, AreLinked, AreNext, AreNoted, before_previous, busy, busy_after, code_of, found, has_come}
pub use Rattle.witness.specs.JudgedUses.{has_mark, has_refused, is_at, is_under, is_use, IsCourse, last_end, latest, marks_of, moment, next_of, noted}
pub use Rattle.witness.specs.JudgedUses.{place_from, place_of, previous, refusals, refuses, stage_by, stage_of, tag_of, use_after}
pub use Rattle.witness.specs.declared.judged_lines.Heard.{Heard}
pub use Rattle.witness.specs.declared.judged_lines.Mark.{Mark}
pub use Rattle.witness.specs.declared.judged_lines.Reply.{Reply}
pub use Rattle.witness.specs.declared.judged_lines.Sent.{Sent}
pub use Rattle.witness.specs.declared.rules.Found.{Found}
pub use Rattle.witness.specs.declared.rules.Moment.{Moment}
pub use Rattle.witness.specs.declared.rules.Rule.{Rule}
pub use Rattle.witness.specs.declared.rules.Sought.{Sought}
pub use Rattle.witness.specs.declared.rules.Stage.{Stage}
