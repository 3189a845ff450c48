-- The names of the crates below, and of the definitions of this one, that its proofs use.
pub use Rattle.dme_line.specs.declared.commands.Command.{Command}
pub use Rattle.dmis_program.specs.Judging.{is_too_few, judged, misplaced, refused_by, settled, word_refusal}
pub use Rattle.dmis_program.specs.Keywords.{keyword_of}
pub use Rattle.dmis_program.specs.LookBack.{bound_count, bound_said, Context, context_at, nearest, or_else, saying, tool_said, touched, touched_with}
pub use Rattle.dmis_program.specs.Meaning.{block_touches, closes, continued, features_of, Meaning, meant, program_of, recall_steps, steps_from}
pub use Rattle.dmis_program.specs.Meaning.{steps_of, touch_steps, with_front}
pub use Rattle.dmis_program.specs.Offsets.{AreInVolume, offset_of}
pub use Rattle.dmis_program.specs.Outcomes.{◌>>=◌}
pub use Rattle.dmis_program.specs.Programs.{AreBlocks, feature_touches, touches_of}
pub use Rattle.dmis_program.specs.Sayings.{is_badly_formed, said_of, without_parameters}
pub use Rattle.dmis_program.specs.declared.faults.Refusal.{Refusal}
pub use Rattle.dmis_program.specs.declared.faults.Refusal.TheVariants.{NotDmis, TooLarge, Unsupported}
pub use Rattle.dmis_program.specs.declared.features.Wanted.{Wanted}
pub use Rattle.dmis_program.specs.declared.keywords.Keyword.{Keyword}
pub use Rattle.dmis_program.specs.declared.sayings.StatementMeaning.{StatementMeaning}
pub use Rattle.dmis_program.specs.declared.steps.Step.{Step}
pub use Rattle.dmis_text.specs.Reading.{text_reading}
pub use Rattle.dmis_text.specs.declared.elements.Statement.{Statement}
pub use Rattle.dmis_text.specs.declared.reading.TextFault.{TextFault}
pub use Rattle.fixed_um.specs.declared.lengths.Point.{Point}
pub use Rattle.program_review.specs.Findings.{remarks_in}
pub use Rattle.program_review.specs.PlanLines.{HaveLines, IsCarriedBy, IsOn, statement_commands}
pub use Rattle.program_review.specs.Printed.{array_tokens, finding_lines, findings_tokens, names_of}
pub use Rattle.program_review.specs.Refusals.{after, after_said, at_start, context_of, due, fault_of, first_of, is_selection, lacking_said, listed}
pub use Rattle.program_review.specs.Refusals.{number_at, one_less, one_more, refusals_from, refusals_of, some_tool}
pub use Rattle.program_review.specs.TaskLines.{after_touch, command_lines_of, frame_again, frame_line, last_line, lines_of, task_lines_of, task_on}
pub use Rattle.program_review.specs.TaskLines.{task_said, tool_again, tool_line, touches_left, up_to_touch}
pub use Rattle.order_parts.specs.Pauses.{Held, place_seen}
pub use Rattle.program_review.specs.Texts.{place_on, places_below, places_of, text_seen, texts_from, texts_of}
pub use Rattle.program_review.specs.UnderSetup.{is_end, lacks_from, recalls_other}
pub use Rattle.program_review.specs.UnusedFrames.{names_recalled, unused_from}
pub use Rattle.program_review.specs.Variables.{is_named, names_by, names_in}
pub use Rattle.program_review.specs.declared.remarks.Remark.{Remark}
pub use Rattle.program_review.specs.declared.tasks.Task.{Task}
pub use Rattle.program_review.specs.declared.tasks.TaskLine.{TaskLine}
pub use Rattle.program_review.specs.declared.under_setup.Selected.{Selected}
pub use Rattle.protocol_model.specs.Plan.{behind, frame_behind, framing, is_empty, measuring, plan, planned, stepping, tool_behind, tooling, up_to}
pub use Rattle.std.proofs.Common.{[], ◌&&◌, ◌++◌, ◌+◌, ◌-◌, ◌<◌, ◌==◌, ◌||◌, ◌∙◌, ◌∷◌, ◌≡◌, ◌≤◌, add-one, ap, append_assoc, arith, Bool, cond, drop}
pub use Rattle.std.proofs.Common.{Err, false, find, get_or, inl, inr, is_err, is_none, is_some, length, List, map, nat_le, nat_lt, None, Ok, Option}
pub use Rattle.std.proofs.Common.{pos, refl, Result, Some, subst, suc, sym, take, true, unsigned_abs, zero, ℕ, ℤ}
pub use Rattle.std.specs.List.{flat_map}
pub use Rattle.std.specs.Str.Lines.{lines}
