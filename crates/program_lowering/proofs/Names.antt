-- The names of the crates below, and of the definitions of this one, that its proofs use.
pub use Rattle.dmis_program.proofs.Sound.{SaidBy}
pub use Rattle.dmis_program.specs.Judging.{is_start, is_too_few, is_unsupported, judged, misplaced, refused_by, settled, word_refusal}
pub use Rattle.dmis_program.specs.Keywords.{keyword_of}
pub use Rattle.dmis_program.specs.LookBack.{bound_count, bound_said, Context, context_at, frame_said, nearest, or_else, saying, tool_said, touched}
pub use Rattle.dmis_program.specs.LookBack.{touched_with}
pub use Rattle.dmis_program.specs.Meaning.{closes, continued, Meaning, meaning_with, meant, program_of, steps_from, steps_of, with_front, without_end}
pub use Rattle.dmis_program.specs.Outcomes.{◌>>=◌, fault_at, refused_at, text_refused}
pub use Rattle.dmis_program.specs.Parameters.{begins, count_of, is_letters, name_within, within_count, without_cart}
pub use Rattle.dmis_program.specs.Positions.{direction_of, length_of, position_of}
pub use Rattle.dmis_program.specs.Sayings.{begins_block, begun, goes, is_badly_formed, mode, recalled, recalls, recalls_frame, selected, selects}
pub use Rattle.dmis_program.specs.Sayings.{touches, touches_at, units, without_parameters}
pub use Rattle.dmis_program.specs.declared.faults.Refusal.{Refusal}
pub use Rattle.dmis_program.specs.declared.faults.Refusal.TheVariants.{BadArguments, BadByte, LineTooLong, NotDmis, TooLarge, Unsupported}
pub use Rattle.dmis_program.specs.declared.keywords.Keyword.{Keyword}
pub use Rattle.dmis_program.specs.declared.sayings.StatementMeaning.{StatementMeaning}
pub use Rattle.dmis_program.specs.declared.sayings.StatementMeaning.TheVariants.{Begins, Closes, Ends, Goes, Passes, Recalls, Selects, Touches}
pub use Rattle.dmis_program.specs.declared.steps.Step.{Step}
pub use Rattle.dmis_text.specs.Contents.{is_line}
pub use Rattle.dmis_text.specs.Elements.{cut_at, element_of, pieces}
pub use Rattle.dmis_text.specs.Reading.{IsDue, line_role, reading_of, Role, text_reading, Unread, with_first}
pub use Rattle.dmis_text.specs.Reading.Role.{Dropped, Last}
pub use Rattle.dmis_text.specs.Statements.{has_open_text, statement_of}
pub use Rattle.dmis_text.specs.Texts.{all_blank, before_comment, begins_comment, inside_after, is_blank, is_clean, is_continued, may_stand, turned}
pub use Rattle.dmis_text.specs.Texts.{without_end_blanks, without_front_blanks}
pub use Rattle.dmis_text.specs.declared.elements.Statement.{Statement}
pub use Rattle.dmis_text.specs.declared.reading.TextFault.{TextFault}
pub use Rattle.fixed_um.specs.Limits.{component_limit, volume_limit}
pub use Rattle.fixed_um.specs.Names.{is_name_byte, is_name_text, IsName}
pub use Rattle.fixed_um.specs.Written.{last_digit, minus_sign, six_digits, three_digits, written, written_component}
pub use Rattle.fixed_um.specs.declared.lengths.Point.{Point}
pub use Rattle.hex.specs.Hex.{encode_lower, lower_digits}
pub use Rattle.program_lowering.specs.Acts.{Act, acts_from, acts_of, shown_by}
pub use Rattle.program_lowering.specs.Acts.Act.{Does, Shows}
pub use Rattle.program_lowering.specs.Carried.{after_said, AreLines, Carried, context_of, due, followed, GivesLines, GivesStep, none_above, noted}
pub use Rattle.program_lowering.specs.Carried.{nothing_carried, some_tool, step, stepped}
pub use Rattle.program_lowering.specs.Flats.{after_word, components, Flat, flat, flat_line, flat_passed, flat_said, flat_text, kind_of}
pub use Rattle.program_lowering.specs.Flats.{place, text_for, with_commas, within}
pub use Rattle.program_lowering.specs.Heads.{head_lines, IsComment, Names, names_of, options_text, setup_name, shown_byte, shown_name, whole_text}
pub use Rattle.program_lowering.specs.Lowering.{ended_lines, flat_lines, flat_program, is_closing, kept, kept_below, left_out_at, left_out_in, line_for}
pub use Rattle.program_lowering.specs.Lowering.{lowered_meaning, note_for, note_start, notes_from, passed_over, unless_left_out}
pub use Rattle.program_lowering.specs.Manual.{in_manual, is_skipped, manual_after, measures}
pub use Rattle.program_lowering.specs.OperatorTexts.{as_read, before_refused, fault_for, flat_meant, is_outer, is_plain}
pub use Rattle.program_lowering.specs.OperatorTexts.{line_refusal, marked, text_refusal, TextsFit, up_to_refused}
pub use Rattle.program_lowering.specs.Texts.{is_operator_text}
pub use Rattle.program_lowering.specs.Words.{is_unknown, left_out, reason_for, reason_of}
pub use Rattle.program_lowering.specs.declared.words.Choices.{Choices}
pub use Rattle.program_lowering.specs.declared.words.Reason.{Reason}
pub use Rattle.std.proofs.Common.{[], ◌%◌, ◌&&◌, ◌*◌, ◌++◌, ◌+◌, ◌/◌, ◌<◌, ◌==◌, ◌^◌, ◌||◌, ◌∙◌, ◌∷◌, ◌≡◌, ◌≤◌, add-zero, ap, append-nil}
pub use Rattle.std.proofs.Common.{append_assoc, arith, Bool, codes, cond, decimal, drop, eqb, eqb-true, Err, false, filter, IfOk, IfSome}
pub use Rattle.std.proofs.Common.{if◌then◌else◌, is_none, is_some, IsErrAnd, le-leb, leb-true, length, length-append, List, ltb-true, map, nat_le}
pub use Rattle.std.proofs.Common.{nat_lt, ne_eqb, negsuc, None, not, Ok, OnOk, Option, pos, refl, Result, rules, slice_index, Some, subst, suc, sym}
pub use Rattle.std.proofs.Common.{take, true, unsigned_abs, zero, ℕ, ℤ}
pub use Rattle.std.proofs.lemmas.Bool.{and_from, and_parts, not-true}
pub use Rattle.std.proofs.lemmas.Bool.Decides.{nat_tests}
pub use Rattle.std.proofs.lemmas.Fmt.{decimal_is_IsNumeral, length-decimal-le}
pub use Rattle.std.proofs.lemmas.List.Folds.{list_all-append, list_all_at}
pub use Rattle.std.specs.Char.{digit_value, is_ascii_alphabetic, is_ascii_digit, to_ascii_uppercase}
pub use Rattle.std.specs.List.{AllByRecursion, list_all, list_any, onto_first, slice_split}
pub use Rattle.std.specs.Str.{bytes_eq}
pub use Rattle.std.specs.Str.Lines.{lines, lines_of_parts}
pub use Rattle.std.specs.Str.Parse.{AllDigits, digits_value}
