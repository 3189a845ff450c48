-- The names of the crates below, and of the definitions of this one, that its proofs use.
pub use Rattle.dmis_program.specs.Carrying.{changed, closed_block, context_of, count_wanted, counted, next, no_statement, ReaderState, recalled_at}
pub use Rattle.dmis_program.specs.Carrying.{touches_left, with_step}
pub use Rattle.dmis_program.specs.Judging.{is_start, is_too_few, is_unsupported, judged, misplaced, refused_by, settled, word_refusal}
pub use Rattle.dmis_program.specs.Keywords.{keyword_of}
pub use Rattle.dmis_program.specs.LookBack.{bound_count, bound_said, Context, context_at, frame_at, frame_said, nearest, or_else, part_at, saying}
pub use Rattle.dmis_program.specs.LookBack.{tool_said, touched}
pub use Rattle.dmis_program.specs.Meaning.{block_touches, closes, continued, ended, features_of, Meaning, meaning_with, meant, program_of}
pub use Rattle.dmis_program.specs.Meaning.{recall_steps, steps_from, steps_of, touch_steps, touch_with, with_front}
pub use Rattle.dmis_program.specs.Offsets.{AreFrames, AreInVolume, AreNamedOnce, names_of, offset_of}
pub use Rattle.dmis_program.specs.Outcomes.{◌>>=◌, numeral_refused}
pub use Rattle.dmis_program.specs.Parameters.{before_close, begins, is_letters, name_of, within_count, without_cart}
pub use Rattle.dmis_program.specs.Positions.{is_zero_direction}
pub use Rattle.dmis_program.specs.Programs.{AreBlocks, feature_touches, FollowSelections, FrameIsStored, IsFeature, IsFrame, IsProgram, IsStep}
pub use Rattle.dmis_program.specs.Programs.{IsTouch, SelectNoFrame, SelectNoTool, StayInside, StepIsStored, touches_of}
pub use Rattle.dmis_program.specs.declared.faults.Refusal.{Refusal}
pub use Rattle.dmis_program.specs.declared.faults.Refusal.TheVariants.{BadArguments, BadNumeral, NotDmis, TooLarge, Unsupported, ZeroVector}
pub use Rattle.dmis_program.specs.declared.features.Wanted.{Wanted}
pub use Rattle.dmis_program.specs.declared.keywords.Keyword.{Keyword}
pub use Rattle.dmis_program.specs.declared.reading.Block.{Block}
pub use Rattle.dmis_program.specs.declared.sayings.StatementMeaning.{StatementMeaning}
pub use Rattle.dmis_program.specs.declared.sayings.StatementMeaning.TheVariants.{Begins, Closes, Ends, Goes, Passes, Recalls, Selects, Touches}
pub use Rattle.dmis_program.specs.declared.steps.Step.{Step}
pub use Rattle.dmis_program.specs.declared.steps.Step.TheVariants.{Begin, End, Goto, Recall, Tool, Touch}
pub use Rattle.dmis_text.specs.Reading.{text_reading}
pub use Rattle.dmis_text.specs.declared.elements.Statement.{Statement}
pub use Rattle.dmis_text.specs.declared.reading.TextFault.{TextFault}
pub use Rattle.fixed_um.proofs.ComputedLemmas.{value_of-is, value_of-reads}
pub use Rattle.fixed_um.specs.Computed.{value_of}
pub use Rattle.fixed_um.specs.Limits.{component_limit, volume_limit}
pub use Rattle.fixed_um.specs.Names.{folded, is_name_text, IsName}
pub use Rattle.fixed_um.specs.Numerals.{Reads, ReadsDirection}
pub use Rattle.fixed_um.specs.Points.{IsInVolume}
pub use Rattle.fixed_um.specs.Shapes.{Direction, IsDirection}
pub use Rattle.fixed_um.specs.declared.frames.Frame.{Frame}
pub use Rattle.fixed_um.specs.declared.frames.Frame.TheVariants.{Machine, Part}
pub use Rattle.fixed_um.specs.declared.lengths.Point.{Point}
pub use Rattle.fixed_um.specs.declared.numerals.NumeralFault.{NumeralFault}
pub use Rattle.std.proofs.Common.{[], ◌&&◌, ◌*◌, ◌++◌, ◌+◌, ◌-◌, ◌<◌, ◌==◌, ◌∙◌, ◌∷◌, ◌≡◌, ◌≢◌, ◌≤◌, add-one, ap, append-nil, append_assoc, arith}
pub use Rattle.std.proofs.Common.{Bool, codes, cond, drop, eqb-true, Err, false, find, get_or, IfOk, IfSome, inl, inr, is_none, leb-true, length}
pub use Rattle.std.proofs.Common.{length-append, List, ltb-false, nat_le, None, not, Ok, Option, option_and_then, pos, refl, Result, rules, Some}
pub use Rattle.std.proofs.Common.{subst, suc, sym, take, true, unsigned_abs, ℕ, ℤ}
pub use Rattle.std.proofs.Math.Seq.{drop-append_seam, drop-cons, take-append_seam, take-length}
pub use Rattle.std.proofs.lemmas.Bool.{and_from, and_parts}
pub use Rattle.std.proofs.lemmas.Bool.Decides.{Decides-eqb, Decides-int_eq, nat_tests}
pub use Rattle.std.proofs.lemmas.List.{drop_all, get_or_push, take_more}
pub use Rattle.std.proofs.lemmas.Slice.Eq.{bytes_eq-Decides, starts_is}
pub use Rattle.std.specs.Char.{digit_value, is_ascii_digit}
pub use Rattle.std.specs.List.{AllByRecursion, list_all, list_any}
pub use Rattle.std.specs.Str.{bytes_eq}
pub use Rattle.std.specs.Str.Lines.{lines}
pub use Rattle.std.specs.Str.Parse.{digits_value, digits_value_after}
