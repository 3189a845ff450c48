-- The names of other files that contracts of this crate cite.
pub use Rattle.std.specs.Char.{is_ascii_alphabetic, is_ascii_digit}
pub use Rattle.std.specs.List.{AllByRecursion, list_all, list_any}
pub use Rattle.std.specs.Option.{option_map}
pub use Rattle.std.specs.Str.{bytes_eq}
pub use Rattle.std.specs.Str.Lines.{lines}
pub use Rattle.std.specs.Str.Parse.{digits_value}
pub use Rattle.dmis_text.specs.Reading.{IsDue, text_reading}
pub use Rattle.dmis_text.specs.declared.elements.Statement.{Statement}
pub use Rattle.dmis_text.specs.declared.reading.TextFault.{TextFault}
pub use Rattle.fixed_um.specs.Names.{folded, is_name_text}
pub use Rattle.fixed_um.specs.Points.{IsInVolume}
pub use Rattle.fixed_um.specs.declared.frames.Frame.TheVariants.{Machine, Part}
pub use Rattle.fixed_um.specs.declared.lengths.Point.{Point}
pub use Rattle.dmis_program.specs.Carrying.{GivesNext, changed, context_of, follows, next, no_statement, recalled_at, with_step}
unfoldable pub use Rattle.dmis_program.specs.Judging.{judged}
pub use Rattle.dmis_program.specs.Judging.{is_start, is_unsupported, misplaced, settled, word_refusal}
unfoldable pub use Rattle.dmis_program.specs.Keywords.{keyword_of}
pub use Rattle.dmis_program.specs.Keywords.{definitions, is_among, passed}
pub use Rattle.dmis_program.specs.LookBack.{context_at}
pub use Rattle.dmis_program.specs.Meaning.{Meaning, closes, ended, features_of, program_of, steps_from}
pub use Rattle.dmis_program.specs.Offsets.{AreInVolume, AreNamedOnce, offset_of}
pub use Rattle.dmis_program.specs.Order.{AreRead, above_behind, steps_along}
pub use Rattle.dmis_program.specs.Outcomes.{Gives, GivesProgram, text_refused}
unfoldable pub use Rattle.dmis_program.specs.Parameters.{count_of, name_within}
pub use Rattle.dmis_program.specs.Parameters.{before_close, begins, is_letters, is_other_coordinates, is_other_recall, name_of, without_cart}
pub use Rattle.dmis_program.specs.Programs.{AreBlocks, IsProgram, SelectNoFrame, SelectNoTool, StayInside, StepIsStored, touches_of}
unfoldable pub use Rattle.dmis_program.specs.Sayings.{said_by, said_of}
pub use Rattle.dmis_program.specs.Sayings.{begins_block, goes, is_badly_formed, mode, recalls, recalls_frame, selects, touches, touches_at, units, without_parameters}
pub use Rattle.dmis_program.specs.declared.faults.Refusal.{Refusal}
pub use Rattle.dmis_program.specs.declared.features.Touch.{Touch}
pub use Rattle.dmis_program.specs.declared.sayings.StatementMeaning.{StatementMeaning}
pub use Rattle.dmis_program.specs.declared.steps.Step.{Step}
