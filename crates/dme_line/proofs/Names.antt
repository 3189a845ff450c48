-- The names of the crates below, and of the definitions of this one, that its proofs use.
pub use Rattle.dme_line.specs.Arguments.{Argument, argument_tokens, enclosed, EndsWithAlong, HasIjk, HasLengths, HasNoAngles, IsAlong, IsAxis}
pub use Rattle.dme_line.specs.Arguments.{IsOneWord, IsPlace, IsReport, IsSystem, IsTarget, IsTool, IsToolWord, IsTransformation, list_tokens, Says}
pub use Rattle.dme_line.specs.Arguments.{Seven, seven_tokens, Single, single_named, Triple, triple_named, triple_of}
pub use Rattle.dme_line.specs.CommandText.{Begins, is_name_part, IsCommandOf, IsCommandText, IsNamed, IsTagged, ReadsCommand}
pub use Rattle.dme_line.specs.Errors.{error_name, error_report, error_response, error_text, number_of, numbered, said_of, text_of}
pub use Rattle.dme_line.specs.Homed.{homed_digit, IsHomedCall, IsHomedText, ReadsHomed, written_homed}
pub use Rattle.dme_line.specs.Kinds.{csy_name, is_event_kind, IsTagOf, kind_name, kind_of}
pub use Rattle.dme_line.specs.Points.{BeginsWithPoint, HasCoordinates, IsOnWire, IsPointText, point_tokens, ReadsPoint, written_point}
pub use Rattle.dme_line.specs.Responses.{are_spaces, data_response, HasText, HoldsResponseText, homed_response, IsMarkText, IsResponseLine}
pub use Rattle.dme_line.specs.Responses.{IsWritableResponse, ReadsResponse, the_response, written_mark, written_response}
pub use Rattle.dme_line.specs.Tags.{four_digits, is_event_tag, IsNumbered, IsTag, written_tag}
pub use Rattle.dme_line.specs.Taken.{bare_word, IsPlaceLong, the_argument, the_list}
pub use Rattle.dme_line.specs.Tokens.{begins_word, Close, Comma, is_mark, is_word_byte, longer_word, mark_token, Open, Token, tokens, tokens_behind}
pub use Rattle.dme_line.specs.Tokens.{Word}
pub use Rattle.dme_line.specs.Words.{is_content, is_word, IsWireText, quoted}
pub use Rattle.dme_line.specs.Written.{HasArguments, IsIjk, IsWritable, written_arguments, written_ijk, written_transformation}
pub use Rattle.dme_line.specs.declared.commands.Command.{Command}
pub use Rattle.dme_line.specs.declared.commands.Csy.{Csy}
pub use Rattle.dme_line.specs.declared.commands.Csy.TheVariants.{MachineCsy, PartCsy}
pub use Rattle.dme_line.specs.declared.commands.Kind.{Kind}
pub use Rattle.dme_line.specs.declared.errors.ErrorNumber.{ErrorNumber}
pub use Rattle.dme_line.specs.declared.errors.ErrorNumber.TheVariants.{Aborted, ErrorState, MachineFault, NoSession, NoSurface, NotHomed, NoTool}
pub use Rattle.dme_line.specs.declared.errors.ErrorNumber.TheVariants.{OutOfVolume, QueueFull, SessionOpen, TagInUse, UnknownTool}
pub use Rattle.dme_line.specs.declared.homed.NotHomedText.{NotHomedText}
pub use Rattle.dme_line.specs.declared.points.NotPoint.{NotPoint}
pub use Rattle.dme_line.specs.declared.reading.LineFault.{LineFault}
pub use Rattle.dme_line.specs.declared.responses.Mark.{Mark}
pub use Rattle.dme_line.specs.declared.responses.Mark.TheVariants.{Ack, Done, Error, Given}
pub use Rattle.dme_line.specs.declared.responses.NotResponse.{NotResponse}
pub use Rattle.dme_line.specs.declared.responses.Response.{Response}
pub use Rattle.dme_line.specs.declared.tags.Tag.{Tag}
pub use Rattle.dme_line.specs.declared.tags.Tag.TheVariants.{Event, Std}
pub use Rattle.fixed_um.proofs.PlainLemmas.{rest_of}
pub use Rattle.fixed_um.proofs.WrittenLemmas.{direction_reads_back, whole-short, written_reads_back}
pub use Rattle.fixed_um.specs.Limits.{component_limit, volume_limit, wire_limit}
pub use Rattle.fixed_um.specs.Names.{folded, is_name_byte, is_name_text, IsName}
pub use Rattle.fixed_um.specs.Numerals.{absent, IsZero, none, nothing, Numeral, Reads, ReadsDirection}
pub use Rattle.fixed_um.specs.Points.{IsInVolume}
pub use Rattle.fixed_um.specs.Shapes.{Direction, IsDirection}
pub use Rattle.fixed_um.specs.Written.{last_digit, minus_sign, six_digits, three_digits, written, written_component, written_direction}
pub use Rattle.fixed_um.specs.declared.lengths.Point.{Point}
pub use Rattle.fixed_um.specs.declared.numerals.NumeralFault.{NumeralFault}
pub use Rattle.std.proofs.Common.{[], ◌&&◌, ◌*◌, ◌++◌, ◌+◌, ◌-◌, ◌/◌, ◌<◌, ◌==◌, ◌^◌, ◌||◌, ◌↔◌, ◌∙◌, ◌∷◌, ◌≡◌, ◌≢◌, ◌≤◌, ◌⊎◌, ap, append-nil}
pub use Rattle.std.proofs.Common.{append_assoc, arith, Bool, bytes_eq, codes, cond, decimal, drop, eq-eqb, eqb-true, Err, false, find, FitsSigned}
pub use Rattle.std.proofs.Common.{get_or, IfOk, IfSome, if◌then◌else◌, inl, inr, IsTrue, le-leb, leb-true, length, length-append, List, map}
pub use Rattle.std.proofs.Common.{MatchOption, nat_le, ne_eqb, negsuc, None, not, Ok, OnErr, Option, pos, refl, Result, rules, slice_index, Some}
pub use Rattle.std.proofs.Common.{subst, suc, sym, take, take-append-drop, true, true≢false, unsigned_abs, zero, ℕ, ℤ}
pub use Rattle.std.proofs.lemmas.Bool.{and_from, and_parts, false≢true, not-true, or_cases}
pub use Rattle.std.proofs.lemmas.Bool.Decides.{nat_tests}
pub use Rattle.std.proofs.lemmas.List.Folds.{length-prefix_len, list_all-append}
pub use Rattle.std.proofs.lemmas.Slice.Eq.{bytes_eq-Decides}
pub use Rattle.std.specs.Char.{digit_value, is_ascii_digit, to_ascii_lowercase}
pub use Rattle.std.specs.List.{list_all, prefix_len}
