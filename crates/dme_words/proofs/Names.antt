-- The names of the crates below, and of the definitions of this one, that its proofs use.
pub use Rattle.clap.proofs.WalkLemmas.{first_value-rows, one_text-rows, raw_values-rows}
pub use Rattle.clap.specs.Facts.{explicit_source, parser_of_value, unwrap_or_range}
pub use Rattle.clap.specs.Faults.{action_fault, bundle_fault, bundle_step_fault, check_fault, default_fault, defaults_fault, entered_fault, fault_of}
pub use Rattle.clap.specs.Faults.{flag_word_fault, given_default_fault, level_fault, long_fault, option_fault, other_fault, positional_fault}
pub use Rattle.clap.specs.Faults.{react_fault, repeat_fault, set_fault, settle_fault, short_fault, step_fault, turn_fault, use_fault, values_fault}
pub use Rattle.clap.specs.Faults.{walk_fault, word_fault}
pub use Rattle.clap.specs.Kinds.{check_kinds, Kinds, or_else, range_kinds, request_kinds, value_kinds, values_kinds}
pub use Rattle.clap.specs.Lexer.{long_of, short_of, without_minus}
pub use Rattle.clap.specs.Simple.{App, argument_words, built, entered, label_of, names_of, rows_at, Shape, subcommand_of}
pub use Rattle.clap.specs.Values.{bool_text, IsSignedIn, read_as, reading_of}
pub use Rattle.clap.specs.Walk.{action_of, after_flag, after_step, answers_to, arg_by_id, arg_by_index, arg_by_long, arg_by_short, at_row}
pub use Rattle.clap.specs.Walk.{attached_value, bundle, bundle_step, default_rows, done, finished, first_of, flag_met, has_row, Held, idle, is_empty}
pub use Rattle.clap.specs.Walk.{is_pending, long_met, long_or_other, more_values, most_values, next, nothing_held, one_of, option, option_met}
pub use Rattle.clap.specs.Walk.{option_word, Outcome, plain, plain_word, positional, positional_held, reacted, reading_by, refused, Row, rows_after}
pub use Rattle.clap.specs.Walk.{Rule, settled, settled_rows, short_met, short_or_plain, Step, subcommand, subcommand_met, subcommand_or_other}
pub use Rattle.clap.specs.Walk.{takes_several, takes_values, Text, to_positional, trailing, used, used_as, value, values_or_missing, Waiting, waits}
pub use Rattle.clap.specs.Walk.{Walk, walk, walk_from, walked_from, with_default, with_values, without, word_met}
pub use Rattle.clap.specs.Words.{AddsArg, AddsSubcommand, app_of, FailsBy, found_of, HasKind, HasMatchesOf, is_simple, is_simple_and_free, IsAmong}
pub use Rattle.clap.specs.Words.{kind_of, rows_of, rule_of, shape_of, subcommand_rows_of, with_rule, with_subcommand}
pub use Rattle.clap.specs.declared.builder.command.Command.TheViews.{out-Command}
pub use Rattle.clap.specs.declared.builder.value_parser.ValueParser.{ValueParser}
pub use Rattle.clap.specs.declared.error.kind.ErrorKind.{ErrorKind}
pub use Rattle.clap.specs.declared.parser.matches.ValueSource.TheVariants.{CommandLine, DefaultValue}
pub use Rattle.dme_words.specs.Arguments.{with_argument, with_line}
pub use Rattle.dme_words.specs.CommandLine.{audit_line, check_line, explain_line, export_line, judge_line, ledger_line, loop_line, lower_line, run_line}
pub use Rattle.dme_words.specs.CommandLine.{report_line, serve_line, simulate_line, watch_line, whole_line}
pub use Rattle.dme_words.specs.Ordered.{Asks, AsksForNothing, Has, has_default, HasAll, HasFault, HasFlag, HasIf, HasNoValue, HasRead, HasSigned}
pub use Rattle.dme_words.specs.Ordered.{HasValue, IsAskable, IsCalled, IsFlagOf, IsLaterAskable, IsNumber, IsOrderOf, IsRefusal, IsRefusedOf, leaf}
pub use Rattle.std.proofs.Common.{[], ◌&&◌, ◌++◌, ◌<◌, ◌==◌, ◌^◌, ◌||◌, ◌∙◌, ◌∷◌, ◌≡◌, ◌≢◌, ◌⊎◌, ap, ap₂, arith, Bool, codes, cond, drop, encode_utf8}
pub use Rattle.std.proofs.Common.{Err, false, find, fold, IfErr, IfOk, inl, inr, is_some, IsErrAnd, IsSomeAnd, le-leb, length, List, map, ne_eqb}
pub use Rattle.std.proofs.Common.{negsuc, None, not, Ok, Option, option_map, pos, refl, Result, slice_get, Some, subst, suc, sym, true, true≢false}
pub use Rattle.std.proofs.Common.{unwrap_or, zero, ℕ, ℤ}
pub use Rattle.std.proofs.lemmas.Option.{none-some, same_Some}
pub use Rattle.std.proofs.lemmas.Slice.Eq.{bytes_eq-Decides}
pub use Rattle.std.specs.Option.{option_map_or}
pub use Rattle.std.specs.Str.{bytes_eq, chars}
pub use Rattle.std.specs.Str.Parse.{ExplainsUnsignedError, HasUnsignedDigitsIfOk, ParsesUnsigned, starts_with_minus}
