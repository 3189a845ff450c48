-- What `clap` is given of the rows of the program's table.
use Rattle.std.specs.Prelude.{◌∷◌, [], fold, Some}
use Rattle.clap.specs.declared.builder.action.ArgAction.TheVariants.{Append}
use Rattle.clap.specs.Words.{App, Rule, new_app, new_rule, with_rule, with_subcommand}
use Rattle.dme_words.specs.CommandLine.{text_rule, texts_rule, needed_rule, needed_number_rule, usual_number_rule, flag_rule, word_rule}
use Rattle.dme_words.specs.declared.line.Argument.{Argument}
use Rattle.dme_words.specs.declared.line.Argument.TheVariants.{Flag, Needed, Number, NumberOr, Text, Texts, Word, WordOr, Words}
use Rattle.dme_words.specs.declared.line.Line.{Line}

-- what `clap` is given of an argument
abbrev pub argument_rule : Argument → Rule
argument_rule (Text name value help) = text_rule name.now
argument_rule (Texts name value help) = texts_rule name.now
argument_rule (Needed name value help) = needed_rule name.now
argument_rule (Number name value most help) = needed_number_rule name.now most
argument_rule (NumberOr name value most usual help) = usual_number_rule name.now most usual.now
argument_rule (Flag name help) = flag_rule name.now
argument_rule (Word name help) = word_rule name.now
argument_rule (WordOr name usual help) = record (new_rule name.now) { defaults = usual.now ∷ [] }
argument_rule (Words name help) = record (word_rule name.now) { action = Some Append }

-- a command that takes this argument more
abbrev pub with_argument : App → Argument → App
with_argument line argument = with_rule line (argument_rule argument)

-- the command of a line
abbrev pub line_for : Line → App
line_for line = fold with_argument (new_app line.0.now) line.2.now

-- a command that has the subcommand of a line more
abbrev pub with_line : App → Line → App
with_line command line = with_subcommand command (line_for line).top
