-- The command line of `dme`, as the crate `clap` reads it: a simple command of its words, with one level of subcommands.
use Rattle.std.specs.Prelude.{ℕ, List, [], ◌∷◌, Some, codes, fold, pos, true}
use Rattle.clap.specs.Words.{App, Rule, Text, new_app, new_rule, with_rule, with_subcommand}
use Rattle.clap.specs.declared.builder.action.ArgAction.TheVariants.{Append, SetTrue}
use Rattle.clap.specs.declared.builder.value_parser.ValueParser.TheVariants.{Signed}

-- the option `--NAME TEXT`, whose text is taken unchanged, as a file's name is
abbrev pub text_rule : Text → Rule
text_rule name = record (new_rule name) { long = Some name; value_names = 1 }

-- likewise, which may be there several times
abbrev pub texts_rule : Text → Rule
texts_rule name = record (text_rule name) { action = Some Append }

-- the option `--NAME TEXT`, which must be named
abbrev pub needed_rule : Text → Rule
needed_rule name = record (text_rule name) { required = true }

-- the option `--NAME N`: a number from 1 to `most`
abbrev pub number_rule : Text → ℕ → Rule
number_rule name most = record (text_rule name) { parser = Some (Signed (pos 1) (pos most)) }

-- likewise, which must be named, or is this one if none is named
abbrev pub needed_number_rule : Text → ℕ → Rule
needed_number_rule name most = record (number_rule name most) { required = true }

abbrev pub usual_number_rule : Text → ℕ → Text → Rule
usual_number_rule name most usual = record (number_rule name most) { defaults = usual ∷ [] }

-- the window, the port, and the count of connections
abbrev pub window_rule : Rule
window_rule = usual_number_rule (codes "window") 16 (codes "1")

abbrev pub port_rule : Rule
port_rule = needed_number_rule (codes "port") 65535

abbrev pub connections_rule : Text → Rule
connections_rule = usual_number_rule (codes "connections") 4000000000

-- the flag `--NAME`, which is set or not
abbrev pub flag_rule : Text → Rule
flag_rule name = record (new_rule name) { long = Some name; action = Some SetTrue }

-- the positional `NAME`, which must be named; and `PROGRAM`, `-` if none is named
abbrev pub word_rule : Text → Rule
word_rule name = record (new_rule name) { required = true }

abbrev pub program_rule : Rule
program_rule = record (new_rule (codes "PROGRAM")) { defaults = codes "-" ∷ [] }

-- a command of this name with these arguments, in their order
abbrev pub line_of : Text → List Rule → App
line_of name rules = fold with_rule (new_app name) rules

-- `check [--setup FILE] [--explain] [PROGRAM]`
abbrev pub check_line : App
check_line = line_of (codes "check") (text_rule (codes "setup") ∷ flag_rule (codes "explain") ∷ program_rule ∷ [])

-- `simulate --setup FILE --schedule FILE [--window W] [--trace] [--explain] [PROGRAM]`
abbrev pub simulate_line : App
simulate_line = line_of (codes "simulate") (needed_rule (codes "setup") ∷ needed_rule (codes "schedule") ∷ window_rule
    ∷ flag_rule (codes "trace") ∷ flag_rule (codes "explain") ∷ program_rule ∷ [])

-- `audit [--setup FILE] [--features FILE] [--contacts FILE] [--record FILE] [--seal-key FILE] [--explain] [PROGRAM]`
abbrev pub audit_line : App
audit_line = line_of (codes "audit") (text_rule (codes "setup") ∷ text_rule (codes "features") ∷ text_rule (codes "contacts")
    ∷ text_rule (codes "record") ∷ text_rule (codes "seal-key") ∷ flag_rule (codes "explain") ∷ program_rule ∷ [])

-- `loop --setup FILE [--window W] [--progress] [--trace] [--explain] [PROGRAM]`
abbrev pub loop_line : App
loop_line = line_of (codes "loop") (needed_rule (codes "setup") ∷ window_rule ∷ flag_rule (codes "progress") ∷ flag_rule (codes "trace")
    ∷ flag_rule (codes "explain") ∷ program_rule ∷ [])

-- `serve --setup FILE [--listen ADDRESS] --port N [--connections K] [--endless] [--contacts FILE] [--progress] [--trace]
-- [--log FILE] [--timeout SECONDS] [--stop FILE] [--explain]`
abbrev pub serve_line : App
serve_line = line_of (codes "serve") (needed_rule (codes "setup") ∷ text_rule (codes "listen") ∷ port_rule ∷ connections_rule (codes "1")
    ∷ flag_rule (codes "endless") ∷ text_rule (codes "contacts") ∷ flag_rule (codes "progress") ∷ flag_rule (codes "trace") ∷ text_rule (codes "log")
    ∷ text_rule (codes "timeout") ∷ text_rule (codes "stop") ∷ flag_rule (codes "explain") ∷ [])

-- `run [--machine FILE] --setup FILE --host H --port N [--window W] [--features FILE] [--record FILE] [--records FOLDER] [--part TEXT]
-- [--operator TEXT] [--seal-key FILE] [--contacts FILE] [--progress] [--trace] [--log FILE] [--timeout SECONDS] [--wait SECONDS] [--stop FILE] [--confirm] [--pause] [--explain] [PROGRAM]`
abbrev pub run_line : App
run_line = line_of (codes "run") (text_rule (codes "machine") ∷ needed_rule (codes "setup") ∷ needed_rule (codes "host") ∷ port_rule ∷ window_rule
    ∷ text_rule (codes "features") ∷ text_rule (codes "record") ∷ text_rule (codes "records") ∷ text_rule (codes "part") ∷ text_rule (codes "operator")
    ∷ text_rule (codes "seal-key") ∷ text_rule (codes "contacts") ∷ flag_rule (codes "progress") ∷ flag_rule (codes "trace") ∷ text_rule (codes "log") ∷ text_rule (codes "timeout")
    ∷ text_rule (codes "wait") ∷ text_rule (codes "stop") ∷ flag_rule (codes "confirm") ∷ flag_rule (codes "pause")
    ∷ flag_rule (codes "explain") ∷ program_rule ∷ [])

-- `explain CODE`
abbrev pub explain_line : App
explain_line = line_of (codes "explain") (word_rule (codes "CODE") ∷ [])

-- `export --as FORM [--setup FILE] [--features FILE] [--record FILE] [--limits FILE] [--separator SIGN] [--decimal SIGN]
-- [--with-part] [--explain] [PROGRAM]`
abbrev pub export_line : App
export_line = line_of (codes "export") (needed_rule (codes "as") ∷ text_rule (codes "setup") ∷ text_rule (codes "features")
    ∷ text_rule (codes "record") ∷ text_rule (codes "limits") ∷ text_rule (codes "separator") ∷ text_rule (codes "decimal")
    ∷ flag_rule (codes "with-part") ∷ flag_rule (codes "explain") ∷ program_rule ∷ [])

-- `review [--as FORM] [--setup FILE] [PROGRAM]`
abbrev pub review_line : App
review_line = line_of (codes "review") (text_rule (codes "as") ∷ text_rule (codes "setup") ∷ program_rule ∷ [])

-- `ledger --up FILE --down FILE [--connection N]`
abbrev pub ledger_line : App
ledger_line = line_of (codes "ledger") (needed_rule (codes "up") ∷ needed_rule (codes "down") ∷ usual_number_rule (codes "connection") 4000000000 (codes "1") ∷ [])

-- `judge --up FILE --down FILE`
abbrev pub judge_line : App
judge_line = line_of (codes "judge") (needed_rule (codes "up") ∷ needed_rule (codes "down") ∷ [])

-- `watch --listen PORT --host H --port N --told FILE [--record-bytes FOLDER] [--connections K] [--endless] [--trace] [--log FILE]
-- [--timeout SECONDS]`
abbrev pub watch_line : App
watch_line = line_of (codes "watch") (needed_number_rule (codes "listen") 65535 ∷ needed_rule (codes "host") ∷ port_rule ∷ needed_rule (codes "told")
    ∷ text_rule (codes "record-bytes") ∷ connections_rule (codes "4000000000") ∷ flag_rule (codes "endless") ∷ flag_rule (codes "trace") ∷ text_rule (codes "log")
    ∷ text_rule (codes "timeout") ∷ [])

-- `lower [--setup FILE] [--no-clearing] [--compensated] [--skip-manual] [--stored-frames] [--even-touches] [--value NAME=TEXT ..] [--explain] [PROGRAM]`
abbrev pub lower_line : App
lower_line = line_of (codes "lower") (text_rule (codes "setup") ∷ flag_rule (codes "no-clearing") ∷ flag_rule (codes "compensated")
    ∷ flag_rule (codes "skip-manual") ∷ flag_rule (codes "stored-frames") ∷ flag_rule (codes "even-touches") ∷ texts_rule (codes "value")
    ∷ flag_rule (codes "explain") ∷ program_rule ∷ [])

-- `report --record FILE [--setup FILE] [--limits FILE] [--seal-key FILE] [--explain] [PROGRAM]`
abbrev pub report_line : App
report_line = line_of (codes "report") (needed_rule (codes "record") ∷ text_rule (codes "setup") ∷ text_rule (codes "limits")
    ∷ text_rule (codes "seal-key") ∷ flag_rule (codes "explain") ∷ program_rule ∷ [])

-- `summary [--as FORM] [--setup FILE] [--limits FILE] [--seal-key FILE] [--program FILE] RECORD ..`
abbrev pub summary_line : App
summary_line = line_of (codes "summary") (text_rule (codes "as") ∷ text_rule (codes "setup") ∷ text_rule (codes "limits")
    ∷ text_rule (codes "seal-key") ∷ text_rule (codes "program") ∷ record (word_rule (codes "RECORD")) { action = Some Append } ∷ [])

-- the command without its subcommands, of which one is required
abbrev pub bare_line : App
bare_line = record (new_app (codes "dme")) { top = record (new_app (codes "dme")).top { subcommand_required = true } }

-- with the subcommands of the table's first half
abbrev pub first_line : App
first_line = fold (λ line order. with_subcommand line order.top) bare_line (check_line ∷ simulate_line ∷ audit_line ∷ loop_line
    ∷ serve_line ∷ run_line ∷ [])

-- `dme COMMAND ..`
abbrev pub whole_line : App
whole_line = fold (λ line order. with_subcommand line order.top) bare_line (check_line ∷ simulate_line ∷ audit_line ∷ loop_line
    ∷ serve_line ∷ run_line ∷ explain_line ∷ export_line ∷ review_line ∷ ledger_line ∷ judge_line ∷ watch_line ∷ lower_line
    ∷ report_line ∷ summary_line ∷ [])
