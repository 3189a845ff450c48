-- What the words of a command line ask for.
use Rattle.std.specs.Prelude.{◌≡◌, ◌≢◌, ◌⊎◌, ◌≤◌, ◌||◌, not, ℕ, ℤ, Bool, List, [], ◌∷◌, Option, Some, None, Ok, IsSomeAnd, codes, is_some, map, pos, true, false, unwrap_or}
use Rattle.std.specs.Prelude.{string_bytes, nat_le, ◌==◌, ◌&&◌, if◌then◌else◌}
use Rattle.std.specs.List.{flat_map, list_all}
use Rattle.session_telling.specs.Visible.{visible}
use Rattle.std.specs.Option.{option_map, option_or}
use Rattle.std.specs.Str.Parse.{signed_digits_value}
use Rattle.clap.specs.declared.error.Error.{Error}
use Rattle.clap.specs.declared.error.kind.ErrorKind.TheVariants.{OutOfMemory}
use Rattle.clap.specs.Values.{bool_text}
use Rattle.clap.specs.Walk.{Rule}
use Rattle.clap.specs.Simple.{App, Shape, built_leaf, inherited, marked_built, on_top, with_leaf_noted}
use Rattle.clap.specs.declared.builder.value_parser.ValueParser.{ValueParser}
use Rattle.clap.specs.declared.builder.value_parser.ValueParser.TheVariants.{Bool as OfBool, Signed}
use Rattle.clap.specs.declared.parser.matches.ArgMatches.{ArgMatches}
use Rattle.clap.specs.Words.{found_of, rows_of}
use Rattle.clap.specs.Words.{IsAmong, IsSignedIn, Row, Text, all_of, fault_of, first_of, kind_of, one_of, subcommand_of, without_minus}
use Rattle.client_core.specs.Clients.{is_window}
use Rattle.program_review.specs.Codes.{is_code_of}
use Rattle.record_text.specs.Heads.{IsPart, IsPartGiven}
use Rattle.program_review.specs.declared.topics.Topic.{Topic}
use Rattle.deviations.specs.declared.forms.Form.TheVariants.{Csv, Json, Svg}
use Rattle.dme_words.specs.Answers.{HasNoAnswer, named_answers}
use Rattle.dme_words.specs.Folders.{part_record}
use Rattle.dme_words.specs.CommandLine.{audit_line, check_line, explain_line, export_line, judge_line, ledger_line, loop_line, lower_line, report_line, run_line, serve_line, simulate_line, watch_line, whole_line}
use Rattle.dme_words.specs.declared.orders.Audit.{Audit}
use Rattle.dme_words.specs.declared.orders.BatchSummary.{BatchSummary}
use Rattle.dme_words.specs.declared.orders.Export.{Export}
use Rattle.dme_words.specs.declared.orders.Judge.{Judge}
use Rattle.dme_words.specs.declared.orders.Ledger.{Ledger}
use Rattle.dme_words.specs.declared.orders.Loop.{Loop}
use Rattle.dme_words.specs.declared.orders.Lower.{Lower}
use Rattle.dme_words.specs.declared.orders.Measured.{Measured}
use Rattle.dme_words.specs.declared.orders.Measured.TheVariants as measured
use Rattle.dme_words.specs.declared.orders.Order.{Order}
use Rattle.dme_words.specs.declared.orders.Order.TheVariants as order
use Rattle.dme_words.specs.declared.orders.PartReport.{PartReport}
use Rattle.dme_words.specs.declared.orders.RecordForm.{RecordForm}
use Rattle.dme_words.specs.declared.orders.SummaryForm.{SummaryForm}
use Rattle.dme_words.specs.declared.orders.SummaryForm.TheVariants as summary
use Rattle.dme_words.specs.declared.orders.RecordForm.TheVariants.{Table, Features, Contacts}
use Rattle.dme_words.specs.declared.orders.Recorded.{Recorded}
use Rattle.dme_words.specs.declared.orders.Review.{Review}
use Rattle.dme_words.specs.declared.orders.Run.{Run}
use Rattle.dme_words.specs.declared.orders.Service.{Service}
use Rattle.dme_words.specs.declared.orders.Simulation.{Simulation}
use Rattle.dme_words.specs.declared.orders.Subject.{Subject}
use Rattle.dme_words.specs.declared.orders.Watch.{Watch}
use Rattle.dme_words.specs.declared.words.Wanted.TheVariants as wanted
use Rattle.dme_words.specs.declared.words.WordsFault.{WordsFault}
use Rattle.dme_words.specs.declared.words.WordsFault.TheVariants.{Control, Line, Memory, Misfits, NoValue}
use Rattle.deviations.specs.declared.styles.DecimalSign.{DecimalSign}
use Rattle.deviations.specs.declared.styles.DecimalSign.TheVariants as sign
use Rattle.deviations.specs.declared.styles.Separator.{Separator}
use Rattle.deviations.specs.declared.styles.Separator.TheVariants as separator
use Rattle.deviations.specs.declared.styles.TableOptions.{TableOptions}
use Rattle.dme_words.specs.declared.misfits.Misfit.{Misfit}
use Rattle.dme_words.specs.declared.misfits.Misfit.TheVariants as misfit
use Rattle.dme_words.specs.declared.misfits.Lacks.{Lacks}

-- what `clap` has found of a command's arguments
abbrev pub rows_in : ArgMatches → List Row
rows_in values = rows_of (found_of values)

-- the name is the value of the option with this id
abbrev pub IsValueOf : Text → List Row → Text → Type 0
IsValueOf id rows name = first_of id rows ≡ Some name

-- the name is the value of the option with this id, or none if none is named
abbrev pub IsMaybeOf : Text → List Row → Option Text → Type 0
IsMaybeOf id rows name = name ≡ first_of id rows

-- the option with this id has no value
abbrev pub HasNone : Text → List Row → Type 0
HasNone id rows = first_of id rows ≡ None

-- the name is the value of the argument with this id, or standard input if none is named
abbrev pub IsValueOrInput : Text → List Row → Text → Type 0
IsValueOrInput id rows name = name ≡ unwrap_or (first_of id rows) (codes "-")

-- the text writes this number, as Rust reads a number, and it is from 1 to `most`
abbrev pub IsNumber : ℕ → ℕ → Text → Type 0
IsNumber most number text = (signed_digits_value 10 text ≡ pos number) × (1 ≤ number) × (number ≤ most)

-- the number is the value of the option with this id, and it is from 1 to `most`
abbrev pub IsNumberOf : Text → ℕ → List Row → ℕ → Type 0
IsNumberOf id most rows number = IsSomeAnd (first_of id rows) (IsNumber most number)

-- the number is the value of `--window`
abbrev pub IsWindowOf : List Row → ℕ → Type 0
IsWindowOf = IsNumberOf (codes "window") 16

-- the number of seconds is the value of the option with this id, from 1 to 86,400; none if none is named
abbrev pub IsSecondsOf : Text → List Row → Option ℕ → Type 0
IsSecondsOf id rows (Some seconds) = IsNumberOf id 86400 rows seconds
IsSecondsOf id rows None = HasNone id rows

-- the text writes no such number
abbrev pub IsNoSeconds : Text → Type 0
IsNoSeconds text = IsSignedIn (pos 1) (pos 86400) text → ⊥

-- the flag with this id is set, or it is not, as `clap` writes it
abbrev pub IsFlagOf : Text → List Row → Bool → Type 0
IsFlagOf id rows is_set = first_of id rows ≡ Some (bool_text is_set)

-- how many connections are taken: the value of `--connections`, or with `--endless` as many as can be numbered
abbrev pub IsConnectionsOf : List Row → ℕ → Type 0
IsConnectionsOf rows number = (IsFlagOf (codes "endless") rows true × (number ≡ 4000000000))
    ⊎ (IsFlagOf (codes "endless") rows false × IsNumberOf (codes "connections") 4000000000 rows number)

-- the flag `--explain` is set, or it is not
abbrev pub IsExplainedOf : List Row → Bool → Type 0
IsExplainedOf = IsFlagOf (codes "explain")

-- the program is the named one, or standard input, under the named setup, or none if none is named
abbrev pub IsSubjectOf : List Row → Subject → Type 0
IsSubjectOf rows o =
    IsMaybeOf (codes "setup") rows (option_map string_bytes o.setup) × IsExplainedOf rows o.explain
    × IsValueOrInput (codes "PROGRAM") rows (string_bytes o.program)

-- it is about the named record, with the key of its seals if one is named
abbrev pub IsRecordedOf : List Row → Recorded → Type 0
IsRecordedOf rows o =
    IsValueOf (codes "record") rows (string_bytes o.record) × IsMaybeOf (codes "seal-key") rows (option_map string_bytes o.seal_key)
    × IsSubjectOf rows o.subject

-- a simulation of the program with the named setup and schedule, and the named window
abbrev pub IsSimulateOf : List Row → Simulation → Type 0
IsSimulateOf rows o =
    IsValueOf (codes "setup") rows (string_bytes o.setup) × IsValueOf (codes "schedule") rows (string_bytes o.schedule)
    × IsWindowOf rows o.window × IsFlagOf (codes "trace") rows o.trace × IsExplainedOf rows o.explain
    × IsValueOrInput (codes "PROGRAM") rows (string_bytes o.program)

-- an audit of the program with the named setup, features and contacts; no record is named
abbrev pub IsAuditOf : List Row → Audit → Type 0
IsAuditOf rows o =
    IsValueOf (codes "setup") rows (string_bytes o.setup) × IsValueOf (codes "features") rows (string_bytes o.features)
    × IsValueOf (codes "contacts") rows (string_bytes o.contacts) × HasNone (codes "record") rows × HasNone (codes "seal-key") rows
    × IsExplainedOf rows o.explain
    × IsValueOrInput (codes "PROGRAM") rows (string_bytes o.program)

-- an audit of the named record; no features or contacts are named
abbrev pub IsRecordAuditOf : List Row → Recorded → Type 0
IsRecordAuditOf rows o = HasNone (codes "features") rows × HasNone (codes "contacts") rows × IsRecordedOf rows o

-- the order of `audit`: that of a record just if one is named
abbrev pub IsAnyAuditOf : List Row → Order → Type 0
IsAnyAuditOf rows (order.Audit o) = IsAuditOf rows o
IsAnyAuditOf rows (order.AuditRecord o) = IsRecordAuditOf rows o
IsAnyAuditOf rows _ = ⊥

-- a run of the program over one connection to itself, with the named setup and window
abbrev pub IsLoopOf : List Row → Loop → Type 0
IsLoopOf rows o =
    IsValueOf (codes "setup") rows (string_bytes o.setup) × IsWindowOf rows o.window × IsFlagOf (codes "progress") rows o.progress
    × IsFlagOf (codes "trace") rows o.trace × IsExplainedOf rows o.explain × IsValueOrInput (codes "PROGRAM") rows (string_bytes o.program)

-- a server with the named setup at the named port, for that many connections, with the named address, file for its contacts, log, time limit
-- and stop file, if any
abbrev pub IsServeOf : List Row → Service → Type 0
IsServeOf rows o =
    IsValueOf (codes "setup") rows (string_bytes o.setup) × IsMaybeOf (codes "listen") rows (option_map string_bytes o.listen)
    × IsNumberOf (codes "port") 65535 rows o.port × IsConnectionsOf rows o.connections
    × IsMaybeOf (codes "contacts") rows (option_map string_bytes o.contacts) × IsFlagOf (codes "progress") rows o.progress
    × IsFlagOf (codes "trace") rows o.trace × IsMaybeOf (codes "log") rows (option_map string_bytes o.log)
    × IsSecondsOf (codes "timeout") rows o.timeout × IsMaybeOf (codes "stop") rows (option_map string_bytes o.stop)
    × IsExplainedOf rows o.explain

-- whether the option with this id has no value
abbrev pub is_lacking : Text → List Row → Bool
is_lacking id rows = not (is_some (first_of id rows))

-- neither a record nor a folder of records is named
abbrev pub is_unrecorded : List Row → Bool
is_unrecorded rows = is_lacking (codes "record") rows && is_lacking (codes "records") rows

-- a part is named if a record is, or its folder, and only then; an operator and a key are named only if one of these is
abbrev pub FitsRun : List Row → Type 0
FitsRun rows = (is_unrecorded rows ≡ is_lacking (codes "part") rows)
    × (is_unrecorded rows ≡ true → is_lacking (codes "operator") rows ≡ true)
    × (is_unrecorded rows ≡ true → is_lacking (codes "seal-key") rows ≡ true)

-- the record is the named file; if none is named, that of the part in the named folder
abbrev pub IsRecordOf : List Row → Option Text → Type 0
IsRecordOf rows name = name ≡ option_or (first_of (codes "record") rows)
    (part_record (first_of (codes "records") rows) (first_of (codes "part") rows))

-- the value of the option with this id, if there is one, and it may be the name of a part
abbrev pub IsGivenOf : Text → List Row → Option Text → Type 0
IsGivenOf id rows text = IsMaybeOf id rows text × IsPartGiven text

-- a run of the program against the server at the named host and port, with the named setup and window, and the named file of features,
-- record with its part, operator and key, file for the reported contacts, log, time limits and stop file, if any
abbrev pub IsRunOf : List Row → Run → Type 0
IsRunOf rows o =
    IsValueOf (codes "setup") rows (string_bytes o.setup) × IsValueOf (codes "host") rows (string_bytes o.host) × IsNumberOf (codes "port") 65535 rows o.port
    × IsWindowOf rows o.window × IsMaybeOf (codes "features") rows (option_map string_bytes o.features)
    × IsRecordOf rows (option_map string_bytes o.record) × IsGivenOf (codes "part") rows (option_map string_bytes o.part)
    × IsGivenOf (codes "operator") rows (option_map string_bytes o.operator)
    × IsMaybeOf (codes "seal-key") rows (option_map string_bytes o.seal_key)
    × IsMaybeOf (codes "contacts") rows (option_map string_bytes o.contacts)
    × IsFlagOf (codes "progress") rows o.progress × IsFlagOf (codes "trace") rows o.trace
    × IsMaybeOf (codes "log") rows (option_map string_bytes o.log)
    × IsSecondsOf (codes "timeout") rows o.timeout × IsSecondsOf (codes "wait") rows o.wait
    × IsMaybeOf (codes "stop") rows (option_map string_bytes o.stop) × IsFlagOf (codes "confirm") rows o.confirm
    × IsFlagOf (codes "pause") rows o.pause
    × IsExplainedOf rows o.explain × IsValueOrInput (codes "PROGRAM") rows (string_bytes o.program)

-- a code that names a refusal, its letters in any case, or a server's own errors
abbrev pub IsCodeOf : Topic → Text → Type 0
IsCodeOf topic code = is_code_of topic code ≡ true

-- the refusal that is called by the named code
abbrev pub IsExplainOf : List Row → Topic → Type 0
IsExplainOf rows topic = IsSomeAnd (first_of (codes "CODE") rows) (IsCodeOf topic)

-- the word for a form
abbrev pub form_word : RecordForm → Text
form_word (Table Csv) = codes "csv"
form_word (Table Json) = codes "json"
form_word (Table Svg) = codes "svg"
form_word Features = codes "features"
form_word Contacts = codes "contacts"

-- the word for what stands between two fields of a table, and for its decimal sign
abbrev pub separator_word : Separator → Text
separator_word separator.Comma = codes ","
separator_word separator.Semicolon = codes ";"
separator_word separator.Tab = codes "tab"

abbrev pub sign_word : DecimalSign → Text
sign_word sign.Point = codes "point"
sign_word sign.Comma = codes "comma"

-- the named ones, a comma and a point if none are named
abbrev pub IsSeparatorOf : List Row → Separator → Type 0
IsSeparatorOf rows s = unwrap_or (first_of (codes "separator") rows) (codes ",") ≡ separator_word s

abbrev pub IsSignOf : List Row → DecimalSign → Type 0
IsSignOf rows s = unwrap_or (first_of (codes "decimal") rows) (codes "point") ≡ sign_word s

-- how a table is written
abbrev pub IsTableOf : List Row → TableOptions → Type 0
IsTableOf rows t = IsSeparatorOf rows t.separator × IsSignOf rows t.sign × IsFlagOf (codes "with-part") rows t.with_part

-- signs are named only for comma-separated values, and rows say their part only in a table
abbrev pub NamesNoSign : List Row → Type 0
NamesNoSign rows = HasNone (codes "separator") rows × HasNone (codes "decimal") rows

abbrev pub KeepsItsTable : List Row → RecordForm → TableOptions → Type 0
KeepsItsTable rows (Table Csv) table = Unit {0}
KeepsItsTable rows (Table Json) table = NamesNoSign rows
KeepsItsTable rows _ table = NamesNoSign rows × (table.with_part ≡ false)

-- the named features, in the named form, or the named record, if only one of them is named
abbrev pub IsMeasuredOf : List Row → Measured → Type 0
IsMeasuredOf rows (measured.Features form file) = IsValueOf (codes "as") rows (form_word (Table form))
    × IsValueOf (codes "features") rows (string_bytes file) × HasNone (codes "record") rows
IsMeasuredOf rows (measured.Record form file) = IsValueOf (codes "as") rows (form_word form)
    × IsValueOf (codes "record") rows (string_bytes file) × HasNone (codes "features") rows

abbrev pub form_in : Measured → RecordForm
form_in (measured.Features form file) = Table form
form_in (measured.Record form file) = form

-- what was measured of the program, in a table of the named style, with the named limits, if they are named
abbrev pub IsExportOf : List Row → Export → Type 0
IsExportOf rows o =
    IsMeasuredOf rows o.measured × IsTableOf rows o.table × KeepsItsTable rows (form_in o.measured) o.table
    × IsMaybeOf (codes "limits") rows (option_map string_bytes o.limits) × IsSubjectOf rows o.subject

-- findings are printed as JSON if that is the named form, as lines if none is named
abbrev pub IsFindingFormOf : List Row → Bool → Type 0
IsFindingFormOf rows true = IsValueOf (codes "as") rows (codes "json")
IsFindingFormOf rows false = HasNone (codes "as") rows

-- a review of the program with the named setup or with none if none is named, and in the named form
abbrev pub IsReviewOf : List Row → Review → Type 0
IsReviewOf rows o =
    IsFindingFormOf rows o.is_json × IsMaybeOf (codes "setup") rows (option_map string_bytes o.setup)
    × IsValueOrInput (codes "PROGRAM") rows (string_bytes o.program)

-- what a server told by the named bytes of both ends, on the connection of the named number
abbrev pub IsLedgerOf : List Row → Ledger → Type 0
IsLedgerOf rows o =
    IsValueOf (codes "up") rows (string_bytes o.up) × IsValueOf (codes "down") rows (string_bytes o.down)
    × IsNumberOf (codes "connection") 4000000000 rows o.connection

-- a judgement on the named bytes of both ends
abbrev pub IsJudgeOf : List Row → Judge → Type 0
IsJudgeOf rows o = IsValueOf (codes "up") rows (string_bytes o.up) × IsValueOf (codes "down") rows (string_bytes o.down)

-- a relay at the named port to the server at the named host and port, for that many connections, with the named file for what the server reports, and
-- the named folder for bytes, log and time limit, if any
abbrev pub IsWatchOf : List Row → Watch → Type 0
IsWatchOf rows o =
    IsNumberOf (codes "listen") 65535 rows o.listen × IsValueOf (codes "host") rows (string_bytes o.host) × IsNumberOf (codes "port") 65535 rows o.port
    × IsValueOf (codes "told") rows (string_bytes o.told) × IsMaybeOf (codes "record-bytes") rows (option_map string_bytes o.record_bytes)
    × IsConnectionsOf rows o.connections × IsFlagOf (codes "trace") rows o.trace
    × IsMaybeOf (codes "log") rows (option_map string_bytes o.log) × IsSecondsOf (codes "timeout") rows o.timeout

-- the flat program of the program, with these choices and answers
abbrev pub IsLowerOf : List Row → Lower → Type 0
IsLowerOf rows o =
    IsFlagOf (codes "no-clearing") rows o.no_clearing × IsFlagOf (codes "compensated") rows o.compensated
    × IsFlagOf (codes "skip-manual") rows o.skip_manual × IsFlagOf (codes "stored-frames") rows o.stored_frames
    × IsFlagOf (codes "even-touches") rows o.even_touches × (named_answers rows ≡ Ok o.answers.items) × IsSubjectOf rows o.subject

-- the page of the named record, under the named limits, if they are named
abbrev pub IsReportOf : List Row → PartReport → Type 0
IsReportOf rows o = IsMaybeOf (codes "limits") rows (option_map string_bytes o.limits) × IsRecordedOf rows o.recorded

-- a summary is printed as comma-separated values or as a page if that is the named form, as text if it is that or none is named
abbrev pub IsSummaryFormOf : List Row → SummaryForm → Type 0
IsSummaryFormOf rows summary.Csv = IsValueOf (codes "as") rows (codes "csv")
IsSummaryFormOf rows summary.Html = IsValueOf (codes "as") rows (codes "html")
IsSummaryFormOf rows summary.Text = HasNone (codes "as") rows ⊎ IsValueOf (codes "as") rows (codes "text")

-- a summary of the named records, in their order, under the named program and the named setup, limits and key of seals, each if one is named
abbrev pub IsSummaryOf : List Row → BatchSummary → Type 0
IsSummaryOf rows o =
    IsSummaryFormOf rows o.form × IsMaybeOf (codes "setup") rows (option_map string_bytes o.setup)
    × IsMaybeOf (codes "limits") rows (option_map string_bytes o.limits)
    × IsMaybeOf (codes "seal-key") rows (option_map string_bytes o.seal_key) × IsValueOrInput (codes "program") rows (string_bytes o.program)
    × (map string_bytes o.records.items ≡ unwrap_or (all_of (codes "RECORD") rows) [])

-- the order of a subcommand with its values, by its name
abbrev pub IsNamedOrderOf : Text × List Row → Order → Type 0
IsNamedOrderOf p (order.Check o) = (p.0 ≡ codes "check") × IsSubjectOf p.1 o
IsNamedOrderOf p (order.Simulate o) = (p.0 ≡ codes "simulate") × IsSimulateOf p.1 o
IsNamedOrderOf p (order.Audit o) = (p.0 ≡ codes "audit") × IsAuditOf p.1 o
IsNamedOrderOf p (order.AuditRecord o) = (p.0 ≡ codes "audit") × IsRecordAuditOf p.1 o
IsNamedOrderOf p (order.Loop o) = (p.0 ≡ codes "loop") × IsLoopOf p.1 o
IsNamedOrderOf p (order.Serve o) = (p.0 ≡ codes "serve") × IsServeOf p.1 o
IsNamedOrderOf p (order.Run o) = (p.0 ≡ codes "run") × IsRunOf p.1 o × FitsRun p.1
IsNamedOrderOf p (order.Explain topic) = (p.0 ≡ codes "explain") × IsExplainOf p.1 topic
IsNamedOrderOf p (order.Export o) = (p.0 ≡ codes "export") × IsExportOf p.1 o
IsNamedOrderOf p (order.Review o) = (p.0 ≡ codes "review") × IsReviewOf p.1 o
IsNamedOrderOf p (order.Ledger o) = (p.0 ≡ codes "ledger") × IsLedgerOf p.1 o
IsNamedOrderOf p (order.Judge o) = (p.0 ≡ codes "judge") × IsJudgeOf p.1 o
IsNamedOrderOf p (order.Watch o) = (p.0 ≡ codes "watch") × IsWatchOf p.1 o
IsNamedOrderOf p (order.Lower o) = (p.0 ≡ codes "lower") × IsLowerOf p.1 o
IsNamedOrderOf p (order.Report o) = (p.0 ≡ codes "report") × IsReportOf p.1 o
IsNamedOrderOf p (order.Summary o) = (p.0 ≡ codes "summary") × IsSummaryOf p.1 o

-- the order of the subcommand that was found
abbrev pub IsOrderOf : Option (Text × List Row) → Order → Type 0
IsOrderOf found asked = IsSomeAnd found (λ p. IsNamedOrderOf p asked)

-- the option with this id has a value
abbrev pub HasValue : Text → List Row → Type 0
HasValue id rows = is_some (first_of id rows) ≡ true

-- the option with this id has a number within these bounds, which is read as it is written, but for a minus
pub record HasSigned (id : Text) (low high : ℤ) (rows : List Row) : Type 0 where
  pub text : Text
  pub written : first_of id rows ≡ Some text
  pub read : one_of id rows ≡ Some (without_minus text)
  pub ranged : IsSignedIn low high text

-- the option with this id has a number from 1 to `most`
abbrev pub HasNumber : Text → ℕ → List Row → Type 0
HasNumber id most rows = HasSigned id (pos 1) (pos most) rows

-- the flag with this id has a value, which is read as it is written
pub record HasFlag (id : Text) (rows : List Row) : Type 0 where
  pub is_set : Bool
  pub written : first_of id rows ≡ Some (bool_text is_set)
  pub read : one_of id rows ≡ Some (bool_text is_set)

-- what an argument that is needed or has a default is found to have: a flag, a number within its bounds, or a text
abbrev pub HasRead : Option ValueParser → Text → List Row → Type 0
HasRead (Some OfBool) id rows = HasFlag id rows
HasRead (Some (Signed (pos low) high)) id rows = HasSigned id (pos low) high rows
HasRead _ id rows = HasValue id rows

abbrev pub has_default : List Text → Bool
has_default [] = false
has_default (value ∷ values) = true

abbrev pub HasIf : Bool → Type 0 → Type 0
HasIf true has = has
HasIf false has = Unit {0}

-- the arguments that are needed or have a default have their values
abbrev pub HasAll : List Rule → List Row → Type 0
HasAll [] rows = Unit {0}
HasAll (a ∷ rest) rows = HasIf (a.required || has_default a.defaults) (HasRead a.parser a.id rows) × HasAll rest rows

-- a subcommand of `dme`, as `clap` completes it
abbrev pub leaf : App → Shape
leaf line = built_leaf (inherited (on_top with_leaf_noted (on_top marked_built whole_line)).top line.top)

-- likewise of this subcommand
abbrev pub Has : App → List Row → Type 0
Has line rows = HasAll (leaf line).rules rows

-- the name of one of the last ten subcommands, with the values that it cannot do without
abbrev pub IsLaterAskable : Text × List Row → Type 0
IsLaterAskable p = ((p.0 ≡ codes "serve") × Has serve_line p.1) ⊎ ((p.0 ≡ codes "run") × Has run_line p.1)
    ⊎ ((p.0 ≡ codes "explain") × Has explain_line p.1) ⊎ ((p.0 ≡ codes "export") × Has export_line p.1)
    ⊎ (p.0 ≡ codes "review") ⊎ ((p.0 ≡ codes "ledger") × Has ledger_line p.1) ⊎ ((p.0 ≡ codes "judge") × Has judge_line p.1)
    ⊎ ((p.0 ≡ codes "watch") × Has watch_line p.1) ⊎ ((p.0 ≡ codes "lower") × Has lower_line p.1)
    ⊎ ((p.0 ≡ codes "report") × Has report_line p.1)

-- the name of a subcommand of `dme`, with the values that it cannot do without
abbrev pub IsAskable : Text × List Row → Type 0
IsAskable p = ((p.0 ≡ codes "check") × Has check_line p.1) ⊎ ((p.0 ≡ codes "simulate") × Has simulate_line p.1)
    ⊎ ((p.0 ≡ codes "audit") × Has audit_line p.1) ⊎ ((p.0 ≡ codes "loop") × Has loop_line p.1) ⊎ (p.0 ≡ codes "summary")
    ⊎ IsLaterAskable p

-- the window is one that a client takes, the port is one that can be listened on, the count is one of a server's connections, and the number is
-- one of a connection
abbrev pub IsReady : Order → Type 0
IsReady (order.Check o) = Unit {0}
IsReady (order.Simulate o) = is_window o.window ≡ true
IsReady (order.Audit o) = Unit {0}
IsReady (order.AuditRecord o) = Unit {0}
IsReady (order.Loop o) = is_window o.window ≡ true
IsReady (order.Serve o) = (1 ≤ o.port) × (1 ≤ o.connections) × (o.connections ≤ 4000000000)
IsReady (order.Run o) = (1 ≤ o.port) × (is_window o.window ≡ true)
IsReady (order.Explain topic) = Unit {0}
IsReady (order.Export o) = Unit {0}
IsReady (order.Review o) = Unit {0}
IsReady (order.Ledger o) = (1 ≤ o.connection) × (o.connection ≤ 4000000000)
IsReady (order.Judge o) = Unit {0}
IsReady (order.Watch o) = (1 ≤ o.listen) × (1 ≤ o.port) × (1 ≤ o.connections) × (o.connections ≤ 4000000000)
IsReady (order.Lower o) = Unit {0}
IsReady (order.Report o) = Unit {0}
IsReady (order.Summary o) = Unit {0}

-- the words are a command line without a fault, and this is the order of the subcommand that they name, with its values
pub record Asks (words : List Text) (asked : Order) : Type 0 where
  pub faultless : fault_of whole_line words ≡ []
  pub named : IsOrderOf (subcommand_of whole_line words) asked

-- the words have a fault, and the text is that of this fault, which is never running out of memory
pub record HasFault (words : List Text) (error : Error) : Type 0 where
  pub fault : IsAmong (kind_of error) (fault_of whole_line words)
  pub told : kind_of error ≢ OutOfMemory

-- no refusal is called by the code
abbrev pub IsNoCode : Text → Type 0
IsNoCode code = (topic : Topic) → IsCodeOf topic code → ⊥

-- the word names no form
abbrev pub IsNoForm : Text → Type 0
IsNoForm word = (form : RecordForm) → word ≡ form_word form → ⊥

-- the word names no separator, or no decimal sign
abbrev pub IsNoSeparator : Text → Type 0
IsNoSeparator word = (s : Separator) → word ≡ separator_word s → ⊥

abbrev pub IsNoSign : Text → Type 0
IsNoSign word = (s : DecimalSign) → word ≡ sign_word s → ⊥

-- no refusal has the named code; or memory ran out
abbrev pub HasNoTopic : List Row → WordsFault → Type 0
HasNoTopic rows (NoValue wanted.Code code) = IsValueOf (codes "CODE") rows (string_bytes code) × IsNoCode (string_bytes code)
HasNoTopic rows Memory = Unit {0}
HasNoTopic rows _ = ⊥

-- which of the options that an audit without a record needs are not named; one at least
pub record AreLacking (rows : List Row) (lacks : Lacks) : Type 0 where
  pub setup : lacks.setup ≡ is_lacking (codes "setup") rows
  pub features : lacks.features ≡ is_lacking (codes "features") rows
  pub contacts : lacks.contacts ≡ is_lacking (codes "contacts") rows
  pub some : (lacks.setup || lacks.features || lacks.contacts) ≡ true

-- features or contacts are named if no record is, and a key only with a record
abbrev pub FitsAudit : List Row → Type 0
FitsAudit rows = (is_lacking (codes "record") rows ≡ false → HasNone (codes "features") rows × HasNone (codes "contacts") rows)
    × (is_lacking (codes "record") rows ≡ true → HasNone (codes "seal-key") rows × HasValue (codes "setup") rows
    × HasValue (codes "features") rows × HasValue (codes "contacts") rows)

-- the options of an audit that do not go together
abbrev pub AuditMisfits : List Row → Misfit → Type 0
AuditMisfits rows misfit.RecordAndFeatures = HasValue (codes "record") rows × HasValue (codes "features") rows
AuditMisfits rows misfit.RecordAndContacts = HasValue (codes "record") rows × HasValue (codes "contacts") rows
AuditMisfits rows misfit.KeyWithoutRecord = HasNone (codes "record") rows × HasValue (codes "seal-key") rows
AuditMisfits rows (misfit.AuditLacks lacks) = HasNone (codes "record") rows × AreLacking rows lacks
AuditMisfits rows _ = ⊥

-- features are named just if no record is
abbrev pub NamesOneFile : List Row → Type 0
NamesOneFile rows = (is_lacking (codes "record") rows ≡ false → HasNone (codes "features") rows)
    × (is_lacking (codes "record") rows ≡ true → HasValue (codes "features") rows)

-- the options of an export that do not go together
abbrev pub ExportMisfits : List Row → Misfit → Type 0
ExportMisfits rows misfit.RecordAndFeatures = HasValue (codes "record") rows × HasValue (codes "features") rows
ExportMisfits rows misfit.FeaturesWithoutRecord = HasNone (codes "record") rows × IsValueOf (codes "as") rows (form_word Features)
ExportMisfits rows misfit.ContactsWithoutRecord = HasNone (codes "record") rows × IsValueOf (codes "as") rows (form_word Contacts)
ExportMisfits rows misfit.SignsWithoutCsv = (NamesNoSign rows → ⊥) × (IsValueOf (codes "as") rows (codes "csv") → ⊥)
ExportMisfits rows misfit.PartWithoutTable = IsFlagOf (codes "with-part") rows true × (IsValueOf (codes "as") rows (codes "csv") → ⊥)
    × (IsValueOf (codes "as") rows (codes "json") → ⊥)
ExportMisfits rows (misfit.ExportLacks is_named) = HasNone (codes "record") rows × HasNone (codes "features") rows
ExportMisfits rows _ = ⊥

-- the word names no separator or no decimal sign; or memory ran out
abbrev pub HasNoTable : List Row → WordsFault → Type 0
HasNoTable rows (NoValue wanted.Separator word) = IsValueOf (codes "separator") rows (string_bytes word) × IsNoSeparator (string_bytes word)
HasNoTable rows (NoValue wanted.Sign word) = IsValueOf (codes "decimal") rows (string_bytes word) × IsNoSign (string_bytes word)
HasNoTable rows Memory = Unit {0}
HasNoTable rows _ = ⊥

-- the options do not go together in this way; or memory ran out
abbrev pub IsMisfitOf : (Misfit → Type 0) → WordsFault → Type 0
IsMisfitOf fits (Misfits why) = fits why
IsMisfitOf fits Memory = Unit {0}
IsMisfitOf fits _ = ⊥

-- the options of an audit do not go together; or memory ran out
abbrev pub HasNoAudit : List Row → WordsFault → Type 0
HasNoAudit rows fault = IsMisfitOf (AuditMisfits rows) fault

-- the named word is no form; or memory ran out
abbrev pub HasNoForm : List Row → WordsFault → Type 0
HasNoForm rows (NoValue wanted.Form word) = IsValueOf (codes "as") rows (string_bytes word) × IsNoForm (string_bytes word)
HasNoForm rows Memory = Unit {0}
HasNoForm rows _ = ⊥

-- the options of an export are bad, or do not go together
abbrev pub HasNoExport : List Row → WordsFault → Type 0
HasNoExport rows fault = HasNoForm rows fault ⊎ HasNoTable rows fault ⊎ IsMisfitOf (ExportMisfits rows) fault

-- the options of a run that do not go together
abbrev pub RunMisfits : List Row → Misfit → Type 0
RunMisfits rows misfit.RecordWithoutPart = HasValue (codes "record") rows × HasNone (codes "part") rows
RunMisfits rows misfit.FolderWithoutPart = HasNone (codes "record") rows × HasValue (codes "records") rows × HasNone (codes "part") rows
RunMisfits rows misfit.PartWithoutRecord = HasValue (codes "part") rows × HasNone (codes "record") rows × HasNone (codes "records") rows
RunMisfits rows misfit.OperatorWithoutRecord = HasValue (codes "operator") rows × HasNone (codes "record") rows × HasNone (codes "records") rows
RunMisfits rows misfit.KeyWithoutRecord = HasValue (codes "seal-key") rows × HasNone (codes "record") rows × HasNone (codes "records") rows
RunMisfits rows _ = ⊥

-- the value of the option with this id is no number of seconds; or memory ran out
abbrev pub HasNoSeconds : Text → List Row → WordsFault → Type 0
HasNoSeconds id rows (NoValue (wanted.Seconds option) text) =
    (option.now ≡ id) × IsValueOf id rows (string_bytes text) × IsNoSeconds (string_bytes text)
HasNoSeconds id rows Memory = Unit {0}
HasNoSeconds id rows _ = ⊥

-- the value of the option with this id may not be the name of a part; or memory ran out
abbrev pub HasNoName : Text → List Row → WordsFault → Type 0
HasNoName id rows (NoValue (wanted.Name option) text) =
    (option.now ≡ id) × IsValueOf id rows (string_bytes text) × (IsPart (string_bytes text) → ⊥)
HasNoName id rows Memory = Unit {0}
HasNoName id rows _ = ⊥

-- a value of a run is bad
abbrev pub HasNoRunValue : List Row → WordsFault → Type 0
HasNoRunValue rows fault =
    HasNoSeconds (codes "timeout") rows fault ⊎ HasNoSeconds (codes "wait") rows fault ⊎ HasNoName (codes "part") rows fault
    ⊎ HasNoName (codes "operator") rows fault

-- likewise, or the options of a run do not go together
abbrev pub HasNoRun : List Row → WordsFault → Type 0
HasNoRun rows fault = HasNoRunValue rows fault ⊎ IsMisfitOf (RunMisfits rows) fault

-- the named word is no form of findings; or memory ran out
abbrev pub HasNoReview : List Row → WordsFault → Type 0
HasNoReview rows (NoValue wanted.FindingForm word) = IsValueOf (codes "as") rows (string_bytes word) × (string_bytes word ≢ codes "json")
HasNoReview rows Memory = Unit {0}
HasNoReview rows _ = ⊥

-- the named word is no form of a summary; or memory ran out
abbrev pub HasNoSummary : List Row → WordsFault → Type 0
HasNoSummary rows (NoValue wanted.SummaryForm word) =
    IsValueOf (codes "as") rows (string_bytes word) × (string_bytes word ≢ codes "text") × (string_bytes word ≢ codes "csv")
    × (string_bytes word ≢ codes "html")
HasNoSummary rows Memory = Unit {0}
HasNoSummary rows _ = ⊥

-- memory ran out
abbrev pub IsShort : WordsFault → Type 0
IsShort Memory = Unit {0}
IsShort _ = ⊥

-- why a subcommand asks for nothing: a value is bad, or its options do not go together; or memory ran out
abbrev pub IsRefusedOf : Text × List Row → WordsFault → Type 0
IsRefusedOf p fault = IsShort fault
    ⊎ ((p.0 ≡ codes "audit") × HasNoAudit p.1 fault)
    ⊎ ((p.0 ≡ codes "serve") × HasNoSeconds (codes "timeout") p.1 fault)
    ⊎ ((p.0 ≡ codes "run") × HasNoRun p.1 fault)
    ⊎ ((p.0 ≡ codes "explain") × HasNoTopic p.1 fault)
    ⊎ ((p.0 ≡ codes "export") × HasNoExport p.1 fault)
    ⊎ ((p.0 ≡ codes "review") × HasNoReview p.1 fault)
    ⊎ ((p.0 ≡ codes "watch") × HasNoSeconds (codes "timeout") p.1 fault)
    ⊎ ((p.0 ≡ codes "lower") × HasNoAnswer (named_answers p.1) fault)
    ⊎ ((p.0 ≡ codes "summary") × HasNoSummary p.1 fault)

-- likewise of the subcommand that was found
abbrev pub AsksForNothing : Option (Text × List Row) → WordsFault → Type 0
AsksForNothing found fault = IsSomeAnd found (λ p. IsRefusedOf p fault)

-- the words are a command line without a fault, and this is why the subcommand that they name asks for nothing
pub record HasNoValue (words : List Text) (fault : WordsFault) : Type 0 where
  pub faultless : fault_of whole_line words ≡ []
  pub named : AsksForNothing (subcommand_of whole_line words) fault

-- a byte that is no control character, and a word of such bytes
abbrev pub is_shown : ℕ → Bool
is_shown b = nat_le 32 b && not (b == 127)

abbrev pub is_plain : Text → Bool
is_plain word = list_all is_shown word

-- the first word that has a control character
abbrev pub controlled : List Text → Option Text
controlled [] = None
controlled (word ∷ words) = if is_plain word then controlled words else Some word

-- it is refused, and shown as people read it; or memory ran out
abbrev pub IsControl : Text → WordsFault → Type 0
IsControl word (Control shown) = string_bytes shown ≡ flat_map visible word
IsControl word Memory = Unit {0}
IsControl word _ = ⊥

-- only a fault of the words is called a bad line; else a word has a control character, a value is bad, or options do not go together
abbrev pub IsRefusal : List Text → WordsFault → Type 0
IsRefusal words (Line error) = HasFault words error
IsRefusal words Memory = Unit {0}
IsRefusal words (Control shown) = IsSomeAnd (controlled words) (λ word. IsControl word (Control shown))
IsRefusal words fault = HasNoValue words fault

-- what an error of `clap` is called: running out of memory exactly if it is that, and a bad line, with its text, if it is any other
abbrev pub IsCalled : Error → WordsFault → Type 0
IsCalled error (Line told) = (kind_of error ≢ OutOfMemory) × (told ≡ error)
IsCalled error Memory = kind_of error ≡ OutOfMemory
IsCalled error _ = ⊥
