-- What the code carries from statement to statement: no public clause cites it. specs/Lowering.antt looks back instead.
use Rattle.std.specs.Prelude.{◌≡◌, ◌≤◌, length, ℕ, ◌+◌, ◌==◌, nat_le, Bool, true, false, List, [], ◌∷◌, ◌++◌, Option, Some, None, OnOk, IfOk, IfErr, Result, Ok, Err, bytes_eq, if◌then◌else◌}
use Rattle.dmis_text.specs.declared.elements.Statement.{Statement}
use Rattle.fixed_um.specs.declared.frames.Frame.TheVariants.{Machine}
use Rattle.fixed_um.specs.declared.lengths.Point.{Point}
use Rattle.dmis_program.specs.Outcomes.{◌>>=◌}
use Rattle.dmis_program.specs.Keywords.{keyword_of}
use Rattle.dmis_program.specs.LookBack.{Context}
use Rattle.dmis_program.specs.Judging.{refused_by, settled, word_refusal}
use Rattle.dmis_program.specs.Meaning.{Meaning, closes}
use Rattle.dmis_program.specs.declared.faults.Refusal.{Refusal}
use Rattle.dmis_program.specs.declared.faults.Refusal.TheVariants.{NotDmis, TooLarge}
use Rattle.dmis_program.specs.declared.faults.StatementFault.{StatementFault}
use Rattle.dmis_program.specs.declared.faults.StatementFault.TheVariants as faults
use Rattle.dmis_program.specs.declared.faults.ProgramFault.{ProgramFault}
use Rattle.dmis_program.specs.declared.sayings.StatementMeaning.{StatementMeaning}
use Rattle.dmis_program.specs.declared.sayings.StatementMeaning.TheVariants as said
use Rattle.dmis_text.specs.Reading.{text_reading}
use Rattle.std.specs.List.{list_all}
use Rattle.std.specs.BTreeMap.{get_by, insert_entry, is_at}
use Rattle.std.specs.Cmp.Lexicographic.{slice_cmp}
use Rattle.std.specs.Map.{lookup}
use Rattle.std.specs.Option.{option_map, unwrap_or}
use Rattle.std.specs.Ordering.{nat_cmp}
use Rattle.program_flow.specs.LookBack.{Holds}
use Rattle.program_flow.specs.Numbers.{and_then}
use Rattle.program_flow.specs.Values.{Valuation, written}
use Rattle.program_flow.specs.Variables.{Entry}
use Rattle.program_flow.specs.declared.faults.ValueFault.{ValueFault}
use Rattle.program_flow.specs.declared.faults.ValueFault.TheVariants as value
use Rattle.program_lowering.specs.Prompts.{Answer}
use Rattle.program_lowering.specs.Flats.{flat, flat_line}
use Rattle.program_flow.specs.Flow.{carried}
use Rattle.program_lowering.specs.Labels.{first_parts}
use Rattle.program_lowering.specs.Cartesian.{Triple, cartesian, reference_after}
use Rattle.program_lowering.specs.Valued.{has_variables, held_or_none, valued, valued_params, feature_by}
use Rattle.program_lowering.specs.declared.cartesian.Reference.{Reference}
use Rattle.program_lowering.specs.EvenTouches.{Filling, bore_said, ends_block, feature_name, filling_of, from_centre, given_by, ends_nominals, to_centre, waiting_after}
use Rattle.program_lowering.specs.declared.even.Bore.{Bore}
use Rattle.program_lowering.specs.declared.even.Feature.{Feature}
use Rattle.program_lowering.specs.declared.even.Touch.{Touch}
use Rattle.program_lowering.specs.declared.even.Wanted.{Wanted}
use Rattle.program_lowering.specs.Manual.{manual_after}
use Rattle.program_lowering.specs.Inches.{inches_after, said_stated}
use Rattle.program_lowering.specs.OperatorTexts.{flat_meant, is_plain, marked, text_refusal}
use Rattle.program_lowering.specs.Lowering.{ended, ended_lines, flat_program, left_out_in, line_for, lowered_meaning, note_for, notes_of, passed_over}
use Rattle.program_lowering.specs.Lowered.{Refuses}
use Rattle.program_lowering.specs.StoredFrames.{by_frame, frame_end, frame_start}
use Rattle.program_lowering.specs.declared.above.Above.{Above}
use Rattle.tool_rack.specs.Setups.{has_name}
use Rattle.program_lowering.specs.declared.labels.Labels.{Labels}
use Rattle.program_lowering.specs.declared.lowering.Lowered.{Lowered}
use Rattle.program_lowering.specs.declared.values.FeatureLines.{FeatureLines}
use Rattle.program_lowering.specs.declared.values.Values.{Values}
use Rattle.program_lowering.specs.declared.words.Choices.{Choices}
use Rattle.program_lowering.specs.declared.words.Reason.{Reason}

-- before any statement
abbrev pub none_above : Above
none_above = record { number = 0; has_tool = false; wanted = None; touched = 0 }

-- some tool, or none
abbrev pub some_tool : Bool → Option (List ℕ)
some_tool true = Some []
some_tool false = None

-- what decides over the next statement, where the frame plays no part
abbrev pub context_of : Above → Context
context_of above = record {
  number = above.number;
  tool = some_tool above.has_tool;
  frame = Machine;
  wanted = above.wanted;
  touched = above.touched;
}

-- what it says there, where the unit is the inch or not, or the refusal that is due
unfoldable pub judged_in : List (List ℕ × Point) → Context → Bool → Statement → Result StatementMeaning Refusal
judged_in frames c inches s =
    if nat_le 10000 c.number then Err TooLarge else
    refused_by (word_refusal c.number c.wanted (keyword_of s.word) s.params)
    (said_stated inches (keyword_of s.word) s >>= settled frames c.tool c.wanted c.touched)

abbrev pub due : List (List ℕ × Point) → Above → Bool → Statement → Result StatementMeaning Refusal
due frames above inches s = judged_in frames (context_of above) inches s

-- what is above the statement after one that says this
abbrev pub one_more : Above → Above
one_more above = record above { number = above.number + 1 }

abbrev pub after_said : Above → StatementMeaning → Above
after_said above (said.Begins name count) = record (one_more above) { wanted = Some count; touched = 0 }
after_said above (said.Touches target direction) = record (one_more above) { touched = above.touched + 1 }
after_said above said.Ends = record (one_more above) { wanted = None; touched = 0 }
after_said above (said.Selects name) = record (one_more above) { has_tool = true }
after_said above _ = one_more above

-- the line of the last statement, and how often each line was passed
pub record PassCounts : Type 0 where
  pub last : Option ℕ
  pub counts : List (ℕ × ℕ)

abbrev pub none_passed : PassCounts
none_passed = record { last = None; counts = [] }

abbrev pub is_last : Option ℕ → ℕ → Bool
is_last None line = false
is_last (Some last) line = line == last

unfoldable pub pass_of : PassCounts → ℕ → ℕ
pass_of p line = unwrap_or (lookup (is_at (nat_cmp line)) p.counts) 0

unfoldable pub passed : PassCounts → ℕ → PassCounts
passed p line = if is_last p.last line then p else record { last = Some line; counts = insert_entry nat_cmp p.counts line (pass_of p line + 1) }

-- what is above, and what was written so far
pub record Carried : Type 0 where
  pub above : Above
  pub inches : Bool
  pub manual : Bool
  pub text : List ℕ
  pub notes : List ℕ
  pub frames : List ℕ
  pub since : Option ℕ
  pub selected : Option (List ℕ)
  pub used : List (List ℕ)
  pub passes : PassCounts

abbrev pub nothing_carried : Carried
nothing_carried = record {
  above = none_above;
  inches = false;
  manual = false;
  text = [];
  notes = [];
  frames = [];
  since = None;
  selected = None;
  used = [];
  passes = none_passed;
}

-- at a statement on a line
abbrev pub entered : Carried → ℕ → Carried
entered c line = record c { passes = passed c.passes line }

-- after a statement that is left out, and after one that says this
abbrev pub noted : Carried → Statement → Option Reason → Carried
noted c s reason = record c { manual = manual_after c.manual s; notes = c.notes ++ note_for s reason }

-- the notes on frames, of which the last is open: that many touches have referred to it
abbrev pub frames_closed : List ℕ → Option ℕ → List ℕ
frames_closed frames None = frames
frames_closed frames (Some touches) = frames ++ frame_end touches

abbrev pub frames_after : List ℕ → Option ℕ → ℕ → StatementMeaning → List ℕ
frames_after frames since line (said.Recalls name) = frames_closed frames since ++ frame_start line name
frames_after frames since line _ = frames

abbrev pub one_touch : Option ℕ → Option ℕ
one_touch None = None
one_touch (Some touches) = Some (touches + 1)

abbrev pub since_after : Option ℕ → StatementMeaning → Option ℕ
since_after since (said.Recalls name) = Some 0
since_after since (said.Touches target direction) = one_touch since
since_after since _ = since

-- the frames that touches refer to, and the one that is selected if no touch has referred to it since
abbrev pub with_frame : List (List ℕ) → Option (List ℕ) → List (List ℕ)
with_frame used None = used
with_frame used (Some name) = used ++ name ∷ []

abbrev pub used_after : Option (List ℕ) → List (List ℕ) → StatementMeaning → List (List ℕ)
used_after selected used (said.Touches target direction) = with_frame used selected
used_after selected used _ = used

abbrev pub selected_after : Option (List ℕ) → StatementMeaning → Option (List ℕ)
selected_after selected (said.Recalls name) = Some name
selected_after selected (said.Touches target direction) = None
selected_after selected _ = selected

abbrev pub followed : Carried → Statement → StatementMeaning → Carried
followed c s meaning = record {
  above = after_said c.above meaning;
  inches = inches_after c.inches s;
  manual = manual_after c.manual s;
  text = c.text ++ ended_lines (line_for s.line (pass_of c.passes s.line) (flat_meant s meaning));
  notes = c.notes ++ note_for s (passed_over s (Ok meaning));
  frames = frames_after c.frames c.since s.line meaning;
  since = since_after c.since meaning;
  selected = selected_after c.selected meaning;
  used = used_after c.selected c.used meaning;
  passes = c.passes;
}

-- the first statement is never left out
abbrev pub left_out_after : Choices → ℕ → Bool → Statement → Option Reason
left_out_after choices number manual s = if number == 0 then None else left_out_in choices manual s

abbrev pub judged_next : List (List ℕ × Point) → Carried → Statement → Result StatementMeaning Refusal
judged_next frames c s = refused_by (text_refusal s) (due frames c.above c.inches s)

abbrev pub stepped : List (List ℕ × Point) → Carried → Statement → Statement → Option Reason → Result (Bool × Carried) Refusal
stepped frames c s counted (Some reason) = Ok (false, noted c s (Some reason))
stepped frames c s counted None = judged_next frames c counted >>= λ meaning. Ok (closes meaning, followed c counted meaning)

-- what is due for a statement that selects a stored frame
abbrev pub frame_due : List (List ℕ × Point) → Above → List ℕ → Result StatementMeaning Refusal
frame_due frames above name = if nat_le 10000 above.number then Err TooLarge else if above.number == 0 then Err NotDmis else
    settled frames (some_tool above.has_tool) above.wanted above.touched (said.Recalls name)

-- after a statement: whether the program ends there, and what is carried on; or the refusal that is due
abbrev pub step : List (List ℕ × Point) → Choices → Carried → Statement → Result (Bool × Carried) Refusal
step frames choices c s = stepped frames (entered c s.line) s (by_frame choices (has_name c.used) s) (left_out_after choices c.above.number (manual_after c.manual s) s)

-- what a call gives and leaves is what is due, unless memory ran out
abbrev pub GivesStep : Result Bool StatementFault → Carried → Result (Bool × Carried) Refusal → Type 0
GivesStep (Ok closed) new due = due ≡ Ok (closed, new)
GivesStep (Err (faults.Refused refusal)) new due = due ≡ Err refusal
GivesStep (Err faults.Memory) new due = Unit {0}

-- the variables that the code carries are those that were declared and assigned to
pub record Knows (above : List Statement) (entries : List Entry) (declared : Bool) : Type 0 where
  pub holds : Holds above entries
  pub some : declared ≡ has_variables above

-- and the parts those by which names were first composed
abbrev pub parts_in : Labels → List ℕ → Option (List ℕ)
parts_in labels name = option_map (λ p. p.items) (get_by (λ k. slice_cmp nat_cmp name k.items) labels.parts)

abbrev pub KnowsParts : List Statement → Labels → Type 0
KnowsParts above labels = (name : List ℕ) → parts_in labels name ≡ first_parts above name

abbrev pub KnowsAll : List Statement → Values → Type 0
KnowsAll above values = Knows above values.variables values.declared × KnowsParts above values.labels

-- a parameter with its values at the end of a text, and whether it is plain; and several, each after its mark
abbrev pub pushed : List ℕ → Result (List ℕ) ValueFault → Result (List ℕ × Bool) ValueFault
pushed old made = and_then made (λ q. Ok (old ++ q, is_plain false q))

abbrev pub all_pushed : List ℕ → ℕ → Result (List (List ℕ)) ValueFault → Result (List ℕ × Bool) ValueFault
all_pushed old mark made = and_then made (λ qs. Ok (old ++ marked mark qs, list_all (is_plain false) qs))

abbrev pub Pushes : Result Bool ValueFault → List ℕ → Result (List ℕ × Bool) ValueFault → Type 0
Pushes result new due = IfOk result (λ plain. due ≡ Ok (new, plain)) × IfErr result (λ fault. (fault ≡ value.Memory → ⊥) → due ≡ Err fault)

-- parameters that stay as they are, with their values too, and are read back so from this much room
pub record Stay (values : Valuation) (room : ℕ) (params : List (List ℕ)) : Type 0 where
  pub same : valued_params values params ≡ Ok params
  pub plain : list_all (is_plain false) params ≡ true
  pub short : (mark : ℕ) → length (marked mark params) ≤ room

-- an `ASSIGN` that was carried out, by the values then
abbrev pub pair_of : Bool → Valuation → Option (List ℕ) → Result (List (List ℕ)) ValueFault
pair_of false values label = Err value.UnknownName
pair_of true values None = Err value.UnknownName
pair_of true values (Some name) = and_then (values name) (λ v. Ok (name ∷ (written v ∷ [])))

-- the line from which a statement is read back with its values
abbrev pub line_with : List ℕ → Result (List (List ℕ)) ValueFault → List ℕ
line_with word made = ended (flat_line (flat word (held_or_none word made)) 1)

abbrev pub line_if : List ℕ → Option (Result (List (List ℕ)) ValueFault) → Option (List ℕ)
line_if word made = option_map (line_with word) made

-- a line gives one statement, as if it were the first; or there is none, and a statement stays as it is
pub record IsRead (line : List ℕ) (s : Statement) : Type 0 where
  pub only : text_reading line ≡ record { statements = s ∷ []; fault = None }

abbrev pub GivesLine : Option (List ℕ) → Statement → Statement → Type 0
GivesLine None s v = v ≡ s
GivesLine (Some line) s v = IsRead line (record v { line = 1 }) × (v.line ≡ s.line)

-- the lines from which a `FEAT` with its values is read back: its label as a word, and the rest; or there are none, and it stays as the other is
pub record IsFeature (label line : List ℕ) (s v : Statement) : Type 0 where
  pub name : List ℕ
  pub params : List (List ℕ)
  pub named : IsRead label (record { line = 1; label = None; word = name; params = [] })
  pub read : IsRead line (record { line = 1; label = None; word = s.word; params = params })
  pub is : v ≡ record { line = s.line; label = Some name; word = s.word; params = params }

abbrev pub AreRead : FeatureLines → Type 0
AreRead lines = ((s : Statement) × IsRead lines.label.items s) × ((s : Statement) × IsRead lines.line.items s)

abbrev pub named_as : Statement → Statement → Option (List ℕ) → Result (List (List ℕ)) ValueFault → Statement
named_as s other None made = other
named_as s other (Some label) made = feature_by s label made

abbrev pub GivesFeature : Option FeatureLines → Statement → Statement → Statement → Type 0
GivesFeature None s other v = v ≡ other
GivesFeature (Some lines) s other v = IsFeature lines.label.items lines.line.items s v

-- what is seen of the statements above for touches from the nominal; the features are in the order of the text
pub record Seen : Type 0 where
  pub waiting : Option Wanted
  pub features : List Feature
  pub manual : Bool

abbrev pub nothing_seen : Seen
nothing_seen = record { waiting = None; features = []; manual = false }

abbrev pub with_feature : List Feature → Option (List ℕ) → Option Bore → List Feature
with_feature features None bore = features
with_feature features (Some name) bore = features ++ record { name = name; bore = bore } ∷ []

abbrev pub features_after : List Feature → Statement → List Feature
features_after features s = if ends_nominals (keyword_of s.word) s then [] else with_feature features (feature_name s.label) (bore_said s)

abbrev pub seen_after : Seen → Statement → Seen
seen_after seen s = record {
  waiting = waiting_after seen.waiting (keyword_of s.word) s;
  features = features_after seen.features s;
  manual = manual_after seen.manual s;
}

abbrev pub seen_by : Choices → Seen → Statement → Seen
seen_by choices seen s = if choices.even_touches then seen_after seen s else seen

-- the bore of a name by the last feature that has it
abbrev pub latest : List ℕ → Option Bore → List Feature → Option Bore
latest name found [] = found
latest name found (f ∷ features) = latest name (if bytes_eq f.name name then f.bore else found) features

abbrev pub bore_among : List Feature → List ℕ → Option Bore
bore_among features name = latest name None features

-- what is given before a statement
abbrev pub filling_due : Seen → Statement → Option Filling
filling_due seen s = if ends_block seen.manual s then filling_of seen.waiting (bore_among seen.features) else None

abbrev pub touches_due : Choices → Seen → Statement → List Statement
touches_due choices seen s = if choices.even_touches then given_by s.line (filling_due seen s) else []

-- several steps, up to the one that closes the program
abbrev pub unless_closed : Result (Bool × Carried) Refusal → (Carried → Result (Bool × Carried) Refusal) → Result (Bool × Carried) Refusal
unless_closed (Err refusal) next = Err refusal
unless_closed (Ok (true, c)) next = Ok (true, c)
unless_closed (Ok (false, c)) next = next c

abbrev pub all_steps : List (List ℕ × Point) → Choices → Carried → List Statement → Result (Bool × Carried) Refusal
all_steps frames choices c [] = Ok (false, c)
all_steps frames choices c (s ∷ statements) = unless_closed (step frames choices c s) (λ d. all_steps frames choices d statements)

abbrev pub touch_steps : List (List ℕ × Point) → Choices → ℕ → Triple → Carried → List Touch → Result (Bool × Carried) Refusal
touch_steps frames choices line end c [] = step frames choices c (to_centre line end)
touch_steps frames choices line end c (t ∷ touches) =
    unless_closed (all_steps frames choices c (from_centre line t)) (λ d. touch_steps frames choices line end d touches)

-- a statement after what is given before it
abbrev pub touched_step : List (List ℕ × Point) → Choices → Seen → Carried → Statement → Result (Bool × Carried) Refusal
touched_step frames choices seen c s = all_steps frames choices c (touches_due choices seen s ++ s ∷ [])

-- what a call gives and leaves by a step, unless memory ran out: for a statement with Cartesian coordinates, to which the next ones refer,
-- and of which touches from the nominal see something; and for one that has its values before, and is carried out
abbrev pub TakesCartesian : Result Bool StatementFault → Carried → Reference → Reference → Seen → Statement
    → (Statement → Result (Bool × Carried) Refusal) → (Statement → Seen) → Type 0
TakesCartesian result new before after now s due seen = GivesStep result new (due (cartesian before s))
    × (OnOk result (after ≡ reference_after before (cartesian before s)) × OnOk result (now ≡ seen (cartesian before s)))

abbrev pub TakesValued : Result Bool StatementFault → Carried → Reference → Reference → Seen → Values → List Statement → Statement
    → (Statement → Result (Bool × Carried) Refusal) → (Statement → Seen) → Type 0
TakesValued result new before after now values above s due seen =
    TakesCartesian result new before after now (valued above s) due seen × OnOk result (KnowsAll (carried above s) values)

-- the lines of the flat program of a text, and what was decided; or why there are none
pub record AreLines (frames : List (List ℕ × Point)) (choices : Choices) (answers : List Answer) (source text notes : List ℕ) : Type 0 where
  pub meaning : Meaning
  pub accepted : lowered_meaning frames choices answers source ≡ Ok meaning
  pub flat : text ≡ flat_program choices answers source
  pub notes_are : notes ≡ notes_of choices answers source

abbrev pub GivesLines : List (List ℕ × Point) → Choices → List Answer → List ℕ → Result Lowered ProgramFault → Type 0
GivesLines frames choices answers source (Ok lines) = AreLines frames choices answers source lines.text.items lines.notes.items
GivesLines frames choices answers source (Err fault) = Refuses frames choices answers source fault
