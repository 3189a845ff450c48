-- What a run's client and its record are after any answers, and what the record's file has (this profile).
use Rattle.std.specs.Prelude.{◌≡◌, ◌≤◌, ◌&&◌, ◌||◌, ◌⊎◌, ◌==◌, ⊤, ℕ, Bool, true, false, not, Result, Ok, Err, if◌then◌else◌, Option, None, Some, is_some, string_bytes, codes, List, [], ◌∷◌, ◌++◌, ◌<◌, length, map, take, drop}
use Rattle.std.specs.Str.{bytes_eq}
use Rattle.client_core.specs.Calls.{Call, Abort, Send as Sends, behind_call, done_by, Leave as Leaves}
use Rattle.contact_ledger.specs.ContactTexts.{contacts_text}
use Rattle.contact_ledger.specs.declared.acts.Act.{Act}
use Rattle.contact_ledger.specs.FeatureTexts.{features_text, header}
use Rattle.contact_ledger.specs.declared.features.Feature.{Feature}
use Rattle.line_framing.specs.Framing.{IsLineDue}
use Rattle.line_framing.specs.Next.{next_of}
use Rattle.link_world.specs.Reports.{report_text}
use Rattle.link_world.specs.Showing.{IsRunCall}
use Rattle.protocol_model.specs.Ends.{ClientEnd}
use Rattle.protocol_model.specs.declared.states.State.TheVariants as state
use Rattle.record_text.specs.Entries.{error_note}
use Rattle.record_text.specs.Notes.{AreSaid, IsNoteText, Says, is_error}
use Rattle.record_text.specs.Seals.{seal_of}
use Rattle.record_text.specs.Growths.{Growth, with_notes}
use Rattle.record_text.specs.declared.notes.Note.TheVariants.{Sealed}
use Rattle.record_text.specs.Recordings.{Pair, told_unless}
use Rattle.record_text.specs.Told.{numbered}
use Rattle.effects.specs.declared.vocabulary.Growth as file
use Rattle.effects.specs.declared.vocabulary.Growth.TheVariants as growth
use Rattle.effects.specs.declared.vocabulary.Peer.TheVariants.{Server}
use Rattle.effects.specs.Effects.{Ask, Byte, Exists, Make, Discard, Begin, Append, Keep, Stands, Replace, Extend, Add, Stamp, Now, Sleep, Connect, Limit, Receive, Send, Close, Leave, Print, Say, Exit}
use Rattle.effects.specs.Effects.{Reply, Done, Bytes, Found, Short}
use Rattle.order_parts.specs.Ends.{end_shown}
use Rattle.order_parts.specs.Kept.{IsFeaturesText}
use Rattle.run_session.specs.Errors as errors
use Rattle.run_session.specs.Errors.{noted_by, Records, Talk}
use Rattle.run_session.specs.Evidence.{Course, Notes, can_note, can_say, ended, given_due, has_due, is_over, made, passed}
use Rattle.run_session.specs.Statuses.{first_last, is_shown, late, unwritten, has_failed, is_complete, of_end, of_files, of_unbegun}
use Rattle.run_session.specs.declared.runs.Kept as which
use Rattle.run_session.specs.declared.runs.Kept.TheVariants as whole
use Rattle.run_session.specs.declared.runs.Output.{Output}
use Rattle.run_session.specs.declared.runs.Said.{Said}
use Rattle.run_session.specs.declared.runs.Said.TheVariants as say
use Rattle.run_session.specs.declared.runs.Run.{Run}
use Rattle.run_session.specs.declared.runs.Written.{Written}
use Rattle.run_session.specs.declared.stages.Stage.{Stage}
use Rattle.run_session.specs.declared.stages.Stage.TheVariants as stage

-- each of these errors of a server has a line in a record
abbrev pub HaveLines : List (List ℕ) → Type 0
HaveLines errors = AreSaid (map error_note errors)

-- how many of its plan's last commands a run holds back until its operator has confirmed the next of these pauses; none after the last
abbrev pub held : List ℕ → ℕ
held [] = 0
held (count ∷ pauses) = count

-- what a run may have done since a moment, besides what it does in any case: its client aborted, and its record got notes
pub record May : Type 0 where
  pub aborts : Bool
  pub notes : Bool

abbrev pub anything : May
anything = record { aborts = true; notes = true }

abbrev pub nothing : May
nothing = record { aborts = false; notes = false }

-- a whole line has come that the client has not read
abbrev pub HasLine : ClientEnd → Type 0
HasLine e = IsLineDue (next_of e.input.rest)

-- a command is sent only if it is not held back and each line that has come is read, and an abort only where aborts are allowed
abbrev pub IsFree : (aborts : Bool) → ℕ → ClientEnd → Call → Type 0
IsFree aborts count e Sends = (count < length e.client.table.tally.unsent) × (HasLine e → ⊥)
IsFree aborts count e Abort = aborts ≡ true
IsFree aborts count e call = ⊤

-- a client on its connection and its record, with the pauses that are to come and what is known of its server's errors, from what they were
-- at first: the client makes calls of its own, and sends nothing that is held back, or while a line that has come is not read; what it writes is noted, and what it is fed is heard; the
-- record gets the lines of what the client has counted, unless memory runs out for them, those of the errors that were heard since, and notes
-- that are no errors, where notes are allowed; of errors nothing is known once memory has run out for them; and a pause ends only once all
-- that stands above it is counted
pub data Ran (may : May) (first : Pair) (begun : Talk) : List ℕ → Pair → Talk → Type 0 where
  begins : (pauses : List ℕ) → Ran may first begun pauses first begun
  calls : (pauses : List ℕ) (p : Pair) (t u : Talk) (call : Call) → Ran may first begun pauses p t → IsRunCall call
      → IsFree may.aborts (held pauses) p.end call → errors.Follows call p.end t u
      → Ran may first begun pauses (record { end = behind_call call p.end; recording = p.recording }) u
  tells : (pauses : List ℕ) (p : Pair) (t u : Talk) (lacks : Bool) (errors : List (List ℕ)) → Ran may first begun pauses p t
      → Records errors t u → HaveLines errors
      → Ran may first begun pauses (record {
        end = p.end;
        recording = with_notes (map error_note errors) (told_unless lacks p.end p.recording);
      }) u
  says : (pauses : List ℕ) (p : Pair) (t : Talk) (said : Says) → Ran may first begun pauses p t → IsNoteText said.0 said.1
      → is_error said.0 ≡ false → may.notes ≡ true
      → Ran may first begun pauses (record { end = p.end; recording = with_notes (said ∷ []) p.recording }) t
  forgets : (pauses : List ℕ) (p : Pair) (t u : Talk) → Ran may first begun pauses p t → u.lost ≡ true
      → Ran may first begun pauses p u
  confirms : (count : ℕ) (pauses : List ℕ) (p : Pair) (t : Talk) → Ran may first begun (count ∷ pauses) p t
      → length p.end.client.table.tally.todo ≤ count → Ran may first begun pauses p t

-- what is known of the record's file, the pauses that are to come, and what was noted
pub record Book : Type 0 where
  pub lost : Bool  -- whether it could not be kept
  pub filed : ℕ  -- how many bytes of the record's text it has
  pub settled : ℕ  -- how many features are complete in what no crash takes away
  pub pauses : List ℕ  -- how many commands are held back at each pause that is to come
  pub keeps : Bool  -- whether there is a record
  pub short : Bool  -- whether memory has run out, and all that is left is to leave the connection, if there is one, and to say so
  pub spent : Bool  -- whether it has run out
  pub key : Option (List ℕ)  -- that of the record's seals, if it is sealed
  pub noted : Notes

-- what is known of the files besides the record, and of the report
pub record Marks : Type 0 where
  pub filed : ℕ  -- how many bytes of its text the file of contacts has
  pub lost : Bool  -- whether that could not be kept
  pub listed : ℕ  -- how many features are in their file, forced to the device
  pub lists : Bool  -- whether that file grows, and could be kept
  pub printed : Option Bool  -- whether the report was printed, once that was asked for
  pub written : Written  -- which files have their whole text at the end

abbrev pub none_written : Written
none_written = record { features = None; kept = None; contacts = None }

-- a file has its whole text, or could not be written
abbrev pub with_written : which.Kept → (done : Bool) → Written → Written
with_written whole.Features done w = record w { features = Some done }
with_written whole.Record done w = record w { kept = Some done }
with_written whole.Contacts done w = record w { contacts = Some done }

-- the files that are named
pub record Files : Type 0 where
  pub features : Option Output
  pub kept : Option Output  -- the record
  pub contacts : Option Output

abbrev pub files_of : Run → Files
files_of run = record { features = run.features; kept = run.record; contacts = run.contacts }

abbrev pub file_of : Files → which.Kept → Option Output
file_of files whole.Features = files.features
file_of files whole.Record = files.kept
file_of files whole.Contacts = files.contacts

-- its name, and that of the file next to it
abbrev pub name_of : Option Output → List ℕ
name_of None = []
name_of (Some file) = string_bytes file.name

abbrev pub beside_of : Option Output → List ℕ
beside_of None = []
beside_of (Some file) = string_bytes file.beside

-- the file of reported contacts
pub record Reports : Type 0 where
  pub named : Bool  -- whether there is one
  pub number : ℕ  -- of the client's connection
  pub text : List ℕ  -- all that it is to have
  pub told : ℕ  -- how many of the acts that the client has counted on its connection are in that
  pub marks : Marks

pub record State : Type 0 where
  pub stage : Stage
  pub pair : Pair
  pub book : Book
  pub reports : Reports
  pub talk : Talk
  pub course : Course
  pub files : Files
  pub begun : Bool  -- whether its client has come to the connection
  pub unbegun : Bool  -- whether the stop file was there before its server was called
  pub text : List ℕ  -- what is printed at the end
  pub list : List ℕ  -- what the features file is to have
  pub held : ℕ  -- how many features it has then
  pub shown : ℕ  -- how many features were shown as complete
  pub said : List Said  -- what is named as having failed, in what is said last
  pub looks : ℕ  -- how often it has looked whether a server that is left leaves, too

-- the text of the acts that were reported before, and then of those that a client has counted on its connection, as many as are known
abbrev pub reported_text : List (ℕ × Act) → (number told : ℕ) → List Act → List ℕ
reported_text before number told counted = contacts_text (before ++ numbered number (take told counted))

-- that is what is to be in the file of contacts
abbrev pub HasReported : List (ℕ × Act) → Pair → Reports → Type 0
HasReported before p r = (r.told ≤ length p.end.client.table.tally.counted)
    × (r.text ≡ reported_text before r.number r.told p.end.client.table.tally.counted)

-- before the client has counted any
abbrev pub first_reports : (named lists : Bool) (number : ℕ) → List (ℕ × Act) → Reports
first_reports named lists number before = record {
  named = named;
  number = number;
  text = contacts_text before;
  told = 0;
  marks = record {
    filed = length (contacts_text before);
    lost = false;
    listed = 0;
    lists = lists;
    printed = None;
    written = none_written;
  };
}

-- a client and its record at first, the acts that were reported before, and what is known of the files
pub record Origin : Type 0 where
  pub may : May
  pub first : Pair
  pub begun : Talk
  pub before : List (ℕ × Act)
  pub marks : Marks

pub record IsRun (w : Origin) (pauses : List ℕ) (p : Pair) (t : Talk) (r : Reports) : Type 0 where
  pub ran : Ran w.may w.first w.begun pauses p t
  pub reported : HasReported w.before p r
  pub same : r.marks ≡ w.marks

abbrev pub IsRunOf : Origin → State → Type 0
IsRunOf w s = IsRun w s.book.pauses s.pair s.talk s.reports

-- both are later so, and nothing else is known of the files
abbrev pub Keeps : State → State → Type 0
Keeps s t = (w : Origin) → IsRunOf w s → IsRunOf w t

-- likewise of a run whose record may have got notes since
abbrev pub KeepsNoting : State → State → Type 0
KeepsNoting s t = (w : Origin) → w.may.notes ≡ true → IsRunOf w s → IsRunOf w t

-- what a run begins with, besides its client
pub record Start : Type 0 where
  pub growth : Growth
  pub files : Files
  pub pauses : List ℕ
  pub keeps : Bool
  pub reports : Reports
  pub talk : Talk
  pub key : Option (List ℕ)
  pub notes : Option (List Says)  -- what is noted as the connection is made, if there is a record

-- what the record's file has: with what may not be on the device, and what no crash takes away; and what was answered of the others
pub record Outside : Type 0 where
  pub file : List ℕ
  pub safe : List ℕ
  pub marks : Marks

-- what the file lacks of the record's text, if it could be kept so far
abbrev pub lacking : State → List ℕ
lacking s = if s.book.lost then [] else drop s.book.filed s.pair.recording.text

-- what a stage writes: to the record's file, which is forced to the device or not; to that of contacts; to that of features, which is made
-- first, and then gets its name; the report; and a whole file, unless the record stands already
pub data Write : Type 0 where
  Record : (forced : Bool) → Write
  Grown : Write
  Made : Write
  Named : Write
  Listed : Write
  Report : Write
  Stood : Write
  Whole : which.Kept → Write

abbrev pub writes : Stage → Option Write
writes stage.Recording = Some (Record false)
writes stage.Settling = Some (Record true)
writes stage.Reporting = Some Grown
writes stage.MakingFeatures = Some Made
writes stage.BeginningFeatures = Some Named
writes stage.Listing = Some Listed
writes stage.Printing = Some Report
writes stage.Standing = Some Stood
writes stage.ReplacingFeatures = Some (Whole whole.Features)
writes stage.ReplacingRecord = Some (Whole whole.Record)
writes stage.ReplacingContacts = Some (Whole whole.Contacts)
writes s = None

-- the file that a stage replaces
abbrev pub replaced : Stage → which.Kept
replaced stage.ReplacingFeatures = whole.Features
replaced stage.ReplacingRecord = whole.Record
replaced s = whole.Contacts

-- the file after an answer; one that was not written has the first bytes of what was to be added, n of them
abbrev pub appended : ℕ → List ℕ → Reply → Outside → Outside
appended n text Done o = record o { file = o.file ++ text }
appended n text reply o = record o { file = o.file ++ take n text }

abbrev pub kept : ℕ → List ℕ → Reply → Outside → Outside
kept n text Done o = record o { file = o.file ++ text; safe = o.file ++ text }
kept n text reply o = record o { file = o.file ++ take n text }

abbrev pub outcome_by : ℕ → Option Write → List ℕ → Reply → Outside → Outside
outcome_by n None text reply o = o
outcome_by n (Some (Record false)) text reply o = appended n text reply o
outcome_by n (Some (Record true)) text reply o = kept n text reply o
outcome_by n (Some Grown) text reply o = o
outcome_by n (Some Made) text reply o = o
outcome_by n (Some Named) text reply o = o
outcome_by n (Some Listed) text reply o = o
outcome_by n (Some Report) text reply o = o
outcome_by n (Some Stood) text reply o = o
outcome_by n (Some (Whole which)) text reply o = o

abbrev pub is_done : Reply → Bool
is_done Done = true
is_done reply = false

-- a file that is made may be there already
abbrev pub is_made : Reply → Bool
is_made Found = true
is_made reply = is_done reply

abbrev pub did : Option Write → Reply → Bool
did None reply = is_done reply
did (Some (Record forced)) reply = is_done reply
did (Some Grown) reply = is_done reply
did (Some Made) reply = is_made reply
did (Some Named) reply = is_done reply
did (Some Listed) reply = is_done reply
did (Some Report) reply = is_done reply
did (Some Stood) reply = is_done reply
did (Some (Whole kept)) reply = is_done reply

-- what is known after something was written, or not
abbrev pub marked : Option Write → (done : Bool) → State → Marks → Marks
marked None done s m = m
marked (Some (Record forced)) done s m = m
marked (Some Grown) true s m = record m { filed = length s.reports.text }
marked (Some Grown) false s m = record m { lost = true }
marked (Some Made) true s m = record m { listed = s.held }
marked (Some Made) false s m = m
marked (Some Named) true s m = m
marked (Some Named) false s m = record m { lists = false }
marked (Some Listed) true s m = record m { listed = s.held }
marked (Some Listed) false s m = record m { lists = false }
marked (Some Report) done s m = record m { printed = Some done }
marked (Some Stood) true s m = record m { written = with_written whole.Record true m.written }
marked (Some Stood) false s m = m
marked (Some (Whole kept)) done s m = record m { written = with_written kept done m.written }

abbrev pub marked_at : State → Reply → Marks → Marks
marked_at s reply m = marked (writes s.stage) (did (writes s.stage) reply) s m

abbrev pub with_marks : Marks → State → State
with_marks m s = record s { reports = record (s.reports) { marks = m } }

abbrev pub answered : State → Reply → State
answered s reply = with_marks (marked_at s reply s.reports.marks) s

abbrev pub outcome : ℕ → State → Reply → Outside → Outside
outcome n s reply o = record (outcome_by n (writes s.stage) (lacking s) reply o) { marks = marked_at s reply o.marks }

-- what no crash takes away has all that the record had at some moment of the run, when that many features were complete
pub record IsSafe (first : Pair) (count : ℕ) (safe : List ℕ) : Type 0 where
  pub moment : Pair
  pub pauses : List ℕ
  pub begun : Talk
  pub talk : Talk
  pub ran : Ran anything first begun pauses moment talk
  pub rest : List ℕ
  pub text : moment.recording.text ++ rest ≡ safe
  pub features : count ≤ moment.recording.telling.counted.features

-- what holds before each effect: the client and the record are those of a run that has begun; the file has the first bytes of the record's
-- text, as many as are known unless it could not be kept; and the features that count as settled are safe
pub record IsKept (first : Pair) (before : List (ℕ × Act)) (s : State) (o : Outside) : Type 0 where
  pub begun : Talk
  pub ran : IsRunOf (record { may = anything; first = first; begun = begun; before = before; marks = o.marks }) s
  pub front : (rest : List ℕ) × (o.file ++ rest ≡ s.pair.recording.text)
  pub filed : s.book.lost ≡ false → length o.file ≡ s.book.filed
  pub within : (rest : List ℕ) × (o.safe ++ rest ≡ o.file)
  pub safe : IsSafe first s.book.settled o.safe

-- it holds after an answer, too, however much of a text that was not written the file has
abbrev pub GoesOn : State → Reply → State → Type 0
GoesOn s reply t = (first : Pair) (before : List (ℕ × Act)) (o : Outside) (n : ℕ) → IsKept first before s o
    → IsKept first before t (outcome n s reply o)

-- what is known of the file once it has all of the record's text, and that is forced or not
abbrev pub filed_by : Option Write → State → Book
filed_by (Some (Record true)) s = record (s.book) {
  filed = length s.pair.recording.text;
  settled = s.pair.recording.telling.counted.features;
}
filed_by w s = record (s.book) { filed = length s.pair.recording.text }

abbrev pub is_record : Option Write → Bool
is_record (Some (Record forced)) = true
is_record w = false

abbrev pub filed : State → Book
filed s = filed_by (writes s.stage) s

-- what is known of the file alone
abbrev pub of_file : Book → Book
of_file b = record b { pauses = []; short = false; spent = false }

-- an answer by which the operator confirms a pause: the end of an empty line
abbrev pub confirms_pause : Stage → Reply → Bool
confirms_pause stage.Awaiting (Bytes bytes) = bytes_eq bytes (10 ∷ [])
confirms_pause stage.Returning (Bytes bytes) = bytes_eq bytes (10 ∷ [])
confirms_pause st reply = false

-- any other than one that is awaited, or memory that has run out: after it a CR may come first
abbrev pub declines : (first : Bool) → Reply → Bool
declines first (Bytes bytes) = not (bytes_eq bytes (10 ∷ []) || (first && bytes_eq bytes (13 ∷ [])))
declines first Short = false
declines first reply = true

-- the stop file is there before the server is called
abbrev pub is_unbegun : Stage → Reply → Bool
is_unbegun stage.Peeking Found = true
is_unbegun st reply = false

-- an answer that stops the run: the stop file is there, or the operator does not confirm a pause
abbrev pub is_stop : Stage → Reply → Bool
is_stop stage.Checking Found = true
is_stop stage.Awaiting reply = declines true reply
is_stop stage.Returning reply = declines false reply
is_stop st reply = false

-- a note comes to a record, if it can
abbrev pub with_note : (can : Bool) → Says → Growth → Growth
with_note can said g = if can then with_notes (said ∷ []) g else g

-- notes do, one after another
abbrev pub with_said : List Says → Growth → Growth
with_said [] g = g
with_said (said ∷ more) g = with_said more (with_note (can_note said) said g)

-- the seal of all of its text, once the run on the connection is over; without a key none
abbrev pub seal_if : (over : Bool) → Option (List ℕ) → Growth → Growth
seal_if over None g = g
seal_if over (Some key) g =
    if over then with_note (can_say (Sealed, seal_of key g.text)) (Sealed, seal_of key g.text) g else g

-- some notes do that are no errors; and nothing else
pub record AddsNotes (g h : Growth) : Type 0 where
  pub keeps : (may : May) (first : Pair) (begun : Talk) (pauses : List ℕ) (e : ClientEnd) (t : Talk) → may.notes ≡ true
      → Ran may first begun pauses (record { end = e; recording = g }) t
      → Ran may first begun pauses (record { end = e; recording = h }) t
  pub told : h.told ≡ g.told

abbrev pub over : State → Bool
over s = is_over s.course s.pair.end.client.state

-- what is due at this time besides what is given
abbrev pub made_at : State → (time : List ℕ) → List Says
made_at s time = made s.book.noted time s.course.server s.pair.recording.telling.counted.features
    (ended s.course s.pair.end.client.state)

-- all of it; nothing if the time is not known
abbrev pub due_at : State → Option (List ℕ) → List Says
due_at s None = []
due_at s (Some time) = given_due s.book.noted ++ made_at s time

abbrev pub time_of : Reply → Option (List ℕ)
time_of (Bytes time) = Some time
time_of reply = None

abbrev pub with_due : State → Option (List ℕ) → State
with_due s time = record s {
  pair = record (s.pair) { recording = with_said (due_at s time) s.pair.recording };
}

-- the record is sealed if the run on the connection is over; and what was due counts as noted
abbrev pub closed : State → State
closed s = record s {
  pair = record (s.pair) {
    recording = seal_if (over s) s.book.key s.pair.recording;
  };
  book = record (s.book) { noted = passed s.book.noted s.pair.recording.telling.counted.features (over s) };
}

-- what the answer to the time of notes leaves of a session
abbrev pub noted_now : State → Reply → State
noted_now s reply = closed (with_due s (time_of reply))

abbrev pub is_noting : Stage → Bool
is_noting stage.Noting = true
is_noting s = false

-- a client that is stopped aborts, if it is Running or Failing: in another state that call is not possible, and changes nothing
abbrev pub stopped : Bool → State → State
stopped true s = record s { pair = record (s.pair) { end = behind_call Abort s.pair.end }; talk = noted_by Abort s.pair.end s.talk }
stopped false s = s

-- it leaves its connection
abbrev pub left : State → State
left s = record s { pair = record (s.pair) { end = done_by Leaves s.pair.end } }

-- one comes of the other without an abort and without a note: a run that is at the first, with none so far, is at the second with none
abbrev pub IsLater : State → State → Type 0
IsLater s t = (w : Origin) → IsRunOf w s → IsRunOf (record w { marks = t.reports.marks }) t

-- without an abort
abbrev pub IsLaterNoting : State → State → Type 0
IsLaterNoting s t = (w : Origin) → w.may.notes ≡ true → IsRunOf w s → IsRunOf (record w { marks = t.reports.marks }) t

abbrev pub noted_if : Bool → Reply → State → State
noted_if true reply s = noted_now s reply
noted_if false reply s = s

-- what an answer does first: one that stops the run, or is the time of notes
abbrev pub turned : State → Reply → State
turned s reply = noted_if (is_noting s.stage) reply (stopped (is_stop s.stage reply) s)

-- and then the client makes other calls than an abort, the record gets no note, and no other counts as noted
abbrev pub Turns : State → State → Type 0
Turns s t = IsLater s t × (t.book.noted ≡ s.book.noted)

-- an answer that stops the run makes the client abort; at the time of notes the record gets all that are due and can be said, and its seal at
-- the end; and after any other answer the client does not abort, and nothing is noted. If memory runs out the client leaves its connection,
-- perhaps before it aborts, and some notes may be left out
abbrev pub Stops : State → Reply → State → Type 0
Stops s reply t = Turns (turned s reply) t
    ⊎ ((IsLaterNoting (stopped (is_stop s.stage reply) s) t ⊎ IsLaterNoting (left s) t) × (t.book.spent ≡ true))

-- the stages before the client sends
abbrev pub is_before : Stage → Bool
is_before stage.Logged = true
is_before stage.Connecting = true
is_before stage.Pausing = true
is_before stage.Limiting = true
is_before stage.MakingFeatures = true
is_before stage.BeginningFeatures = true
is_before stage.MakingContacts = true
is_before stage.BeginningContacts = true
is_before s = false

-- those on the connection
abbrev pub is_while : Stage → Bool
is_while stage.Receiving = true
is_while stage.Sending = true
is_while stage.Awaiting = true
is_while stage.Returning = true
is_while stage.Tracing = true
is_while stage.Stamping = true
is_while stage.Noting = true
is_while stage.Logging = true
is_while stage.Recording = true
is_while stage.Settling = true
is_while stage.Reporting = true
is_while stage.Warning = true
is_while stage.Listing = true
is_while stage.Showing = true
is_while s = false

-- those at the end
abbrev pub is_at_end : Stage → Bool
is_at_end stage.ReplacingFeatures = true
is_at_end stage.Printing = true
is_at_end stage.Parting = true
is_at_end stage.Closing = true
is_at_end stage.Draining = true
is_at_end stage.Leaving = true
is_at_end stage.DiscardingFeatures = true
is_at_end stage.DiscardingContacts = true
is_at_end stage.Standing = true
is_at_end stage.ReplacingRecord = true
is_at_end stage.ReplacingContacts = true
is_at_end stage.Ending = true
is_at_end stage.Telling = true
is_at_end stage.Exiting = true
is_at_end s = false

-- a file gets this text, in place of what it had
abbrev pub IsReplace : Option Output → List ℕ → Ask → Type 0
IsReplace file text (Replace name beside whole) = (name ≡ name_of file) × (beside ≡ beside_of file) × (whole ≡ text)
IsReplace file text ask = ⊥

abbrev pub IsMake : file.Growth → Option Output → List ℕ → Ask → Type 0
IsMake kept file text (Make one name beside first) = (one ≡ kept) × (name ≡ name_of file) × (beside ≡ beside_of file) × (first ≡ text)
IsMake kept file text ask = ⊥

abbrev pub IsExtend : Ask → Type 0
IsExtend (Extend name) = ⊤
IsExtend ask = ⊥

abbrev pub IsSay : Ask → Type 0
IsSay (Say text) = ⊤
IsSay ask = ⊥

abbrev pub IsExists : Ask → Type 0
IsExists (Exists name) = ⊤
IsExists ask = ⊥

abbrev pub IsConnect : Ask → Type 0
IsConnect (Connect host port ms) = ⊤
IsConnect ask = ⊥

abbrev pub IsLimit : Ask → Type 0
IsLimit (Limit peer ms seconds) = peer ≡ Server
IsLimit ask = ⊥

abbrev pub IsAdd : Ask → Type 0
IsAdd (Add text) = ⊤
IsAdd ask = ⊥

-- a file that is named has its whole text, and none could not be written
abbrev pub is_written : (named : Bool) → Option Bool → Bool
is_written named None = not named
is_written named (Some done) = done

-- the client has measured all that was asked for, its report was printed, and each file that is named was written whole
pub record HasDone (s : State) : Type 0 where
  pub done : s.pair.end.client.state ≡ state.Done
  pub printed : is_written true s.reports.marks.printed ≡ true
  pub features : is_written (is_some s.files.features) s.reports.marks.written.features ≡ true
  pub recorded : is_written s.book.keeps s.reports.marks.written.kept ≡ true
  pub contacts : is_written s.reports.named s.reports.marks.written.contacts ≡ true

abbrev pub has_done : State → Bool
has_done s = is_complete s.pair.end.client.state && (is_written true s.reports.marks.printed
    && (is_written (is_some s.files.features) s.reports.marks.written.features
    && (is_written s.book.keeps s.reports.marks.written.kept && is_written s.reports.named s.reports.marks.written.contacts)))

-- the exit status by how its connection has ended, or by what has kept it from one
abbrev pub base : State → ℕ
base s = if s.begun then of_end s.course s.pair.end.client.state else of_unbegun s.unbegun

-- and by what could not be printed or written: 4 if all that is left is to say that memory has run out
abbrev pub status_at : State → ℕ
status_at s = if s.book.short then 4 else if has_failed s.reports.marks.printed then 1 else of_files s.reports.marks.written (base s)

-- what is named as having failed, in what is said last: each file that could not be written, before how the connection ended, or what has kept the
-- run from one; a report that could not be printed takes the place of that, and of the features file
abbrev pub said_at : State → List Said
said_at s = if has_failed s.reports.marks.printed then late s.reports.marks.written ++ say.Unprinted ∷ []
    else if is_shown (base s) then unwritten s.reports.marks.written ++ say.Ended ∷ []
    else if not s.begun && s.unbegun then say.Unbegun ∷ unwritten s.reports.marks.written
    else first_last (unwritten s.reports.marks.written)

-- 3 if nothing has failed, and not all is done
abbrev pub exit_of : State → ℕ
exit_of s = if status_at s == 0 && not (has_done s) then 3 else status_at s

-- the exit status is that; and 0 only if all is done
abbrev pub IsExit : State → Ask → Type 0
IsExit s (Exit status) = (status ≡ exit_of s) × (status ≡ 0 → HasDone s)
IsExit s ask = ⊥

-- what each stage asks for, and nothing else
abbrev pub AsksAt : Stage → State → Ask → Type 0
AsksAt stage.Logged s ask = IsExtend ask
AsksAt stage.Warning s ask = IsSay ask
AsksAt stage.Beginning s ask = ask ≡ Now
AsksAt stage.Peeking s ask = IsExists ask
AsksAt stage.Connecting s ask = IsConnect ask
AsksAt stage.Elapsing s ask = ask ≡ Now
AsksAt stage.Pausing s ask = ask ≡ Sleep 100
AsksAt stage.Limiting s ask = IsLimit ask
AsksAt stage.MakingFeatures s ask = IsMake growth.Features s.files.features s.list ask
AsksAt stage.BeginningFeatures s ask = ask ≡ Begin growth.Features
AsksAt stage.MakingContacts s ask = IsMake growth.Contacts s.files.contacts s.reports.text ask
AsksAt stage.BeginningContacts s ask = ask ≡ Begin growth.Contacts
AsksAt stage.Checking s ask = IsExists ask
AsksAt stage.Timing s ask = ask ≡ Now
AsksAt stage.Receiving s ask = ask ≡ Receive Server
AsksAt stage.Sending s ask = ask ≡ Send Server s.pair.end.out
AsksAt stage.Awaiting s ask = ask ≡ Byte
AsksAt stage.Returning s ask = ask ≡ Byte
AsksAt stage.Tracing s ask = IsSay ask
AsksAt stage.Stamping s ask = ask ≡ Stamp
AsksAt stage.Noting s ask = ask ≡ Stamp
AsksAt stage.Logging s ask = IsAdd ask
AsksAt stage.Recording s ask = ask ≡ Append growth.Record (lacking s)
AsksAt stage.Settling s ask = ask ≡ Keep growth.Record (lacking s)
AsksAt stage.Reporting s ask = ask ≡ Append growth.Contacts (drop s.reports.marks.filed s.reports.text)
AsksAt stage.Listing s ask = ask ≡ Keep growth.Features s.list
AsksAt stage.Showing s ask = IsSay ask
AsksAt stage.ReplacingFeatures s ask = IsReplace s.files.features s.list ask
AsksAt stage.Printing s ask = ask ≡ Print s.text
AsksAt stage.Parting s ask = IsLimit ask
AsksAt stage.Closing s ask = ask ≡ Close Server
AsksAt stage.Draining s ask = ask ≡ Receive Server
AsksAt stage.Leaving s ask = ask ≡ Leave
AsksAt stage.DiscardingFeatures s ask = ask ≡ Discard growth.Features
AsksAt stage.DiscardingContacts s ask = ask ≡ Discard growth.Contacts
AsksAt stage.Standing s ask = ask ≡ Stands growth.Record (length s.pair.recording.text)
AsksAt stage.ReplacingRecord s ask = IsReplace s.files.kept s.pair.recording.text ask
AsksAt stage.ReplacingContacts s ask = IsReplace s.files.contacts s.reports.text ask
AsksAt stage.Ending s ask = IsSay ask
AsksAt stage.Telling s ask = IsSay ask
AsksAt stage.Exiting s ask = IsExit s ask

abbrev pub Asks : State → Ask → Type 0
Asks s ask = AsksAt s.stage s ask

-- a pause is to come, and all that stands above it is counted
abbrev pub IsPaused : State → Type 0
IsPaused s = (1 ≤ length s.book.pauses) × (length s.pair.end.client.table.tally.todo ≤ held s.book.pauses)

-- whether a whole file that is named was written, or could not be
abbrev pub is_tried : (named : Bool) → Option Bool → Bool
is_tried named mark = is_some mark || not named

abbrev pub HasTriedFeatures : State → Type 0
HasTriedFeatures s = is_tried (is_some s.files.features) s.reports.marks.written.features ≡ true

-- the record, and that of contacts if its client has come to the connection
abbrev pub HasTried : State → Type 0
HasTried s = (is_tried s.book.keeps s.reports.marks.written.kept ≡ true)
    × (is_tried (s.begun && s.reports.named) s.reports.marks.written.contacts ≡ true)

-- what follows the first line of the text of these features, in the present version
abbrev pub AreFeaturesLines : List Feature → List ℕ → Type 0
AreFeaturesLines features lines = (version : _) × (header version ≡ codes "DME-FEATURES 2")
    × (header version ++ 10 ∷ lines ≡ features_text version features)

-- no two versions have one first line
abbrev pub IsOneVersion : Type 0
IsOneVersion = (v w : _) → header v ≡ header w → v ≡ w

-- what holds besides before an effect is asked for: what is printed is the client's report, after its features file; what is made of the
-- features file, or replaces it, are the features that the client holds, and what it gets are those since the last that it got; what is added
-- to the record without being forced completes no feature; nothing is added to a file of contacts that could not be kept; the operator is
-- asked at a pause; what is shown as complete is on the device; what is said last follows all files, and names what has failed; and the message that needs no memory is said
-- once that has run out
pub data Want : Type 0 where
  Shown : Want
  Features : Want
  Growing : Want
  Unforced : Want
  Kept : Want
  Pause : Want
  Complete : Want
  Tried : Want
  Last : Want

abbrev pub wants : Stage → Option Want
wants stage.Printing = Some Shown
wants stage.MakingFeatures = Some Features
wants stage.ReplacingFeatures = Some Features
wants stage.Listing = Some Growing
wants stage.Recording = Some Unforced
wants stage.Reporting = Some Kept
wants stage.Awaiting = Some Pause
wants stage.Returning = Some Pause
wants stage.Showing = Some Complete
wants stage.Ending = Some Tried
wants stage.Telling = Some Last
wants s = None

-- how many features may be shown as complete: those that are in the record on the device, if it could be kept; else those in the features file
-- on the device, if that could; else those that the client holds
abbrev pub complete : State → ℕ
complete s = if s.book.keeps && not s.book.lost then s.book.settled
    else if s.reports.marks.lists then s.reports.marks.listed else length s.pair.end.client.table.tally.features

abbrev pub IsDueBy : Option Want → State → Type 0
IsDueBy None s = ⊤
IsDueBy (Some Shown) s = (s.text ≡ report_text (end_shown s.pair.end)) × HasTriedFeatures s
IsDueBy (Some Features) s = IsFeaturesText s.pair.end.client.table.tally.features s.list
    × (s.held ≡ length s.pair.end.client.table.tally.features)
IsDueBy (Some Growing) s = AreFeaturesLines (drop s.reports.marks.listed s.pair.end.client.table.tally.features) s.list
    × (s.held ≡ length s.pair.end.client.table.tally.features)
IsDueBy (Some Unforced) s = s.pair.recording.telling.counted.features ≤ s.book.settled
IsDueBy (Some Kept) s = s.reports.marks.lost ≡ false
IsDueBy (Some Pause) s = IsPaused s
IsDueBy (Some Complete) s = s.shown ≤ complete s
IsDueBy (Some Tried) s = HasTried s × (s.said ≡ said_at s)
IsDueBy (Some Last) s = s.book.short ≡ true

abbrev pub IsDue : State → Type 0
IsDue s = IsDueBy (wants s.stage) s

-- the record has the line of each act that the client has counted, if there is one
abbrev pub HasLines : State → Type 0
HasLines s = s.book.keeps ≡ true → s.pair.recording.told ≡ length s.pair.end.client.table.tally.counted

-- likewise what is to be in the file of contacts
abbrev pub HasActs : State → Type 0
HasActs s = s.reports.named ≡ true → s.reports.told ≡ length s.pair.end.client.table.tally.counted

pub record IsTold (keeps named : Bool) (lines acts counted : ℕ) : Type 0 where
  pub recorded : keeps ≡ true → lines ≡ counted
  pub reported : named ≡ true → acts ≡ counted

abbrev pub HasTold : State → Type 0
HasTold s = IsTold s.book.keeps s.reports.named s.pair.recording.told s.reports.told (length s.pair.end.client.table.tally.counted)

-- its file has all of its text, or could not be kept
abbrev pub HasFiled : State → Type 0
HasFiled s = lacking s ≡ []

-- something is due, if the run is over or not
abbrev pub is_due : State → (over : Bool) → Bool
is_due s over = has_due s.book.noted s.pair.recording.telling.counted.features over

-- what its file lacks, and whether something is due
pub record Open : Type 0 where
  pub lacks : List ℕ
  pub due : Bool

-- while the run continues on its connection
abbrev pub open_on : State → Open
open_on s = record { lacks = lacking s; due = is_due s false }

-- before it, and after its end
abbrev pub open_off : State → Open
open_off s = record { lacks = lacking s; due = s.book.noted.opened && is_due s true }

abbrev pub none_open : Open
none_open = record { lacks = []; due = false }

abbrev pub HasAll : State → Type 0
HasAll s = open_on s ≡ none_open

abbrev pub HasEnded : State → Type 0
HasEnded s = open_off s ≡ none_open

-- how far a record has followed its client before an effect: its text has all that was counted; then its file has it, and nothing is due: on
-- the connection, while the run on it is not over, or not; or before it and after its end; or that is not known
pub data Pace : Type 0 where
  Unknown : Pace
  Told : Pace
  Filed : Pace
  Going : Pace
  Apart : Pace

-- it is not known once memory has run out
abbrev pub pace : Stage → Pace
pace stage.Tracing = Told
pace stage.Stamping = Told
pace stage.Logging = Told
pace stage.Noting = Told
pace stage.Recording = Told
pace stage.Settling = Told
pace stage.Reporting = Filed
pace stage.Listing = Filed
pace stage.Showing = Filed
pace stage.Sending = Going
pace stage.Checking = Going
pace stage.Timing = Going
pace stage.Receiving = Going
pace stage.Awaiting = Going
pace stage.Returning = Going
pace stage.Telling = Unknown
pace stage.Exiting = Unknown
pace st = Apart

abbrev pub is_filed : Pace → Bool
is_filed Unknown = false
is_filed Told = false
is_filed Filed = true
is_filed Going = true
is_filed Apart = true

-- on the connection
abbrev pub is_joined : Pace → Bool
is_joined Unknown = false
is_joined Told = true
is_joined Filed = true
is_joined Going = true
is_joined Apart = false

abbrev pub IsAt : Pace → State → Type 0
IsAt Unknown s = ⊤
IsAt Told s = HasTold s
IsAt Filed s = HasTold s × HasAll s
IsAt Going s = (HasTold s × HasAll s) × (over s ≡ false)
IsAt Apart s = HasTold s × HasEnded s

-- whatever is sent, received, shown as complete or printed, the record's file has all that the client had counted before, or could not be kept;
-- and all that was due is noted; and commands are sent, and anything is awaited, only while the run on the connection is not over
abbrev pub HasFollowed : State → Type 0
HasFollowed s = s.book.short ≡ false → IsAt (pace s.stage) s

abbrev pub StaysTold : State → State → Type 0
StaysTold s t = HasTold s → HasTold t

-- a record that has followed its client follows it further
abbrev pub Follows : State → State → Type 0
Follows s t = HasTold s → HasAll s → HasFollowed t

-- and while its run is not over
abbrev pub FollowsGoing : State → State → Type 0
FollowsGoing s t = HasTold s → HasAll s → over s ≡ false → HasFollowed t

abbrev pub FollowsApart : State → State → Type 0
FollowsApart s t = HasTold s → HasEnded s → HasFollowed t

abbrev pub FollowsTold : State → State → Type 0
FollowsTold s t = HasTold s → HasFollowed t

-- nothing has come of an answer but what is known of how the run ends
abbrev pub IsUnmoved : State → State → Type 0
IsUnmoved s t = t ≡ record s { course = t.course }

-- memory has run out, perhaps before the client could abort
abbrev pub IsShort : (stop : Bool) → State → State → Type 0
IsShort stop s t = Keeps (stopped stop s) t ⊎ IsUnmoved s t

-- what an answer makes of a session, unless memory runs out
abbrev pub StopsOn : {A E : Type 0} → Result A E → State → Reply → State → Type 0
StopsOn (Ok a) s reply t = Turns (turned s reply) t
StopsOn (Err e) s reply t = IsLaterNoting (stopped (is_stop s.stage reply) s) t ⊎ IsUnmoved s t

-- what is neither the client's nor the record's changes
abbrev pub IsQuiet : State → State → Type 0
IsQuiet s t = t ≡ record s { stage = t.stage; text = t.text; list = t.list; held = t.held; said = t.said; looks = t.looks }

-- memory has run out, and all that is left is to say so
abbrev pub shortened : State → State
shortened s = record s { book = record (s.book) { short = true } }

-- ---- the features file while it grows

-- it has the text of as many features of the client as are known to be in it
abbrev pub IsListed : State → List ℕ → Type 0
IsListed s text = (s.reports.marks.listed ≤ length s.pair.end.client.table.tally.features)
    × IsFeaturesText (take s.reports.marks.listed s.pair.end.client.table.tally.features) text

-- features are these, and then others
pub record AddsFeatures (before now : List Feature) : Type 0 where
  pub more : List Feature
  pub is : now ≡ before ++ more

-- after an answer a client has its features, and perhaps others; and what is known of the files is what that answer says
pub record IsNext (s : State) (reply : Reply) (t : State) : Type 0 where
  pub features : AddsFeatures s.pair.end.client.table.tally.features t.pair.end.client.table.tally.features
  pub marks : t.reports.marks ≡ marked_at s reply s.reports.marks

-- something is written to it
abbrev pub is_list : Option Write → Bool
is_list (Some Made) = true
is_list (Some Listed) = true
is_list w = false
