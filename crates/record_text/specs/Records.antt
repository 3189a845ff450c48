-- What the entries of a record leave, one after another (this profile), and which records exist.
use Rattle.std.specs.Prelude.{◌≡◌, ℕ, ◌+◌, ◌-◌, ◌≤◌, List, [], ◌∷◌, ◌++◌, length, drop, map, slice_get, Option, Some, nat_lt, if◌then◌else◌, Bool, true, false}
use Rattle.std.specs.List.{AllByRecursion}
use Rattle.fixed_um.specs.declared.lengths.Point.{Point}
use Rattle.fixed_um.specs.declared.frames.Frame.{Frame}
use Rattle.fixed_um.specs.declared.frames.Frame.TheVariants.{Machine}
use Rattle.contact_ledger.specs.Ledgers.{connection_most, contact_count}
use Rattle.contact_ledger.specs.FeatureTexts.{CanBeWritten}
use Rattle.contact_ledger.specs.declared.acts.Act.{Act}
use Rattle.contact_ledger.specs.declared.features.Feature.{Feature}
use Rattle.dmis_program.specs.declared.features.Touch.{Touch}
use Rattle.dmis_program.specs.declared.features.Wanted.{Wanted}
use Rattle.protocol_model.specs.Claims.{contacts, Serves, Sound}
use Rattle.protocol_model.specs.Client.{origin_of}
use Rattle.protocol_model.specs.Undisturbed.{AreUpTo}
use Rattle.record_text.specs.Notes.{is_error}
use Rattle.record_text.specs.declared.notes.Note.{Note}
use Rattle.record_text.specs.Heads.{IsPartGiven, AreAsked, head_lines}
use Rattle.record_text.specs.Entries.{IsWrittenEntry, entry_line}
use Rattle.record_text.specs.declared.run_errors.Reported.{Reported}
use Rattle.record_text.specs.declared.run_errors.RunError.{RunError}
use Rattle.record_text.specs.declared.entries.Entry.{Entry}
use Rattle.record_text.specs.declared.entries.Entry.TheVariants.{Told, Noted, Completed}
use Rattle.record_text.specs.declared.run_errors.Remark.{Remark}
use Rattle.record_text.specs.declared.versions.Version.{Version}

-- what entries leave: the features completed, the acts reported, how many contacts are used up (those before the last COMPLETED), the
-- connection of the last line, which is 0 if there is no line, the errors reported since the last COMPLETED, those that were reported
-- during the run of a completed feature, and the other notes
pub record Kept : Type 0 where
  pub features : List Feature
  pub told : List (ℕ × Act)
  pub used : ℕ
  pub last : ℕ
  pub waiting : List Reported
  pub errors : List RunError
  pub notes : List Remark

abbrev pub nothing_kept : Kept
nothing_kept = record { features = []; told = []; used = 0; last = 0; waiting = []; errors = []; notes = [] }

-- of errors, those that were reported when more contacts had been reported than these: if that many precede the run of a feature, it had
-- begun
abbrev pub errors_during : (label : List ℕ) (before : ℕ) → List Reported → List RunError
errors_during label before [] = []
errors_during label before (e ∷ errors) = if nat_lt before e.contacts
    then record { label = label; text = e.text } ∷ errors_during label before errors
    else errors_during label before errors

-- the frame of the last of touches
abbrev pub last_frame : List Touch → Frame
last_frame [] = Machine
last_frame (t ∷ []) = t.frame
last_frame (t ∷ next ∷ touches) = last_frame (next ∷ touches)

-- the feature that is completed with these points on a connection: its label is the wanted one, its origin the frame of its last touch
abbrev pub completed_feature : ℕ → Wanted → List Point → Feature
completed_feature n w points = record { label = w.label; points = points; origin = origin_of n (last_frame w.touches) }

-- the last contacts reported, as many as a feature has touches, are not used up, were made on this connection, serve these touches and
-- reported these points
pub record IsLastRun (kept : Kept) (wanted : Wanted) (n : ℕ) (points : List Point) : Type 0 where
  pub unused : kept.used + length wanted.touches ≤ length (contacts kept.told)
  pub serves : Serves n wanted.touches points (drop (length (contacts kept.told) - length wanted.touches) (contacts kept.told))

-- what an act, a note and COMPLETED leave
abbrev pub with_told : Kept → ℕ → Act → Kept
with_told old n act = record old { told = old.told ++ (n, act) ∷ []; last = n }

abbrev pub waiting_with : Bool → ℕ → List ℕ → List Reported → List Reported
waiting_with true contacts text waiting = waiting ++ record { contacts = contacts; text = text } ∷ []
waiting_with false contacts text waiting = waiting

abbrev pub notes_with : Bool → (n features : ℕ) → Note → List ℕ → List Remark → List Remark
notes_with true n features note text notes = notes
notes_with false n features note text notes = notes ++ record { connection = n; features = features; note = note; text = text } ∷ []

abbrev pub with_noted : Kept → ℕ → Note → List ℕ → Kept
with_noted old n note text = record old {
  last = n;
  waiting = waiting_with (is_error note) (contact_count old.told) text old.waiting;
  notes = notes_with (is_error note) n (length old.features) note text old.notes;
}

abbrev pub with_completed : Kept → ℕ → Wanted → List Point → Kept
with_completed old n wanted points = record {
  features = old.features ++ completed_feature n wanted points ∷ [];
  told = old.told;
  used = length (contacts old.told);
  last = n;
  waiting = [];
  errors = old.errors
      ++ errors_during wanted.label (contact_count old.told - length wanted.touches) old.waiting;
  notes = old.notes;
}

-- COMPLETED can follow: its label is that of the next wanted feature, its connection that of the line before it, and the last contacts
-- complete the feature
pub record Completes (asked : List Wanted) (old : Kept) (n : ℕ) (label : List ℕ) (new : Kept) : Type 0 where
  pub wanted : Wanted
  pub points : List Point
  pub next : slice_get asked (length old.features) ≡ Some wanted
  pub label_is : label ≡ wanted.label
  pub same : n ≡ old.last
  pub run : IsLastRun old wanted n points
  pub more : new ≡ with_completed old n wanted points

-- an entry follows what is kept, and leaves this; numbers of connections never decrease
abbrev pub Follows : List Wanted → Kept → Entry → Kept → Type 0
Follows asked old (Told n act) new = IsWrittenEntry (Told n act) × (old.last ≤ n) × (new ≡ with_told old n act)
Follows asked old (Noted n note text) new = IsWrittenEntry (Noted n note text) × (old.last ≤ n) × (new ≡ with_noted old n note text)
Follows asked old (Completed n label) new = IsWrittenEntry (Completed n label) × Completes asked old n label new

-- entries follow one another, and leave this
abbrev pub Follow : List Wanted → Kept → List Entry → Kept → Type 0
Follow asked old [] new = new ≡ old
Follow asked old (entry ∷ entries) new = (mid : Kept) × Follows asked old entry mid × Follow asked mid entries new

-- the lines of a record: its head, and a line for each entry
abbrev pub record_lines : Version → Option (List ℕ) → List Wanted → List Entry → List (List ℕ)
record_lines version part asked entries = head_lines version part asked ++ map entry_line entries

-- what a record says: the part, what was asked, the features completed, the acts reported, the last connection, the errors that were
-- reported during the run of a completed feature, and the other notes
pub record Recorded : Type 0 where
  pub part : Option (List ℕ)
  pub asked : List Wanted
  pub features : List Feature
  pub told : List (ℕ × Act)
  pub last : ℕ
  pub errors : List RunError
  pub notes : List Remark

-- what a head and what its entries leave say together
abbrev pub recorded : Option (List ℕ) → List Wanted → Kept → Recorded
recorded part asked kept =
    record { part = part; asked = asked; features = kept.features; told = kept.told; last = kept.last; errors = kept.errors; notes = kept.notes }

-- what holds of each record that is read: its claim is sound, its features can be written to a features
-- file, and no act was reported on a connection after the last
pub record IsRecorded (r : Recorded) : Type 0 where
  pub part : IsPartGiven r.part
  pub asked : AreAsked r.asked
  pub sound : Sound r.asked r.features r.told
  pub writable : AllByRecursion CanBeWritten r.features
  pub last : r.last ≤ connection_most
  pub up_to : AreUpTo r.last r.told

-- lines are those of a record that says this
pub record AreRecordLines (lines : List (List ℕ)) (r : Recorded) : Type 0 where
  pub version : Version
  pub entries : List Entry
  pub kept : Kept
  pub part : IsPartGiven r.part
  pub asked : AreAsked r.asked
  pub follow : Follow r.asked nothing_kept entries kept
  pub says : r ≡ recorded r.part r.asked kept
  pub whole : lines ≡ record_lines version r.part r.asked entries

-- some record's lines begin with these
pub record Begins (lines : List (List ℕ)) : Type 0 where
  pub says : Recorded
  pub behind : List (List ℕ)
  pub whole : AreRecordLines (lines ++ behind) says
