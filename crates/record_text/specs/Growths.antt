-- A record that grows during a run (this profile).
use Rattle.std.specs.Prelude.{◌≡◌, ℕ, if◌then◌else◌, Bool, map, List, [], ◌∷◌, ◌++◌, length, take, drop}
use Rattle.contact_ledger.specs.Lines.{text_of}
use Rattle.contact_ledger.specs.declared.acts.Act.{Act}
use Rattle.dmis_program.specs.declared.features.Wanted.{Wanted}
use Rattle.record_text.specs.Notes.{Says}
use Rattle.record_text.specs.Entries.{entry_line, error_note}
use Rattle.record_text.specs.Tellings.{Telling, entries_of, told_on}
use Rattle.record_text.specs.declared.entries.Entry.{Entry}
use Rattle.record_text.specs.declared.entries.Entry.TheVariants.{Noted}

-- a record that grows: what is counted of its entries, how many of the acts that the client has counted on its connection have their
-- lines, and the text
pub record Growth : Type 0 where
  pub telling : Telling
  pub told : ℕ
  pub text : List ℕ

-- a plan begins after this text: on the connection of this number, on which that many acts are counted, with that many features complete
-- and no point
abbrev pub begun : ℕ → ℕ → ℕ → List ℕ → Growth
begun n told features text = record {
  telling = record { connection = n; counted = record { features = features; points = 0 } };
  told = told;
  text = text;
}

-- the lines of the acts that are counted and have none, and of the features that they complete
abbrev pub new_lines : List Wanted → Growth → List Act → List ℕ
new_lines wanted g counted = text_of (map entry_line (entries_of wanted g.telling.connection g.telling.counted (drop g.told counted)))

-- they are added, as `Telling::tell` does
abbrev pub with_acts : List Wanted → List Act → Growth → Growth
with_acts wanted counted g = record {
  telling = told_on wanted g.telling (drop g.told counted);
  told = length counted;
  text = g.text ++ new_lines wanted g counted;
}

-- they are added, unless memory runs out
abbrev pub with_acts_unless : Bool → List Wanted → List Act → Growth → Growth
with_acts_unless lacks wanted counted g = if lacks then g else with_acts wanted counted g

-- the entries of notes on the connection of this number
abbrev pub noted : ℕ → List Says → List Entry
noted n [] = []
noted n ((note, text) ∷ notes) = Noted n note text ∷ noted n notes

-- their lines
abbrev pub note_lines : ℕ → List Says → List ℕ
note_lines n notes = text_of (map entry_line (noted n notes))

-- they are added, as `write_note` does
abbrev pub with_notes : List Says → Growth → Growth
with_notes notes g = record {
  telling = g.telling;
  told = g.told;
  text = g.text ++ note_lines g.telling.connection notes;
}

-- those of errors that a server reported are added, as many as these: the first
pub record AddsErrors (errors : List (List ℕ)) (old new : Growth) (count : ℕ) : Type 0 where
  pub added : new ≡ with_notes (map error_note (take count errors)) old
