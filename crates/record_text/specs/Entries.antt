-- The lines of a record that follow its head, one for each entry (this profile), and the entries that can be written.
use Rattle.std.specs.Prelude.{◌≡◌, ◌⊎◌, ℕ, suc, ◌-◌, ◌<◌, ◌≤◌, List, [], ◌∷◌, ◌++◌, length, take, nat_le, codes, decimal, if◌then◌else◌}
use Rattle.std.specs.List.{flat_map}
use Rattle.fixed_um.specs.Names.{IsName}
use Rattle.contact_ledger.specs.Lines.{line_of}
use Rattle.contact_ledger.specs.Ledgers.{IsConnection}
use Rattle.contact_ledger.specs.ContactTexts.{IsEntry, act_line}
use Rattle.session_telling.specs.Visible.{visible}
use Rattle.record_text.specs.Notes.{IsNoteText, Says, word_of}
use Rattle.record_text.specs.declared.notes.Note.{Note}
use Rattle.record_text.specs.declared.notes.Note.TheVariants.{Refused}
use Rattle.record_text.specs.declared.entries.Entry.{Entry}
use Rattle.record_text.specs.declared.entries.Entry.TheVariants.{Told, Noted, Completed}

-- the first bytes of a text as people read them, as many as fit into that many bytes: none is cut
abbrev pub fitting : ℕ → List ℕ → List ℕ
fitting n [] = []
fitting n (b ∷ bytes) = if nat_le (length (visible b)) n then visible b ++ fitting (n - length (visible b)) bytes else []

-- what is kept of a text are its first bytes, whole, and as many of them as fit
pub record IsFitting (most : ℕ) (text kept : List ℕ) : Type 0 where
  pub count : ℕ
  pub whole : kept ≡ flat_map visible (take count text)
  pub few : length kept ≤ most
  pub all : (length text ≤ count) ⊎ (most < length (flat_map visible (take (suc count) text)))

-- what is kept of an error: as people read it, up to 400 bytes
abbrev pub kept_error : List ℕ → List ℕ
kept_error text = fitting 400 text

abbrev pub error_note : List ℕ → Says
error_note text = (Refused, kept_error text)

-- an entry that can be written
abbrev pub IsWrittenEntry : Entry → Type 0
IsWrittenEntry (Told n act) = IsEntry (n, act)
IsWrittenEntry (Noted n note text) = IsConnection n × IsNoteText note text
IsWrittenEntry (Completed n label) = IsConnection n × IsName label

-- the line of a note: its text follows as it is, with its spaces
abbrev pub noted_line : ℕ → Note → List ℕ → List ℕ
noted_line n note text = decimal n ++ (32 ∷ (word_of note ++ 32 ∷ text))

abbrev pub completed_line : ℕ → List ℕ → List ℕ
completed_line n label = line_of (decimal n ∷ codes "COMPLETED" ∷ label ∷ [])

-- the line of an entry; that of an act is as in a file of contacts
abbrev pub entry_line : Entry → List ℕ
entry_line (Told n act) = act_line (n, act)
entry_line (Noted n note text) = noted_line n note text
entry_line (Completed n label) = completed_line n label
