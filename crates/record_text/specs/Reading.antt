-- What reading a record answers (this profile). What follows the last LF is not read.
use Rattle.std.specs.Prelude.{◌≡◌, ◌⊎◌, ℕ, ◌<◌, List, [], ◌++◌, length, Option, Some, None, Result, Ok, Err}
use Rattle.dmis_program.specs.declared.features.Wanted.{Wanted}
use Rattle.contact_ledger.specs.Lines.{whole_lines}
use Rattle.contact_ledger.specs.Damage.{IsDamaged}
use Rattle.record_text.specs.Heads.{IsPartGiven, AreAsked, header, head_lines}
use Rattle.record_text.specs.Records.{Recorded, AreRecordLines, Begins}
use Rattle.record_text.specs.declared.faults.RecordFault.{RecordFault}
use Rattle.record_text.specs.declared.faults.RecordFault.TheVariants.{Damaged, Memory}
use Rattle.record_text.specs.declared.versions.Version.{Version}

-- a text is a record that says this
abbrev pub IsRecord : List ℕ → Recorded → Type 0
IsRecord bytes r = AreRecordLines (whole_lines bytes) r

-- lines begin a head, and are not all of it
pub record AreTornHead (lines : List (List ℕ)) : Type 0 where
  pub version : Version
  pub part : Option (List ℕ)
  pub asked : List Wanted
  pub part_given : IsPartGiven part
  pub are_asked : AreAsked asked
  pub behind : List (List ℕ)
  pub front : head_lines version part asked ≡ lines ++ behind
  pub short : 0 < length behind

-- a text begins the first line of a record
abbrev pub BeginsHeader : List ℕ → Type 0
BeginsHeader bytes = (version : Version) × (behind : List ℕ) × (header version ≡ bytes ++ behind)

-- a text is not yet a record: its lines begin a head; if it has no line, it begins the first line
pub record IsUnbegun (bytes : List ℕ) : Type 0 where
  pub torn : AreTornHead (whole_lines bytes)
  pub ours : whole_lines bytes ≡ [] → BeginsHeader bytes

-- a text without any line does not begin a record: it is another file
pub record IsForeign (bytes : List ℕ) : Type 0 where
  pub none : whole_lines bytes ≡ []
  pub other : BeginsHeader bytes → ⊥

-- line n of a text is the first that cannot be where it is
abbrev pub IsDamagedRecord : List ℕ → ℕ → Type 0
IsDamagedRecord bytes n = IsDamaged Begins (whole_lines bytes) n ⊎ ((n ≡ 1) × IsForeign bytes)

-- this line is damaged; out of memory says nothing about the text
abbrev pub RefusesRecord : List ℕ → RecordFault → Type 0
RefusesRecord bytes (Damaged n) = IsDamagedRecord bytes n
RefusesRecord bytes Memory = Unit {0}

-- the record that the text is, or that it is not a record yet, or its first damaged line
abbrev pub ReadsRecord : List ℕ → Result (Option Recorded) RecordFault → Type 0
ReadsRecord bytes (Ok (Some r)) = IsRecord bytes r
ReadsRecord bytes (Ok None) = IsUnbegun bytes
ReadsRecord bytes (Err fault) = RefusesRecord bytes fault
