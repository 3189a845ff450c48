-- What a record reads as that was cut anywhere, as when a run is killed (this profile).
use Rattle.std.specs.Prelude.{ℕ, List, take, Option}
use Rattle.dmis_program.specs.declared.features.Wanted.{Wanted}
use Rattle.record_text.specs.Records.{Kept, nothing_kept, Follow, recorded}
use Rattle.record_text.specs.Reading.{IsRecord, IsUnbegun}
use Rattle.record_text.specs.declared.entries.Entry.{Entry}

-- a text is not a record yet, or it is the record of the first of these entries, as many as have their whole line
pub data ReadsCut (part : Option (List ℕ)) (asked : List Wanted) (entries : List Entry) (bytes : List ℕ) : Type 0 where
  unbegun : IsUnbegun bytes → ReadsCut part asked entries bytes
  begun : (count : ℕ) (kept : Kept) → Follow asked nothing_kept (take count entries) kept → IsRecord bytes (recorded part asked kept)
      → ReadsCut part asked entries bytes
