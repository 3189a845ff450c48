-- How pages and tables name a program and a part (this profile).
use Rattle.std.specs.Prelude.{List, ℕ, Bool, true, false, [], ◌∷◌, codes, Option, Some, None, if◌then◌else◌}
use Rattle.std.specs.List.{flat_map}
use Rattle.std.specs.Option.{option_map_or}
use Rattle.std.specs.Str.{bytes_eq}
use Rattle.deviations.specs.Styles.{RowsOf}
use Rattle.dme_orders.specs.RunNotes.{notes_in}
use Rattle.drawings.specs.Title.{TitleTexts}
use Rattle.record_text.specs.declared.run_errors.Remark.{Remark}
use Rattle.record_text.specs.Records.{Recorded}
use Rattle.record_text.specs.declared.notes.Note.{Note}
use Rattle.record_text.specs.declared.notes.Note.TheVariants as note
use Rattle.session_telling.specs.Visible.{visible}

-- `-` is standard input
abbrev pub shown_name : List ℕ → List ℕ
shown_name name = if bytes_eq name (codes "-") then codes "standard input" else name

-- the part that a record names, with its bytes as they are shown; nothing if it names none
abbrev pub part_text : Option Recorded → List ℕ
part_text None = []
part_text (Some held) = option_map_or (flat_map visible) held.part []

abbrev pub of_record : Option Recorded → List ℕ → RowsOf
of_record held name = record { part = part_text held; program = shown_name name }

-- when its last feature was complete, as it notes last; nothing if it does not
abbrev pub is_dated : Note → Bool
is_dated note.Dated = true
is_dated _ = false

abbrev pub last_dated : List Remark → List ℕ → List ℕ
last_dated [] time = time
last_dated (r ∷ remarks) time = last_dated remarks (if is_dated r.note then r.text else time)

abbrev pub time_in : Option Recorded → List ℕ
time_in held = last_dated (notes_in held) []

abbrev pub title_of_record : Option Recorded → List ℕ → TitleTexts
title_of_record held name = record { part = part_text held; program = shown_name name; time = time_in held }
