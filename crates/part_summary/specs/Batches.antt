-- The parts of a batch that count, and the deviations of each touch of their program over them (this profile).
use Rattle.std.specs.Prelude.{◌≡◌, ◌⊎◌, ◌==◌, ℕ, ◌+◌, max, List, [], ◌∷◌, ◌++◌, length, map, ℤ, Option, Some, None, unwrap_or, if◌then◌else◌}
use Rattle.std.specs.List.{AllZip}
use Rattle.deviations.specs.Limits.{range_for}
use Rattle.deviations.specs.Rows.{IsRow, Place, Row, missing_places, places_of}
use Rattle.deviations.specs.declared.entries.Limit.{Limit}
use Rattle.deviations.specs.declared.ranges.Range.{Range}
use Rattle.dmis_program.specs.Meaning.{Meaning}
use Rattle.dme_orders.specs.Exporting.{RefusesFeatures}
use Rattle.dme_orders.specs.OfRecords.{RefusesRecord}
use Rattle.dme_orders.specs.Reading.{Came, IsSealed, Reads, ReadsRecord, WhyNoSealed}
use Rattle.dme_orders.specs.Recorded.{IsOfProgram, features_in}
use Rattle.dme_orders.specs.RunNotes.{notes_in}
use Rattle.order_parts.specs.declared.faults.FilesFault.{FilesFault}
use Rattle.order_parts.specs.declared.faults.FilesFault.TheVariants as files
use Rattle.part_summary.specs.Spans.{spans_of}
use Rattle.part_summary.specs.Sums.{Tally, joined, tally_of}
use Rattle.part_summary.specs.Times.{Plot, placed, time_in}
use Rattle.record_text.specs.Records.{Recorded}

-- a part that counts: what is plotted of it, and for each touch of the program how far it was measured from its target along the normal;
-- nothing where it was not measured, or has no normal
pub record BatchPart : Type 0 where
  pub plot : Plot
  pub alongs : List (Option ℤ)

-- what a part is called: by its record, or as the file of the record
abbrev pub name_of : List ℕ → Option Recorded → List ℕ
name_of file None = file
name_of file (Some held) = unwrap_or held.part file

-- the places of rows, and their deviations along the normal
abbrev pub places_in : List Row → List Place
places_in rows = map (λ (r : Row). r.place) rows

abbrev pub alongs_in : List Row → List (Option ℤ)
alongs_in rows = map (λ (r : Row). r.along) rows

-- what is plotted of a record in a file, by the rows of its features
abbrev pub plot_of : Meaning → List ℕ → Option Recorded → List Row → Plot
plot_of program file held rows = record {
  name = name_of file held;
  measured = length (features_in held);
  time = time_in (notes_in held);
  spans = spans_of program.features rows;
}

-- the part of a record in a file: its deviations are those of the rows of its features
pub record IsBatchPart (program : Meaning) (file : List ℕ) (held : Option Recorded) (part : BatchPart) : Type 0 where
  pub rows : List Row
  pub are : AllZip IsRow (places_of program.features (features_in held)) rows
  pub plot : part.plot ≡ plot_of program file held rows
  pub alongs : part.alongs ≡ alongs_in rows

-- one deviation more, if there is one
abbrev pub put : Option ℤ → List ℤ → List ℤ
put None xs = xs
put (Some x) xs = x ∷ xs

-- a part's deviations before those of other parts, touch by touch
abbrev pub put_all : List (Option ℤ) → List (List ℤ) → List (List ℤ)
put_all [] lists = lists
put_all (x ∷ xs) [] = []
put_all (x ∷ xs) (list ∷ lists) = put x list ∷ put_all xs lists

-- for each of these touches the list of its deviations over parts
abbrev pub deviations_over : List Place → List BatchPart → List (List ℤ)
deviations_over places [] = map (λ p. []) places
deviations_over places (part ∷ parts) = put_all part.alongs (deviations_over places parts)

-- the touches of a program
abbrev pub touches_of : Meaning → List Place
touches_of program = missing_places program.features

-- the range for a feature, and for a touch, if a limit is for it
abbrev pub range_named : Option (List Limit) → List ℕ → Option Range
range_named None label = None
range_named (Some limits) label = range_for limits label

abbrev pub range_at : Option (List Limit) → Place → Option Range
range_at limits place = range_named limits place.feature

-- what is kept of the list of each touch
abbrev pub tallies_of : Option (List Limit) → List Place → List (List ℤ) → List Tally
tallies_of limits [] lists = []
tallies_of limits (p ∷ places) [] = []
tallies_of limits (p ∷ places) (list ∷ lists) = tally_of (range_at limits p) list ∷ tallies_of limits places lists

-- what is kept of touches without deviations
abbrev pub empty_tallies : Option (List Limit) → List Place → List Tally
empty_tallies limits places = map (λ p. tally_of (range_at limits p) []) places

-- one deviation more of each touch
abbrev pub joined_all : List (Option ℤ) → List Tally → List Tally
joined_all xs [] = []
joined_all [] (t ∷ tallies) = t ∷ joined_all [] tallies
joined_all (x ∷ xs) (t ∷ tallies) = record { range = t.range; sums = joined t.range x t.sums } ∷ joined_all xs tallies

-- a part that lacks a feature: its name, and how many features it has
pub record UnfinishedPart : Type 0 where
  pub name : List ℕ
  pub measured : ℕ

-- a part that lacks a feature is named after others
abbrev pub named_if_unfinished : ℕ → List ℕ → ℕ → List UnfinishedPart → List UnfinishedPart
named_if_unfinished asked name measured earlier =
    if measured == asked then earlier else earlier ++ record { name = name; measured = measured } ∷ []

-- the parts that lack a feature, in the order in which they were read; of these the last is first
abbrev pub unfinished_in : ℕ → List BatchPart → List UnfinishedPart
unfinished_in asked [] = []
unfinished_in asked (part ∷ parts) = named_if_unfinished asked part.plot.name part.plot.measured (unfinished_in asked parts)

-- the parts in the order of their times
abbrev pub in_order : List BatchPart → List Plot
in_order [] = []
in_order (part ∷ parts) = placed part.plot (in_order parts)

-- what is kept of a batch; `key` is that of the seals, if they are checked; `worst` is the greatest exit status of what was refused, 0 if nothing was
pub record Summed : Type 0 where
  pub program : Meaning
  pub limits : Option (List Limit)
  pub key : Option (List ℕ)
  pub counted : ℕ
  pub tallies : List Tally
  pub unfinished : List UnfinishedPart
  pub plots : List Plot
  pub worst : ℕ

-- this is kept of these parts, of which the last is first
pub record IsSummary (s : Summed) (parts : List BatchPart) : Type 0 where
  pub counted : s.counted ≡ length parts
  pub tallies : s.tallies ≡ tallies_of s.limits (touches_of s.program) (deviations_over (touches_of s.program) parts)
  pub unfinished : s.unfinished ≡ unfinished_in (length s.program.features) parts
  pub plots : s.plots ≡ in_order parts

-- with one part more
abbrev pub with_part : Summed → Plot → List (Option ℤ) → Summed
with_part s plot alongs = record s {
  counted = s.counted + 1;
  tallies = joined_all alongs s.tallies;
  unfinished = named_if_unfinished (length s.program.features) plot.name plot.measured s.unfinished;
  plots = placed plot s.plots;
}

-- the exit status of a fault: 4 if memory ran out, else 1
abbrev pub fault_status : FilesFault → ℕ
fault_status files.Memory = 4
fault_status _ = 1

-- with one fault more: the greatest status stays
abbrev pub with_fault : Summed → FilesFault → Summed
with_fault s cause = record s { worst = max s.worst (fault_status cause) }

-- the exit status: the greatest of what was refused; if nothing was, 3 if a part lacks a feature
abbrev pub unfinished_status : List UnfinishedPart → ℕ
unfinished_status [] = 0
unfinished_status (part ∷ parts) = 3

abbrev pub summary_status : Summed → ℕ
summary_status s = if s.worst == 0 then unfinished_status s.unfinished else s.worst

-- a record counts as one part more
pub record Adds (file : List ℕ) (held : Option Recorded) (old new : Summed) : Type 0 where
  pub program : new.program ≡ old.program
  pub limits : new.limits ≡ old.limits
  pub key : new.key ≡ old.key
  pub worst : new.worst ≡ old.worst
  pub part : BatchPart
  pub is : IsBatchPart old.program file held part
  pub sums : (parts : List BatchPart) → IsSummary old parts → IsSummary new (part ∷ parts)

module _ {S : Type 0} (j : Came S) where
  -- a record was read from a source, is sealed if seals are checked, is of the program, and counts
  pub record Counts (file : List ℕ) (old new : Summed) : Type 0 where
    pub held : Option Recorded
    pub read : ReadsRecord j held
    pub sealed : Reads j (IsSealed old.key)
    pub same : IsOfProgram held old.program
    pub adds : Adds file held old new

  -- a record was read, and is not of the program; or memory ran out
  pub record IsStranger (program : Meaning) (cause : FilesFault) : Type 0 where
    pub held : Option Recorded
    pub read : ReadsRecord j held
    pub why : RefusesRecord held program cause ⊎ RefusesFeatures program (features_in held) cause

  -- why a record does not count: it is damaged, was not read to its end, is not sealed, or is not of the program
  abbrev pub WhyNotCounted : Option (List ℕ) → Meaning → FilesFault → Type 0
  WhyNotCounted key program cause = WhyNoSealed j key cause ⊎ IsStranger program cause
