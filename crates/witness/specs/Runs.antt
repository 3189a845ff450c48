-- What the runs of features may be made of in what a server reported (this profile).
use Rattle.std.specs.Prelude.{◌≡◌, ℕ, zero, suc, ◌+◌, ◌<◌, ◌≤◌, ◌==◌, ◌↔◌, Bool, true, false, not, Option, Some, None, List, [], ◌∷◌, ◌++◌}
use Rattle.std.specs.Prelude.{length, map, take}
use Rattle.std.specs.List.{list_all}
use Rattle.fixed_um.specs.Shapes.{Direction}
use Rattle.fixed_um.specs.declared.lengths.Point.{Point}
use Rattle.fixed_um.specs.declared.frames.Frame.{Frame}
use Rattle.contact_ledger.specs.declared.acts.Act.{Act}
use Rattle.contact_ledger.specs.declared.acts.Act.TheVariants as act
use Rattle.contact_ledger.specs.declared.features.Feature.{Feature}
use Rattle.dmis_program.specs.declared.features.Wanted.{Wanted}
use Rattle.protocol_model.specs.Claims.{MadeContact, contacts, IsRun}
use Rattle.witness.specs.declared.lines.Reported.{Reported}
use Rattle.witness.specs.declared.lines.Reported.TheVariants as reports

-- ---- what each line is for runs

-- a contact whose tool and frame are known; one whose tool or frame is not; what ends the runs on its connection; or what ends none
pub data Part : Type 0 where
  Made : Point → Option Direction → List ℕ → Frame → Point → Part
  Doubtful : Part
  Ends : Part
  Passes : Part

abbrev pub part_of : Reported → Part
part_of (reports.Did (act.Contact target dir tool frame point)) = Made target dir tool frame point
part_of (reports.Did (act.HomedIs homed)) = Passes
part_of (reports.Did act.Homed) = Passes
part_of (reports.Did (act.Moved target frame)) = Passes
part_of (reports.Did (act.Changed tool)) = Passes
part_of (reports.Did (act.Framed frame)) = Passes
part_of (reports.MovedSomewhere target) = Passes
part_of reports.FramedSomehow = Passes
part_of (reports.Touched target dir tool frame point) = Doubtful
part_of (reports.Other side line) = Ends
part_of (reports.Unasked line) = Ends
part_of (reports.Broken rule tag) = Ends
part_of reports.Opened = Ends
part_of reports.Left = Ends

-- a contact on its connection
abbrev pub made_on : ℕ → Part → List MadeContact
made_on n (Made target dir tool frame point) =
    record { connection = n; target = target; dir = dir; tool = tool; frame = frame; point = point } ∷ []
made_on n Doubtful = []
made_on n Ends = []
made_on n Passes = []

-- what was reported, as what it is for runs
abbrev pub entry_part : ℕ × Reported → ℕ × Part
entry_part entry = (entry.0, part_of entry.1)

abbrev pub parts_of : List (ℕ × Reported) → List (ℕ × Part)
parts_of entries = map entry_part entries

-- the contacts whose tool and frame are known, in order; their numbers are their places in this list, from 0 on
abbrev pub known_contacts : List (ℕ × Part) → List MadeContact
known_contacts [] = []
known_contacts ((n, part) ∷ lines) = made_on n part ++ known_contacts lines

-- a contact, with its tool and frame known or not; and one whose tool or frame is not known
abbrev pub is_touch : Part → Bool
is_touch (Made target dir tool frame point) = true
is_touch Doubtful = true
is_touch Ends = false
is_touch Passes = false

abbrev pub is_doubtful : Part → Bool
is_doubtful (Made target dir tool frame point) = false
is_doubtful Doubtful = true
is_doubtful Ends = false
is_doubtful Passes = false

-- a line that ends the runs on its connection
abbrev pub is_end : Part → Bool
is_end (Made target dir tool frame point) = false
is_end Doubtful = false
is_end Ends = true
is_end Passes = false

abbrev pub is_made : Part → Bool
is_made (Made target dir tool frame point) = true
is_made Doubtful = false
is_made Ends = false
is_made Passes = false

-- what may lie between two contacts of a run on connection n: nothing that is a contact, and nothing of this connection that ends runs
abbrev pub lies_between : ℕ → ℕ × Part → Bool
lies_between n (m, Made target dir tool frame point) = false
lies_between n (m, Doubtful) = false
lies_between n (m, Ends) = not (m == n)
lies_between n (m, Passes) = true

-- the contacts number k and k + 1 are on one connection, and what lies between them may
pub record AreNext (lines : List (ℕ × Part)) (k : ℕ) : Type 0 where
  pub before : List (ℕ × Part)
  pub one : ℕ × Part
  pub between : List (ℕ × Part)
  pub next : ℕ × Part
  pub after : List (ℕ × Part)
  pub all : lines ≡ before ++ (one ∷ (between ++ (next ∷ after)))
  pub number : length (known_contacts before) ≡ k
  pub one_made : is_made one.1 ≡ true
  pub next_made : is_made next.1 ≡ true
  pub same : next.0 ≡ one.0
  pub quiet : list_all (lies_between one.0) between ≡ true

-- ---- runs

-- a feature is a run of known contacts numbered from start on, as in a ledger, and each is next to the one before it
pub record IsToldRun (wanted : Wanted) (feature : Feature) (start : ℕ) (entries : List (ℕ × Reported)) : Type 0 where
  pub run : IsRun wanted feature start (known_contacts (parts_of entries))
  pub unbroken : (k : ℕ) → k + 1 < length feature.points → AreNext (parts_of entries) (start + k)

-- features are the first of the wanted ones, and theirs are such runs with these starts, none of which begins before the one before it has ended
abbrev pub AreToldRuns : List Wanted → List Feature → List ℕ → ℕ → List (ℕ × Reported) → Type 0
AreToldRuns ws [] [] least entries = Unit {0}
AreToldRuns (w ∷ ws) (f ∷ fs) (start ∷ starts) least entries =
    (least ≤ start) × IsToldRun w f start entries × AreToldRuns ws fs starts (start + length f.points) entries
AreToldRuns _ _ _ _ _ = ⊥

-- the features that a client holds are true of what was reported
pub record SoundByTold (wanted : List Wanted) (features : List Feature) (entries : List (ℕ × Reported)) : Type 0 where
  pub starts : List ℕ
  pub runs : AreToldRuns wanted features starts 0 entries

-- ---- the same in a ledger

-- the contact with a number, and its connection
abbrev pub connection_at : List MadeContact → ℕ → Option ℕ
connection_at [] k = None
connection_at (made ∷ others) zero = Some made.connection
connection_at (made ∷ others) (suc k) = connection_at others k

-- a contact without its connection
abbrev pub unnumbered : MadeContact → MadeContact
unnumbered made = record made { connection = 0 }

-- a ledger has the known contacts, in order, and two that follow one another have one connection in it exactly if they are next to one another
pub record AreRunContacts (entries : List (ℕ × Reported)) (ledger : List (ℕ × Act)) : Type 0 where
  pub alike : map unnumbered (contacts ledger) ≡ map unnumbered (known_contacts (parts_of entries))
  pub joined : (k : ℕ) → k + 1 < length (known_contacts (parts_of entries))
      → (connection_at (contacts ledger) k ≡ connection_at (contacts ledger) (k + 1)) ↔ AreNext (parts_of entries) k
