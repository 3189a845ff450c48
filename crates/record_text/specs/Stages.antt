-- The stages of reading a record, line by line, as the code keeps them. No public clause cites this.
use Rattle.std.specs.Prelude.{◌≡◌, ◌⊎◌, ℕ, ◌+◌, ◌<◌, ◌≤◌, take, drop, List, [], ◌∷◌, ◌++◌, length, codes, Option, Some, None, ◌-◌}
use Rattle.fixed_um.specs.Names.{IsName}
use Rattle.contact_ledger.specs.FeatureTexts.{IsPointCount}
use Rattle.contact_ledger.specs.Lines.{whole_lines}
use Rattle.dmis_program.specs.declared.features.Touch.{Touch}
use Rattle.dmis_program.specs.declared.features.Wanted.{Wanted}
use Rattle.record_text.specs.Heads.{IsPart, IsAskedTouch, header, part_line, feature_line, touch_line}
use Rattle.record_text.specs.Entries.{entry_line}
use Rattle.record_text.specs.Records.{Kept, nothing_kept, Follows}
use Rattle.record_text.specs.Reading.{BeginsHeader, IsForeign}
use Rattle.record_text.specs.Unfinished.{Unfinished, Asking}
use Rattle.record_text.specs.declared.entries.Entry.{Entry}
use Rattle.record_text.specs.declared.heads.Place.{Place}
use Rattle.record_text.specs.declared.heads.Place.TheVariants.{Between, Within, Done}
use Rattle.record_text.specs.declared.versions.Version.{Version}

-- where a reader is between two lines: before the first; between wanted features; within one; after END
pub data Stage : Type 0 where
  start : Stage
  head : Option (List ℕ) → List Wanted → Stage
  within : Option (List ℕ) → List Wanted → Unfinished → Stage
  body : Option (List ℕ) → List Wanted → Kept → Stage

-- a PART line, which can only be the second
pub record NamesPart (part : Option (List ℕ)) (asked : List Wanted) (line : List ℕ) (new : Stage) : Type 0 where
  pub text : List ℕ
  pub first : part ≡ None
  pub alone : asked ≡ []
  pub is_part : IsPart text
  pub line_is : line ≡ part_line text
  pub next : new ≡ head (Some text) []

-- a FEATURE line
pub record OpensFeature (part : Option (List ℕ)) (asked : List Wanted) (line : List ℕ) (new : Stage) : Type 0 where
  pub label : List ℕ
  pub count : ℕ
  pub named : IsName label
  pub counted : IsPointCount count
  pub line_is : line ≡ feature_line label count
  pub next : new ≡ within part asked (record { label = label; count = count; touches = [] })

-- END
pub record EndsHead (part : Option (List ℕ)) (asked : List Wanted) (line : List ℕ) (new : Stage) : Type 0 where
  pub line_is : line ≡ codes "END"
  pub next : new ≡ body part asked nothing_kept

-- the unfinished feature with one more touch; the wanted feature that it is with its last touch
abbrev pub with_touch : Unfinished → Touch → Unfinished
with_touch u t = record { label = u.label; count = u.count; touches = u.touches ++ t ∷ [] }

abbrev pub wanted_with : Unfinished → Touch → Wanted
wanted_with u t = record { label = u.label; touches = u.touches ++ t ∷ [] }

-- a TOUCH line that is not the last of its feature, and one that is
pub record AddsTouch (part : Option (List ℕ)) (asked : List Wanted) (u : Unfinished) (line : List ℕ) (new : Stage) : Type 0 where
  pub touch : Touch
  pub is_touch : IsAskedTouch touch
  pub line_is : line ≡ touch_line touch
  pub more : length u.touches + 1 < u.count
  pub next : new ≡ within part asked (with_touch u touch)

pub record EndsFeature (part : Option (List ℕ)) (asked : List Wanted) (u : Unfinished) (line : List ℕ) (new : Stage) : Type 0 where
  pub touch : Touch
  pub is_touch : IsAskedTouch touch
  pub line_is : line ≡ touch_line touch
  pub whole : length u.touches + 1 ≡ u.count
  pub next : new ≡ head part (asked ++ wanted_with u touch ∷ [])

-- the line of an entry that can follow
pub record FollowsLine (asked : List Wanted) (old : Kept) (line : List ℕ) (new : Kept) : Type 0 where
  pub entry : Entry
  pub line_is : line ≡ entry_line entry
  pub follows : Follows asked old entry new

pub record AddsEntry (part : Option (List ℕ)) (asked : List Wanted) (kept : Kept) (line : List ℕ) (new : Stage) : Type 0 where
  pub mid : Kept
  pub follows : FollowsLine asked kept line mid
  pub next : new ≡ body part asked mid

-- one line leads from a stage to the next
abbrev pub Next : Stage → List ℕ → Stage → Type 0
Next start line new = (version : Version) × (line ≡ header version) × (new ≡ head None [])
Next (head part asked) line new = NamesPart part asked line new ⊎ (OpensFeature part asked line new ⊎ EndsHead part asked line new)
Next (within part asked u) line new = AddsTouch part asked u line new ⊎ EndsFeature part asked u line new
Next (body part asked kept) line new = AddsEntry part asked kept line new

-- lines lead from a stage to another
abbrev pub Leads : Stage → List (List ℕ) → Stage → Type 0
Leads old [] new = new ≡ old
Leads old (line ∷ lines) new = (mid : Stage) × Next old line mid × Leads mid lines new

-- the stage of what was read of a head, and the place in it
abbrev pub stage_of : Asking → Place → Stage
stage_of asking Between = head asking.part asking.asked
stage_of asking (Within u) = within asking.part asking.asked u
stage_of asking Done = body asking.part asking.asked nothing_kept

-- a feature that is not finished lacks a touch
abbrev pub IsValid : Place → Type 0
IsValid Between = Unit {0}
IsValid (Within u) = length u.touches < u.count
IsValid Done = Unit {0}

-- the head continues
abbrev pub IsOpen : Place → Type 0
IsOpen Between = Unit {0}
IsOpen (Within u) = Unit {0}
IsOpen Done = ⊥

-- what is known of a text whose head was read up to END: the lines read, and those that are left
pub record HasHead (bytes : List ℕ) (asking : Asking) (rest : List ℕ) (number : ℕ) : Type 0 where
  pub left : drop number (whole_lines bytes) ≡ whole_lines rest
  pub read : Leads start (take number (whole_lines bytes)) (body asking.part asking.asked nothing_kept)
  pub count : number + length rest ≤ length bytes

-- the lines of a text lead to a stage of the head, which continues; a text without any line begins the first one
pub data HasTornHead (bytes : List ℕ) : Type 0 where
  none : whole_lines bytes ≡ [] → BeginsHeader bytes → HasTornHead bytes
  some : (asking : Asking) (place : Place) → IsOpen place → IsValid place → Leads start (whole_lines bytes) (stage_of asking place)
      → HasTornHead bytes

-- the lines before line n lead to a stage from which that line leads nowhere
pub record LeadsNowhere (bytes : List ℕ) (n : ℕ) : Type 0 where
  pub stage : Stage
  pub line : List ℕ
  pub more : List (List ℕ)
  pub first : 1 ≤ n
  pub above : Leads start (take (n - 1) (whole_lines bytes)) stage
  pub here : drop (n - 1) (whole_lines bytes) ≡ line ∷ more
  pub nowhere : (new : Stage) → Next stage line new → ⊥

-- line n is such a line, if lines that follow `above` others begin at this stage
pub record StopsAfter (from : Stage) (lines : List (List ℕ)) (above n : ℕ) : Type 0 where
  pub place : ℕ
  pub stage : Stage
  pub line : List ℕ
  pub more : List (List ℕ)
  pub number : n ≡ above + place + 1
  pub led : Leads from (take place lines) stage
  pub here : drop place lines ≡ line ∷ more
  pub nowhere : (new : Stage) → Next stage line new → ⊥

-- such a line, or a text of another file
abbrev pub IsBadHead : List ℕ → ℕ → Type 0
IsBadHead bytes n = LeadsNowhere bytes n ⊎ ((n ≡ 1) × IsForeign bytes)
