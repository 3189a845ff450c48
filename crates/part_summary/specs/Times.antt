-- The order of parts in a run chart (this profile): that of the times at which their measurement began.
use Rattle.std.specs.Prelude.{ℕ, ◌+◌, ◌==◌, Bool, true, false, nat_lt, List, [], ◌∷◌, take, Option, Some, None, if◌then◌else◌}
use Rattle.record_text.specs.declared.run_errors.Remark.{Remark}
use Rattle.record_text.specs.declared.notes.Note.{Note}
use Rattle.record_text.specs.declared.notes.Note.TheVariants.{Refused, By, Operator, Program, Setup, Opened, Dated, Left, Sealed}
use Rattle.part_summary.specs.Spans.{Span}

abbrev pub is_opened : Note → Bool
is_opened Refused = false
is_opened By = false
is_opened Operator = false
is_opened Program = false
is_opened Setup = false
is_opened Opened = true
is_opened Dated = false
is_opened Left = false
is_opened Sealed = false

-- the time of the first connection that is noted: in UTC with milliseconds (RFC 3339), 24 bytes
abbrev pub time_in : List Remark → Option (List ℕ)
time_in [] = None
time_in (r ∷ notes) = if is_opened r.note then Some (take 24 r.text) else time_in notes

-- such times are ordered as their bytes are
abbrev pub is_earlier : List ℕ → List ℕ → Bool
is_earlier [] other = false
is_earlier (b ∷ time) [] = false
is_earlier (b ∷ time) (c ∷ other) = if b == c then is_earlier time other else nat_lt b c

-- a time comes after an earlier one, and no time after any
abbrev pub is_after : Option (List ℕ) → Option (List ℕ) → Bool
is_after None None = false
is_after None (Some other) = true
is_after (Some time) None = false
is_after (Some time) (Some other) = is_earlier other time

-- a part that counts, as a run chart needs it: its name, how many features of the program it has, when its measurement began, if that is
-- noted, and how far the deviations of each feature reach
pub record Plot : Type 0 where
  pub name : List ℕ
  pub measured : ℕ
  pub time : Option (List ℕ)
  pub spans : List (Option Span)

-- a part before the first of others that comes after it: of parts with equal times, the one that was read first is first
abbrev pub placed : Plot → List Plot → List Plot
placed p [] = p ∷ []
placed p (q ∷ others) = if is_after q.time p.time then p ∷ q ∷ others else q ∷ placed p others

-- how many are before it
abbrev pub place_for : Option (List ℕ) → List Plot → ℕ
place_for time [] = 0
place_for time (q ∷ others) = if is_after q.time time then 0 else 1 + place_for time others
