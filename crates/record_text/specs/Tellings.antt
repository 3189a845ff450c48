-- The entries that a client adds to the record of its run while it counts the acts of a connection (this profile).
use Rattle.std.specs.Prelude.{◌≡◌, ℕ, ◌+◌, map, nat_le, if◌then◌else◌, List, [], ◌∷◌, ◌++◌, length, slice_get, Option, Some, None}
use Rattle.contact_ledger.specs.Ledgers.{is_contact}
use Rattle.contact_ledger.specs.declared.acts.Act.{Act}
use Rattle.dmis_program.specs.declared.features.Wanted.{Wanted}
use Rattle.contact_ledger.specs.Lines.{text_of}
use Rattle.record_text.specs.Entries.{entry_line}
use Rattle.record_text.specs.declared.entries.Entry.{Entry}
use Rattle.record_text.specs.declared.entries.Entry.TheVariants.{Told, Completed}

-- how many features are complete, and how many points of the next one are counted
pub record Counted : Type 0 where
  pub features : ℕ
  pub points : ℕ

-- one more point of the next wanted feature, which may be its last
abbrev pub one_point : ℕ → Option Wanted → Counted → Counted × List Entry
one_point n None c = (c, [])
one_point n (Some w) c = if nat_le (length w.touches) (c.points + 1)
    then (record { features = c.features + 1; points = 0 }, Completed n w.label ∷ [])
    else (record { features = c.features; points = c.points + 1 }, [])

-- what an act counts for, and the entries that follow its own: a contact is a point of the next wanted feature, if there is one
abbrev pub counted : List Wanted → ℕ → Act → Counted → Counted × List Entry
counted wanted n act c = if is_contact act then one_point n (slice_get wanted c.features) c else (c, [])

-- the entries of acts of a connection, in order
abbrev pub entries_of : List Wanted → ℕ → Counted → List Act → List Entry
entries_of wanted n c [] = []
entries_of wanted n c (act ∷ acts) = Told n act ∷ ((counted wanted n act c).1 ++ entries_of wanted n (counted wanted n act c).0 acts)

-- what is counted after them
abbrev pub counted_after : List Wanted → ℕ → Counted → List Act → Counted
counted_after wanted n c [] = c
counted_after wanted n c (act ∷ acts) = counted_after wanted n (counted wanted n act c).0 acts

-- what is counted on a connection
pub record Telling : Type 0 where
  pub connection : ℕ
  pub counted : Counted

-- what is counted on a connection after acts
abbrev pub told_on : List Wanted → Telling → List Act → Telling
told_on wanted t acts = record { connection = t.connection; counted = counted_after wanted t.connection t.counted acts }

-- an act was counted, and the lines of what follows it were added to a text
pub record Counts (wanted : List Wanted) (old : Telling) (act : Act) (new : Telling) (before after : List ℕ) : Type 0 where
  pub same : new.connection ≡ old.connection
  pub count : new.counted ≡ (counted wanted old.connection act old.counted).0
  pub text : after ≡ before ++ text_of (map entry_line (counted wanted old.connection act old.counted).1)
