-- What the session of `ledger` or `judge` promises of the outside (this profile).
use Rattle.std.specs.Prelude.{◌≡◌, ◌≢◌, ◌⊎◌, ℕ, List, [], ◌∷◌, ◌++◌}
use Rattle.effects.specs.declared.vocabulary.Slot.{Slot}
use Rattle.effects.specs.declared.vocabulary.Slot.TheVariants.{Up, Down, Order}
use Rattle.effects.specs.Effects.{Ask, Open, Read, Print, Say, Exit, Where}
use Rattle.watched_ends.specs.declared.recorded.Order.TheVariants as ordered
use Rattle.watched_ends.specs.declared.recorded.Order as the
use Rattle.watched_ends.specs.Jobs.{IsAnswer}
use Rattle.watched_ends.specs.Sessions.{Called, place_of, name_of, cannot_read, cannot_write, out_of_memory, AreNotes}
use Rattle.watched_ends.specs.Outside.{Outside}

-- the files, in the order in which they are read
abbrev pub files : Called → List (Slot × Where)
files c = (Up, place_of Up c) ∷ (Down, place_of Down c) ∷ (Order, place_of Order c) ∷ []

abbrev pub all_files : List Slot
all_files = Up ∷ Down ∷ Order ∷ []

-- all was read to its end, and this text and status are due, with what is known of the order between the two ends
pub record Reports (c : Called) (o : Outside) (text : List ℕ) (order : the.Order) (status : ℕ) : Type 0 where
  pub opened : o.opened ≡ files c
  pub ended : o.ended ≡ all_files
  pub answer : IsAnswer c.job o.up o.down o.order text order status

-- the text that goes with a status is printed, once, after what is to be noted of the recordings was said
pub record Prints (c : Called) (o : Outside) (status : ℕ) : Type 0 where
  pub text : List ℕ
  pub order : the.Order
  pub notes : List ℕ
  pub reports : Reports c o text order status
  pub theirs : order ≢ ordered.NotTheirs
  pub notes_are : AreNotes c o.up o.down order notes
  pub noted : (later : List (List ℕ)) × (o.said ≡ notes ∷ later)
  pub printed : o.printed ≡ text ∷ []

-- at any moment: the named files are opened in their order, and no others; nothing is printed before all was read
pub record Kept (c : Called) (o : Outside) : Type 0 where
  pub opened : (later : List (Slot × Where)) × (files c ≡ o.opened ++ later)
  pub printed : (o.printed ≡ []) ⊎ ((status : ℕ) × Prints c o status)

-- the message for an effect that was not carried out
abbrev pub blamed : Called → Ask → List ℕ
blamed c (Open slot place) = cannot_read (name_of slot c)
blamed c (Read slot) = cannot_read (name_of slot c)
blamed c _ = cannot_write

-- the notes of recordings that are not those of the order, and that it cannot be read
pub record IsNotTheirs (c : Called) (o : Outside) : Type 0 where
  pub text : List ℕ
  pub notes : List ℕ
  pub status : ℕ
  pub reports : Reports c o text ordered.NotTheirs status
  pub notes_are : AreNotes c o.up o.down ordered.NotTheirs notes
  pub said : o.said ≡ (notes ++ cannot_read (name_of Order c)) ∷ []

-- a message is the last that is said, and the first, unless notes come before it
abbrev pub IsLast : Called → Outside → List ℕ → Type 0
IsLast c o message = (o.said ≡ message ∷ [])
    ⊎ ((notes : List ℕ) × (order : the.Order) × AreNotes c o.up o.down order notes × (o.said ≡ notes ∷ message ∷ []))

-- what came before an exit with this status
pub data Comes (c : Called) (o : Outside) : ℕ → Type 0 where
  is_whole : (status : ℕ) (p : Prints c o status) → o.failed ≡ [] → o.said ≡ p.notes ∷ [] → Comes c o status
  is_failed : (ask : Ask) → o.failed ≡ ask ∷ [] → IsLast c o (blamed c ask) → Comes c o 1
  is_other : o.failed ≡ [] → o.printed ≡ [] → IsNotTheirs c o → Comes c o 1
  is_short : IsLast c o out_of_memory → Comes c o 4
