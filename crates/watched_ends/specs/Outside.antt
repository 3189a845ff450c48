-- What the outside was asked and has answered, as far as promises speak of it (this profile).
use Rattle.std.specs.Prelude.{ℕ, List, [], ◌∷◌, ◌++◌}
use Rattle.effects.specs.declared.vocabulary.Slot.{Slot}
use Rattle.effects.specs.declared.vocabulary.Slot.TheVariants.{Up, Down, Order}
use Rattle.effects.specs.Effects.{Ask, Open, Read, Print, Say, Where, Reply, Done, Bytes, End, Missing, Failed, Short, Did}

pub record Outside : Type 0 where
  pub opened : List (Slot × Where)  -- the files that were opened, in this order
  pub up : List ℕ  -- the bytes that were read of each file
  pub down : List ℕ
  pub order : List ℕ
  pub ended : List Slot  -- those that were read to their ends, in this order
  pub printed : List (List ℕ)
  pub said : List (List ℕ)
  pub failed : List Ask  -- what was not carried out, but for what was said

abbrev pub untouched : Outside
untouched = record { opened = []; up = []; down = []; order = []; ended = []; printed = []; said = []; failed = [] }

-- an effect is asked for: from now on it may have happened, or a part of it
abbrev pub asks : Outside → Ask → Outside
asks o (Open slot place) = record o { opened = o.opened ++ (slot, place) ∷ [] }
asks o (Print text) = record o { printed = o.printed ++ text ∷ [] }
asks o (Say text) = record o { said = o.said ++ text ∷ [] }
asks o ask = o

abbrev pub fails : Outside → Ask → Outside
fails o ask = record o { failed = o.failed ++ ask ∷ [] }

-- a file is opened; that there is no order is no failure
abbrev pub opens : Outside → Slot → Where → Reply → Outside
opens o slot place Done = o
opens o slot place Short = o
opens o Order place Missing = o
opens o slot place reply = fails o (Open slot place)

abbrev pub finds : Outside → Slot → List ℕ → Outside
finds o Up piece = record o { up = o.up ++ piece }
finds o Down piece = record o { down = o.down ++ piece }
finds o Order piece = record o { order = o.order ++ piece }

abbrev pub reads : Outside → Slot → Reply → Outside
reads o slot (Bytes piece) = finds o slot piece
reads o slot End = record o { ended = o.ended ++ slot ∷ [] }
reads o slot Short = o
reads o slot reply = fails o (Read slot)

abbrev pub prints : Outside → List ℕ → Reply → Outside
prints o text Done = o
prints o text Short = o
prints o text reply = fails o (Print text)

-- it is answered
abbrev pub answers : Outside → Ask → Reply → Outside
answers o (Open slot place) reply = opens o slot place reply
answers o (Read slot) reply = reads o slot reply
answers o (Print text) reply = prints o text reply
answers o ask reply = o

-- the outside after all this was asked and answered, the last first
abbrev pub outside : List Did → Outside
outside [] = untouched
outside (did ∷ past) = answers (asks (outside past) did.0) did.0 did.1
