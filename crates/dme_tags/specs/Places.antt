-- Where a command is among those of its sort of tags.
use Rattle.std.specs.Prelude.{◌≡◌, ℕ, suc, ◌<◌, Bool, true, false, if◌then◌else◌, List, [], ◌∷◌, ◌++◌, length, get_or, take, drop}
use Rattle.std.specs.List.{list_all}
use Rattle.dme_line.specs.declared.tags.Tag.{Tag}
use Rattle.protocol_model.specs.Replies.{tag_is}
use Rattle.protocol_model.specs.Open.{is_held, is_failed}
use Rattle.protocol_model.specs.declared.held.OpenCommand.{OpenCommand}

-- this is the first command of a tag, and it is at this place
pub record IsAt (t : Tag) (hs : List OpenCommand) (i : ℕ) (h : OpenCommand) : Type 0 where
  pub within : i < length hs
  pub here : hs ≡ take i hs ++ h ∷ drop (suc i) hs
  pub its_tag : tag_is h.tag t ≡ true
  pub first : is_held t (take i hs) ≡ false

-- the first command of a tag is at this place
pub record IsFound (t : Tag) (hs : List OpenCommand) (i : ℕ) : Type 0 where
  pub within : i < length hs
  pub at : (h : OpenCommand) → get_or hs i h ≡ h → IsAt t hs i h

-- whether each of these commands has failed
abbrev pub all_failed : List OpenCommand → Bool
all_failed hs = list_all (λ h. is_failed h.stage) hs

-- the commands that were sent before the one of a tag
abbrev pub ahead_of : Tag → List OpenCommand → List OpenCommand
ahead_of t [] = []
ahead_of t (h ∷ hs) = if tag_is h.tag t then [] else h ∷ ahead_of t hs
