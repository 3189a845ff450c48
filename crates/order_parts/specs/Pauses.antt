-- What a run holds back at texts for its operator (where a run waits is this profile's).
use Rattle.std.specs.Prelude.{ℕ, Bool, ◌&&◌, not, List, [], ◌∷◌, if◌then◌else◌, nat_eq}
use Rattle.order_parts.specs.declared.pausing.TextPlace.{TextPlace}

-- what is known of a text in a run: how many commands it holds back, whether the run waits there, and whether it stands above each touch that is left
pub record Held : Type 0 where
  pub count : ℕ
  pub waits : Bool
  pub first : Bool

abbrev pub place_seen : TextPlace → Held
place_seen p = record { count = p.held; waits = p.is_waited; first = p.is_first }

-- how many commands are held back at each pause: at texts with no command between them, there is one
abbrev pub pauses_from : ℕ → List Held → List ℕ
pauses_from before [] = []
pauses_from before (h ∷ places) = if h.waits && not (nat_eq h.count before) then h.count ∷ pauses_from h.count places
    else pauses_from before places

abbrev pub pauses_of : List Held → List ℕ
pauses_of places = pauses_from 0 places
