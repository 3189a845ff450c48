-- The two sorts of tags.
use Rattle.std.specs.Prelude.{◌≡◌, ℕ, ◌≤◌, Bool, true, false, List}
use Rattle.dme_line.specs.declared.tags.Tag.{Tag}
use Rattle.dme_line.specs.declared.tags.Tag.TheVariants.{Std, Event}
use Rattle.protocol_model.specs.Open.{is_held}
use Rattle.protocol_model.specs.declared.held.OpenCommand.{OpenCommand}
use Rattle.dme_tags.specs.Limits.{last_number}
use Rattle.dme_tags.specs.declared.drawing.Sort.{Sort}
use Rattle.dme_tags.specs.declared.drawing.Sort.TheVariants as sort

-- the tags of a sort by their numbers
abbrev pub numbered : Sort → ℕ → Tag
numbered sort.Standard = Std
numbered sort.Event = Event

-- whether the tags of a sort are those of event commands
abbrev pub is_event_sort : Sort → Bool
is_event_sort sort.Standard = false
is_event_sort sort.Event = true

-- each tag of a sort is held, whatever its number from 1 to the last
abbrev pub AreSpent : Sort → List OpenCommand → Type 0
AreSpent s hs = (n : ℕ) → 1 ≤ n → n ≤ last_number → is_held (numbered s n) hs ≡ true
