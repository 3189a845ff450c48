-- The open commands of a client on both sorts of tags, and what each call does to them (this profile).
use Rattle.std.specs.Prelude.{◌≡◌, ℕ, ◌<◌, ◌≤◌, ◌⊎◌, Bool, true, false, not, ◌&&◌, if◌then◌else◌, Option, Some, None, List, [], ◌∷◌, ◌++◌}
use Rattle.std.specs.Prelude.{Result, Ok, Err}
use Rattle.dme_line.specs.Kinds.{is_event_kind, IsTagOf}
use Rattle.dme_line.specs.declared.tags.Tag.{Tag}
use Rattle.dme_line.specs.declared.tags.Tag.TheVariants.{Std, Event}
use Rattle.dme_line.specs.declared.commands.Kind.{Kind}
use Rattle.protocol_model.specs.Replies.{Mark}
use Rattle.protocol_model.specs.Open.{Effect, Heard, heard_in, is_held}
use Rattle.protocol_model.specs.Client.{next_number, held_now}
use Rattle.protocol_model.specs.Ends.{held_kind}
use Rattle.protocol_model.specs.declared.states.Cause.{Cause}
use Rattle.protocol_model.specs.declared.held.OpenCommand.{OpenCommand}
use Rattle.dme_tags.specs.Limits.{last_number}
use Rattle.dme_tags.specs.Places.{ahead_of, all_failed}

-- the commands that are held under standard tags and under event tags, each in sending order; whether a standard command has failed
-- since the plan began; the numbers of the tags of both sorts that were drawn last, 0 if none was
pub record OpenValue : Type 0 where
  pub standard : List OpenCommand
  pub event : List OpenCommand
  pub failed : Bool
  pub drawn : ℕ
  pub event_drawn : ℕ

-- nothing is held, and nothing was drawn
abbrev pub none_open : OpenValue
none_open = record { standard = []; event = []; failed = false; drawn = 0; event_drawn = 0 }

-- the commands that are held under tags of this tag's sort
abbrev pub held_beside : Tag → OpenValue → List OpenCommand
held_beside (Std n) o = o.standard
held_beside (Event n) o = o.event

-- the kind of the command that is held under a tag
abbrev pub kind_under : Tag → OpenValue → Option Kind
kind_under (Std n) o = held_kind (Std n) o.standard
kind_under (Event n) o = held_kind (Event n) o.event

-- ---- drawing

-- a number as a tag of a sort
abbrev pub tagged : (ℕ → Tag) → Option ℕ → Option Tag
tagged sort None = None
tagged sort (Some n) = Some (sort n)

-- the tag that is drawn next for a command of this kind: an event tag for an abort, a standard tag for any other
abbrev pub next_tag : OpenValue → Kind → Option Tag
next_tag o kind =
    if is_event_kind kind
    then tagged Event (next_number Event o.event o.event_drawn)
    else tagged Std (next_number Std o.standard o.drawn)

-- a command of this kind is held under this tag from now on
abbrev pub with_drawn : OpenValue → Tag → Kind → OpenValue
with_drawn o (Std n) kind = record o { standard = o.standard ++ held_now (Std n) kind ∷ []; drawn = n }
with_drawn o (Event n) kind = record o { event = o.event ++ held_now (Event n) kind ∷ []; event_drawn = n }

-- the number of a tag, within its sort
abbrev pub number_of : Tag → ℕ
number_of (Std n) = n
number_of (Event n) = n

-- each tag that a command of this kind may have is held, whatever its number up to the last
abbrev pub IsSpentFor : Kind → OpenValue → Type 0
IsSpentFor kind o = (tag : Tag) → IsTagOf kind tag → number_of tag ≤ last_number → is_held tag (held_beside tag o) ≡ true

-- a number lies after the one that was drawn last and before the next one, where 1 comes again after the last
abbrev pub IsBetween : ℕ → ℕ → ℕ → Type 0
IsBetween last n next = ((last < n) × (n < next)) ⊎ ((next ≤ last) × (((last < n) × (n ≤ last_number)) ⊎ ((1 ≤ n) × (n < next))))

-- each number between the one that was drawn last and a tag's is held, so that none is passed over though it is free
abbrev pub ArePassedOver : Tag → OpenValue → Type 0
ArePassedOver (Std k) o = (n : ℕ) → IsBetween o.drawn n k → is_held (Std n) o.standard ≡ true
ArePassedOver (Event k) o = (n : ℕ) → IsBetween o.event_drawn n k → is_held (Event n) o.event ≡ true

-- ---- marks

-- whether a standard command has failed since the plan began, after one with this effect
abbrev pub failed_behind : Effect → Bool → Bool
failed_behind Effect.Quiet failed = failed
failed_behind Effect.Failure failed = true
failed_behind (Effect.Count kind given) failed = failed

-- the open commands after a mark with its effect, or why it is unexpected
abbrev pub Answer : Type 0
Answer = Result (OpenValue × Effect) Cause

-- the same where the mark is on a standard tag, from what it does to the standard commands
abbrev pub heard_standard : OpenValue → Heard → Answer
heard_standard o (Ok (hs, effect)) = Ok (record o { standard = hs; failed = failed_behind effect o.failed }, effect)
heard_standard o (Err cause) = Err cause

-- likewise if it is on an event tag; a failed event command holds no standard one back
abbrev pub heard_event : OpenValue → Heard → Answer
heard_event o (Ok (hs, effect)) = Ok (record o { event = hs }, effect)
heard_event o (Err cause) = Err cause

-- a mark goes to the command that is held under its tag; no standard command is at the front once one has failed
abbrev pub heard : OpenValue → Tag → Mark → Answer
heard o (Std n) m = heard_standard o (heard_in (not o.failed) o.standard (Std n) m)
heard o (Event n) m = heard_event o (heard_in true o.event (Event n) m)

-- a command that may be counted: each earlier one on its sort of tags has failed, and no standard one since the plan began
abbrev pub IsNext : Tag → OpenValue → Type 0
IsNext (Std n) o = (o.failed ≡ false) × (all_failed (ahead_of (Std n) o.standard) ≡ true)
IsNext (Event n) o = all_failed (ahead_of (Event n) o.event) ≡ true

-- the same as a test
abbrev pub is_next : Tag → OpenValue → Bool
is_next (Std n) o = not o.failed && all_failed (ahead_of (Std n) o.standard)
is_next (Event n) o = all_failed (ahead_of (Event n) o.event)
