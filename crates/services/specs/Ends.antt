-- How many effects the sessions of `serve` and `watch` ask for at most at their end (this profile).
use Rattle.std.specs.Prelude.{◌≡◌, ◌≤◌, ◌+◌, ◌-◌, ℕ, zero, suc, Bool, true, false, Result, Ok, Err}
use Rattle.services.specs.Files.{count_of}
use Rattle.services.specs.Relays.{RelayState}
use Rattle.services.specs.Sessions.{State, is_closing}
use Rattle.services.specs.declared.relay_stages.RelayStage.{RelayStage}
use Rattle.services.specs.declared.relay_stages.RelayStage.TheVariants as relay
use Rattle.services.specs.declared.stages.Stage.{Stage}
use Rattle.services.specs.declared.stages.Stage.TheVariants as stage

-- what is ahead of a session: whether it is at its end, and how many other effects it then asks for at most before its exit
pub record Ahead : Type 0 where
  pub ends : Bool
  pub left : ℕ

abbrev pub at_end : ℕ → Ahead
at_end n = record { ends = true; left = n }

abbrev pub unending : Ahead
unending = record { ends = false; left = 0 }

-- it is at its end, and has that many left at most
pub record IsWithin (most : ℕ) (a : Ahead) : Type 0 where
  pub ends : a.ends ≡ true
  pub fewer : a.left ≤ most

-- after an answer a session that was at its end is so again, and has fewer left, or none
abbrev pub Nears : Ahead → Ahead → Type 0
Nears a b = a.ends ≡ true → IsWithin (a.left - 1) b

-- one of these comes of another by that many answers
pub data After : ℕ → Ahead → Ahead → Type 0 where
  none : (a : Ahead) → After zero a a
  one : (n : ℕ) (a b c : Ahead) → After n a b → Nears b c → After (suc n) a c

-- ---- of `serve`

abbrev pub ahead_of : Stage → Ahead
ahead_of stage.Replacing = at_end 3
ahead_of stage.Printing = at_end 2
ahead_of stage.Discarding = at_end 2
ahead_of stage.Telling = at_end 1
ahead_of stage.Exiting = at_end 0
ahead_of s = unending

abbrev pub ahead_at : (stage next : Stage) → Ahead
ahead_at stage.Saying next = record (ahead_of next) { left = suc ((ahead_of next).left) }
ahead_at s next = ahead_of s

abbrev pub ahead : State → Ahead
ahead s = ahead_at s.stage s.next

-- if memory runs out its stage stays, and is one from which the last message is nearer
abbrev pub NearsOn : {A E : Type 0} → Result A E → State → State → Type 0
NearsOn (Ok a) s t = IsWithin ((ahead s).left - 1) (ahead t)
NearsOn (Err e) s t = (t.stage ≡ s.stage) × (is_closing s.stage ≡ true)

-- ---- of `watch`

-- that many files of a recording are to be removed
abbrev pub relay_ahead_at : (stage next : RelayStage) → (files : ℕ) → Ahead
relay_ahead_at relay.Discarding next files = at_end (2 + files)
relay_ahead_at relay.Removing relay.Exiting files = at_end (2 + (files - 1))
relay_ahead_at relay.Saying relay.Exiting files = at_end 1
relay_ahead_at relay.Parting next files = at_end 1
relay_ahead_at relay.Exiting next files = at_end 0
relay_ahead_at s next files = unending

abbrev pub relay_ahead : RelayState → Ahead
relay_ahead s = relay_ahead_at s.stage s.next (count_of s.files)
