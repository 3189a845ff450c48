-- What the watcher of a run of a client is shown (this profile).
use Rattle.protocol_model.specs.Ends.{ClientEnd}
use Rattle.client_core.specs.Calls.{Call, Connected, Send, Feed, ReadOne, Abort, Resume, Leave, Restart, Sent, behind_call}

-- a call that a run makes of its client: it makes no connection, resumes no plan and restarts no client
abbrev pub IsRunCall : Call → Type 0
IsRunCall (Connected n) = ⊥
IsRunCall Resume = ⊥
IsRunCall (Restart k) = ⊥
IsRunCall Send = Unit {0}
IsRunCall (Feed bytes) = Unit {0}
IsRunCall ReadOne = Unit {0}
IsRunCall Abort = Unit {0}
IsRunCall Leave = Unit {0}
IsRunCall (Sent k) = Unit {0}

-- a client and its watcher, from what both were at first: the client makes such calls, and is shown to the watcher as it then is, in any
-- order; `Shows` is what one showing makes of the watcher
pub data Shown {N : Type 0} (Shows : ClientEnd → N → N → Type 0) (first : ClientEnd) (old : N) : ClientEnd → N → Type 0 where
  begins : Shown Shows first old first old
  calls : (e : ClientEnd) (w : N) (call : Call) → Shown Shows first old e w → IsRunCall call → Shown Shows first old (behind_call call e) w
  shows : (e : ClientEnd) (w w_now : N) → Shown Shows first old e w → Shows e w w_now → Shown Shows first old e w_now

-- the last that was done is that the client was shown, as it is at the end
pub record EndsShown {N : Type 0} (Shows : ClientEnd → N → N → Type 0) (first last : ClientEnd) (old new : N) : Type 0 where
  pub before : N
  pub run : Shown Shows first old last before
  pub shown : Shows last before new
