-- Lists of calls on one queue, in any order (this profile).
use Rattle.std.specs.Prelude.{◌≡◌, ◌<◌, ◌≤◌, List, [], ◌∷◌, ◌++◌, length}
use Rattle.protocol_model.specs.declared.lines.Waiting.{Waiting}
use Rattle.command_queue.specs.Limits.{places}

-- a call and how it ended: a command was put, or was handed back because the queue was full; one was taken, or there was none; all were
-- taken at once; all were discarded
pub data Call : Type 0 where
  Put : Waiting → Call
  Full : Waiting → Call
  Took : Waiting → Call
  TookNone : Call
  Drained : List Waiting → Call

-- what one call does to what waits: the clauses of the call
abbrev pub Does : List Waiting → Call → List Waiting → Type 0
Does before (Put w) after = (length before < places) × (after ≡ before ++ w ∷ [])
Does before (Full w) after = (places ≤ length before) × (after ≡ before)
Does before (Took w) after = before ≡ w ∷ after
Does before TookNone after = (before ≡ []) × (after ≡ [])
Does before (Drained ws) after = (ws ≡ before) × (after ≡ [])

-- what a list of calls does, in order
abbrev pub Do : List Waiting → List Call → List Waiting → Type 0
Do before [] after = before ≡ after
Do before (call ∷ calls) after = (between : List Waiting) × (Does before call between × Do between calls after)

-- the commands that calls put, in order
abbrev pub put_by : List Call → List Waiting
put_by [] = []
put_by (Put w ∷ calls) = w ∷ put_by calls
put_by (Full w ∷ calls) = put_by calls
put_by (Took w ∷ calls) = put_by calls
put_by (TookNone ∷ calls) = put_by calls
put_by (Drained ws ∷ calls) = put_by calls

-- the commands that calls took, in order
abbrev pub taken_by : List Call → List Waiting
taken_by [] = []
taken_by (Put w ∷ calls) = taken_by calls
taken_by (Full w ∷ calls) = taken_by calls
taken_by (Took w ∷ calls) = w ∷ taken_by calls
taken_by (TookNone ∷ calls) = taken_by calls
taken_by (Drained ws ∷ calls) = ws ++ taken_by calls
