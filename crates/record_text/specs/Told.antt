-- What was reported to a client: the acts that it counted on all its connections, in order, and what is claimed of them (this profile).
use Rattle.std.specs.Prelude.{◌≡◌, ℕ, List, [], ◌∷◌, ◌++◌, length, take, drop}
use Rattle.fixed_um.specs.declared.lengths.Point.{Point}
use Rattle.contact_ledger.specs.declared.acts.Act.{Act}
use Rattle.contact_ledger.specs.declared.features.Feature.{Feature}
use Rattle.dmis_program.specs.declared.features.Touch.{Touch}
use Rattle.dmis_program.specs.declared.features.Wanted.{Wanted}
use Rattle.protocol_model.specs.Claims.{Serves, Sound, contacts}
use Rattle.protocol_model.specs.Ends.{ClientEnd}
use Rattle.client_core.specs.Calls.{Call, behind_call}

-- acts, each under the number of their connection
abbrev pub numbered : ℕ → List Act → List (ℕ × Act)
numbered n [] = []
numbered n (a ∷ acts) = (n, a) ∷ numbered n acts

-- the acts that a client has counted in the second state, and had not counted in the first; a connection and a restart begin an empty
-- list of counted acts, so that they report none
abbrev pub told_between : ClientEnd → ClientEnd → List (ℕ × Act)
told_between before after = numbered after.client.table.tally.connection
    (drop (length before.client.table.tally.counted) after.client.table.tally.counted)

-- the acts that a call counts, under the number of the connection
abbrev pub told_by : Call → ClientEnd → List (ℕ × Act)
told_by call e = told_between e (behind_call call e)

-- the acts that calls count, one call after another, on all connections
abbrev pub told_behind : List Call → ClientEnd → List (ℕ × Act)
told_behind [] e = []
told_behind (call ∷ calls) e = told_by call e ++ told_behind calls (behind_call call e)

-- the touches of the first of these features, if there is one
abbrev pub first_touches : List Wanted → List Touch
first_touches [] = []
first_touches (w ∷ ws) = w.touches

-- a ledger ends with the contacts of the unfinished feature: before them it makes the held features sound, and they are one unbroken run on
-- this connection that reported these points and serves the first touches of the wanted feature that is next
pub record EndsUnfinished (wanted : List Wanted) (features : List Feature) (points : List Point) (connection : ℕ)
    (ledger : List (ℕ × Act)) : Type 0
  where
    pub before : List (ℕ × Act)
    pub run : List (ℕ × Act)
    pub parts : ledger ≡ before ++ run
    pub sound : Sound wanted features before
    pub serves : Serves connection (take (length points) (first_touches (drop (length features) wanted))) points (contacts run)
