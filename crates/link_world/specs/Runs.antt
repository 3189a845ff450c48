-- Lists of events that happen to a world, one after another, and what comes of them (this profile).
use Rattle.std.specs.Prelude.{◌≡◌, ℕ, suc, ◌+◌, true, false, List, [], ◌∷◌, length}
use Rattle.protocol_model.specs.Undisturbed.{AreFirstLines, acts_planned, AreFirstActs, acts_in, AreFirstOf}
use Rattle.protocol_model.specs.World.{World, can, happens, run_of}
use Rattle.protocol_model.specs.declared.events.Event.{Event}
use Rattle.protocol_model.specs.declared.plans.Planned.{Planned}
use Rattle.link_world.specs.declared.worlds.world.RunCount.{RunCount}
use Rattle.link_world.specs.Claims.{takes_memory}

-- an event happened, could not happen, or ran out of memory
pub data Answer : Type 0 where
  Happened : Answer
  Refused : Answer
  Wanting : Answer

-- each event of a list has its answer, and they lead from one world to another; only what happened changes anything
abbrev pub Follows : World → List Event → List Answer → World → Type 0
Follows w [] [] v = v ≡ w
Follows w (e ∷ es) (Happened ∷ xs) v = (can e w ≡ true) × Follows (happens e w) es xs v
Follows w (e ∷ es) (Refused ∷ xs) v = (can e w ≡ false) × Follows w es xs v
Follows w (e ∷ es) (Wanting ∷ xs) v = (takes_memory e ≡ true) × (can e w ≡ true) × Follows w es xs v
Follows w _ _ v = ⊥

-- how many events happened
abbrev pub happened : List Answer → ℕ
happened [] = 0
happened (Happened ∷ xs) = suc (happened xs)
happened (Refused ∷ xs) = happened xs
happened (Wanting ∷ xs) = happened xs

-- how many could not happen
abbrev pub refused : List Answer → ℕ
refused [] = 0
refused (Happened ∷ xs) = refused xs
refused (Refused ∷ xs) = suc (refused xs)
refused (Wanting ∷ xs) = refused xs

-- how many ran out of memory
abbrev pub wanting : List Answer → ℕ
wanting [] = 0
wanting (Happened ∷ xs) = wanting xs
wanting (Refused ∷ xs) = wanting xs
wanting (Wanting ∷ xs) = suc (wanting xs)

-- a list of events led from one world to another; with the counts of those that happened, could not happen, and ran out of memory
pub record HasRun (w : World) (events : List Event) (v : World) (done not_now memory : ℕ) : Type 0 where
  pub answers : List Answer
  pub leads : Follows w events answers v
  pub done_are : happened answers ≡ done
  pub not_now_are : refused answers ≡ not_now
  pub memory_are : wanting answers ≡ memory

-- what is reported of a run: each event has its answer, the counts are of all events, and if memory sufficed it led where the events lead
pub record ReportsRun (w : World) (events : List Event) (v : World) (count : RunCount) : Type 0 where
  pub led : HasRun w events v count.done count.not_now count.memory
  pub all : count.done + count.not_now + count.memory ≡ length events
  pub whole : count.memory ≡ 0 → v ≡ run_of events w

-- a world has followed a plan: the client has written its first lines, the server has done its first acts, and what is counted is a prefix
-- of them
pub record FollowsPlan (plan : List Planned) (w : World) : Type 0 where
  pub lines : AreFirstLines w.written plan
  pub acts : AreFirstActs (acts_in w.server.server.ledger) (acts_planned plan)
  pub counted : AreFirstOf w.client.client.table.tally.counted (acts_in w.server.server.ledger)
