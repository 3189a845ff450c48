-- Pairs of turns one after another.
use Rattle.link_world.proofs.Names.{◌+◌, ◌<◌, ◌≡◌, are_still, ClientSide, false, Job, LoopRan, LoopRun, LoopStopped, Moved, Outcome, PairMoved}
use Rattle.link_world.proofs.Names.{PairStopped, PumpFault, server_leaves, ServerSide, subst, true, turns_most, ℕ}
use Rattle.link_world.specs.declared.connections.links.LoopFault.{LoopFault}
use Rattle.link_world.specs.LinkRuns.{client_leaves}
use Rattle.link_world.specs.LinkRuns as run

pub pair_goes : (answer now : Job → ℕ → Outcome) (pairs down : ℕ) (c c_mid c_now : ClientSide) (s s_mid s_now : ServerSide)
    (by_client by_server : Moved) → LoopRun answer c s pairs down c_mid s_mid → now ≡ answer
    → PairMoved now down c_mid c_now s_mid s_now by_client by_server → are_still by_client by_server ≡ false
    → LoopRun answer c s (pairs + 1) by_server.written c_now s_now
pair_goes answer now pairs down c c_mid c_now s s_mid s_now by_client by_server h same m moves =
    run.goes pairs down c_mid c_now s_mid s_now by_client by_server h
    (subst (λ (a : Job → ℕ → Outcome). PairMoved a down c_mid c_now s_mid s_now by_client by_server) same m) moves

pub loop_ran : (answer now : Job → ℕ → Outcome) (pairs down : ℕ) (c c_mid c_now : ClientSide) (s s_mid s_now : ServerSide)
    (by_client by_server : Moved) → LoopRun answer c s pairs down c_mid s_mid → pairs < turns_most → now ≡ answer
    → PairMoved now down c_mid c_now s_mid s_now by_client by_server → are_still by_client by_server ≡ true
    → LoopRan answer c c_now s s_now
loop_ran answer now pairs down c c_mid c_now s s_mid s_now by_client by_server h few same m still = record {
  pairs = pairs;
  down = down;
  c_mid = c_mid;
  s_mid = s_mid;
  by_client = by_client;
  by_server = by_server;
  run = h;
  few = few;
  last = subst (λ (a : Job → ℕ → Outcome). PairMoved a down c_mid c_now s_mid s_now by_client by_server) same m;
  still = still;
}

pub loop_stops : (answer now : Job → ℕ → Outcome) (pairs down : ℕ) (c c_mid c_now : ClientSide) (s s_mid s_now : ServerSide)
    (f : LoopFault) → LoopRun answer c s pairs down c_mid s_mid → pairs < turns_most → now ≡ answer
    → PairStopped now down c_mid c_now s_mid s_now f → LoopStopped answer c c_now s s_now f
loop_stops answer now pairs down c c_mid c_now s s_mid s_now f h few same p =
    run.stops pairs down c_mid s_mid f h few (subst (λ (a : Job → ℕ → Outcome). PairStopped a down c_mid c_now s_mid s_now f) same p)

pub loop_spends : (answer : Job → ℕ → Outcome) (pairs down : ℕ) (c c_mid c_now : ClientSide) (s s_mid s_now : ServerSide)
    → LoopRun answer c s pairs down c_mid s_mid → pairs ≡ turns_most → c_now ≡ client_leaves c_mid → s_now ≡ server_leaves s_mid
    → LoopStopped answer c c_now s s_now (LoopFault.Client PumpFault.TurnsSpent)
loop_spends answer pairs down c c_mid c_now s s_mid s_now h all of_client of_server =
    run.spends down c_mid s_mid (subst (λ (n : ℕ). LoopRun answer c s n down c_mid s_mid) all h) of_client of_server
