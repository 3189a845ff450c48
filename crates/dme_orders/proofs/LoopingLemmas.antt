-- What follows from the turns that both ends have taken.
use Rattle.dme_orders.proofs.Names.{[], ◌≡◌, ends_shown, Err, first_client, first_server, IfErr, inr, List, Meaning, None, Ok, OnOk, Option}
use Rattle.dme_orders.proofs.Names.{report_text, Result, SetupValue, simulated, Some, subst, ℕ}
use Rattle.fixed_um.specs.declared.lengths.Point.{Point}
use Rattle.protocol_model.specs.Ends.{ClientEnd}
use Rattle.server_core.specs.Serving.{ServerValue}
use Rattle.link_world.specs.LinkRuns.{client_side, LoopRan, LoopStopped, server_side}
use Rattle.link_world.specs.Watching.{TellsRun}
use Rattle.dme_orders.specs.Looping.{LeavesLoop, LoopCame, LoopsOver, LoopTold, StopsLoop}
use Rattle.link_world.specs.declared.connections.links.LoopFault.{LoopFault}
use Rattle.order_parts.specs.declared.ended.ConnectionEnd.{ConnectionEnd}

-- both ends, where they began as the client of a program and the server of a setup
abbrev loops_over : (window : ℕ) (setup : SetupValue) (program : Meaning) (ports now : LoopTold) (shifts : List Point)
    (client_old client : ClientEnd) (server_old server : ServerValue) (broken : Option LoopFault)
    → LoopCame (simulated shifts) (client_side client_old ports.client_left ports.client_taken)
    (client_side client now.client_left now.client_taken) (server_side server_old.end ports.server_left ports.server_taken)
    (server_side server.end now.server_left now.server_taken) broken
    → TellsRun client_old client ports.told now.told → shifts ≡ setup.shifts → client_old ≡ first_client program [] window
    → server_old ≡ record { setup = setup; end = first_server setup }
    → LoopsOver window setup program ports now broken
loops_over window setup program ports now shifts client_old client server_old server broken came tells machine begun served = record {
  client = client;
  server = server.end;
  came = subst (λ (s : List Point). LoopCame (simulated s)
      (client_side (first_client program [] window) ports.client_left ports.client_taken)
      (client_side client now.client_left now.client_taken)
      (server_side (first_server setup) ports.server_left ports.server_taken)
      (server_side server.end now.server_left now.server_taken) broken) machine
      (subst (λ (c : ClientEnd). LoopCame (simulated shifts)
      (client_side c ports.client_left ports.client_taken)
      (client_side client now.client_left now.client_taken)
      (server_side (first_server setup) ports.server_left ports.server_taken)
      (server_side server.end now.server_left now.server_taken) broken) begun
      (subst (λ (s : ServerValue). LoopCame (simulated shifts)
      (client_side client_old ports.client_left ports.client_taken)
      (client_side client now.client_left now.client_taken)
      (server_side s.end ports.server_left ports.server_taken)
      (server_side server.end now.server_left now.server_taken) broken) served came));
  watched = subst (λ (c : ClientEnd). TellsRun c client ports.told now.told) begun tells;
}

-- the report of both ends
pub loop_leaves : (window : ℕ) (setup : SetupValue) (program : Meaning) (ports now : LoopTold) (shifts : List Point)
    (client_old client : ClientEnd) (server_old server : ServerValue) (ended : ConnectionEnd) (text : List ℕ)
    → LoopCame (simulated shifts) (client_side client_old ports.client_left ports.client_taken)
    (client_side client now.client_left now.client_taken) (server_side server_old.end ports.server_left ports.server_taken)
    (server_side server.end now.server_left now.server_taken) ended.broken
    → TellsRun client_old client ports.told now.told → shifts ≡ setup.shifts → client_old ≡ first_client program [] window
    → server_old ≡ record { setup = setup; end = first_server setup } → ended.state ≡ client.client.state
    → text ≡ report_text (ends_shown client server.end.server.ledger)
    → LeavesLoop window setup program ports now ended text
loop_leaves window setup program ports now shifts client_old client server_old server ended text came tells machine begun served stands told =
    record {
      ends = loops_over window setup program ports now shifts client_old client server_old server ended.broken came tells machine begun
          served;
      stands = stands;
      told = told;
    }

-- where there was no memory for it
pub loop_stops : (window : ℕ) (setup : SetupValue) (program : Meaning) (ports now : LoopTold) (shifts : List Point)
    (client_old client : ClientEnd) (server_old server : ServerValue) (r : Result (Unit {0}) LoopFault)
    → OnOk r (LoopRan (simulated shifts) (client_side client_old ports.client_left ports.client_taken)
    (client_side client now.client_left now.client_taken) (server_side server_old.end ports.server_left ports.server_taken)
    (server_side server.end now.server_left now.server_taken))
    → IfErr r (λ fault. LoopStopped (simulated shifts) (client_side client_old ports.client_left ports.client_taken)
    (client_side client now.client_left now.client_taken) (server_side server_old.end ports.server_left ports.server_taken)
    (server_side server.end now.server_left now.server_taken) fault)
    → TellsRun client_old client ports.told now.told → shifts ≡ setup.shifts → client_old ≡ first_client program [] window
    → server_old ≡ record { setup = setup; end = first_server setup } → StopsLoop window setup program ports now
loop_stops window setup program ports now shifts client_old client server_old server (Ok u) ran stopped tells machine begun served = inr (
  None,
  loops_over window setup program ports now shifts client_old client server_old server None ran tells machine begun served,
)
loop_stops window setup program ports now shifts client_old client server_old server (Err fault) ran stopped tells machine begun served = inr (
  Some fault,
  loops_over window setup program ports now shifts client_old client server_old server (Some fault) stopped tells machine begun served,
)
