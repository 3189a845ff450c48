-- What running a program over one connection between both ends leaves (this profile).
use Rattle.std.specs.Prelude.{◌≡◌, ◌⊎◌, ℕ, List, [], Option, None, Some}
use Rattle.tool_rack.specs.Setups.{SetupValue}
use Rattle.dmis_program.specs.Meaning.{Meaning}
use Rattle.protocol_model.specs.Ends.{ClientEnd, ServerEnd}
use Rattle.protocol_model.specs.declared.machine.Job.{Job}
use Rattle.protocol_model.specs.declared.machine.Outcome.{Outcome}
use Rattle.link_world.specs.LinkRuns.{ClientSide, ServerSide, client_side, server_side, LoopRan, LoopStopped}
use Rattle.link_world.specs.Machines.{simulated}
use Rattle.link_world.specs.Reports.{report_text}
use Rattle.link_world.specs.Watching.{Note, TellsRun}
use Rattle.link_world.specs.declared.connections.links.LoopFault.{LoopFault}
use Rattle.order_parts.specs.Ends.{first_client, first_server, ends_shown}
use Rattle.order_parts.specs.declared.ended.ConnectionEnd.{ConnectionEnd}

-- what the four ports of a connection's two ends and the client's watcher report
pub record LoopTold : Type 0 where
  pub client_left : Option (List ℕ)
  pub client_taken : Option (List ℕ)
  pub server_left : Option (List ℕ)
  pub server_taken : Option (List ℕ)
  pub told : Option (List Note)

abbrev pub loop_told : (client_left client_taken server_left server_taken : Option (List ℕ)) → Option (List Note) → LoopTold
loop_told client_left client_taken server_left server_taken told = record {
  client_left = client_left;
  client_taken = client_taken;
  server_left = server_left;
  server_taken = server_taken;
  told = told;
}

-- turns of both sides up to a pair in which nothing moved, or up to the fault that broke them off
abbrev pub LoopCame : (Job → ℕ → Outcome) → ClientSide → ClientSide → ServerSide → ServerSide → Option LoopFault → Type 0
LoopCame answer c c_now s s_now None = LoopRan answer c c_now s s_now
LoopCame answer c c_now s s_now (Some fault) = LoopStopped answer c c_now s s_now fault

-- the client of a program and the server of a setup with its simulated machine, both on connection 1, have taken their turns, which ended
-- so, and what they completed was reported to the watcher
pub record LoopsOver (window : ℕ) (setup : SetupValue) (program : Meaning) (ports ports_now : LoopTold) (broken : Option LoopFault) : Type 0
  where
    pub client : ClientEnd
    pub server : ServerEnd
    pub came : LoopCame (simulated setup.shifts)
        (client_side (first_client program [] window) ports.client_left ports.client_taken)
        (client_side client ports_now.client_left ports_now.client_taken)
        (server_side (first_server setup) ports.server_left ports.server_taken)
        (server_side server ports_now.server_left ports_now.server_taken) broken
    pub watched : TellsRun (first_client program [] window) client ports.told ports_now.told

-- they have taken their turns; this is how that ended, and this is the report of what they then are
pub record LeavesLoop (window : ℕ) (setup : SetupValue) (program : Meaning) (ports ports_now : LoopTold) (ended : ConnectionEnd)
    (text : List ℕ)
    : Type 0 where
  pub ends : LoopsOver window setup program ports ports_now ended.broken
  pub stands : ended.state ≡ ends.client.client.state
  pub told : text ≡ report_text (ends_shown ends.client ends.server.server.ledger)

-- if out of memory, nothing has moved, or they have taken their turns
abbrev pub StopsLoop : (window : ℕ) → SetupValue → Meaning → (ports ports_now : LoopTold) → Type 0
StopsLoop window setup program ports ports_now =
    (ports_now ≡ ports) ⊎ ((broken : Option LoopFault) × LoopsOver window setup program ports ports_now broken)
