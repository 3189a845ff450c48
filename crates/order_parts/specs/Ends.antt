-- The two ends of an order's connection: their first states on it, and what is shown of them (this profile).
use Rattle.std.specs.Prelude.{ℕ, List, [], length}
use Rattle.contact_ledger.specs.declared.acts.Act.{Act}
use Rattle.contact_ledger.specs.declared.features.Feature.{Feature}
use Rattle.tool_rack.specs.Setups.{SetupValue}
use Rattle.dmis_program.specs.Meaning.{Meaning}
use Rattle.protocol_model.specs.Ends.{ClientEnd, ServerEnd, new_client_end, new_server_end, end_connected, serving_accepted}
use Rattle.link_world.specs.Reports.{reported}
use Rattle.link_world.specs.declared.texts.reports.Report.{Report}

-- the client of a program of which these features are kept, on connection 1
abbrev pub first_client : Meaning → List Feature → ℕ → ClientEnd
first_client program kept window = end_connected 1 (new_client_end program kept window)

-- the server of a setup, on connection 1
abbrev pub first_server : SetupValue → ServerEnd
first_server setup = serving_accepted 1 (new_server_end setup.tools)

-- what is shown of a client and a server's ledger
abbrev pub ends_shown : ClientEnd → List (ℕ × Act) → Report
ends_shown e ledger = record {
  state = e.client.state;
  counted = length e.client.table.tally.counted;
  features = e.client.table.tally.features;
  contacts = reported ledger;
}

-- what is shown of a client without a ledger
abbrev pub end_shown : ClientEnd → Report
end_shown e = ends_shown e []
