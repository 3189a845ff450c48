-- What a client has counted, as its code keeps it: a plan with the indices of its first uncounted and its first unsent command in place
-- of what is left of it.
use Rattle.std.specs.Prelude.{ℕ, Bool, true, false, List, [], ◌∷◌, Option, Some, None, drop}
use Rattle.fixed_um.specs.declared.lengths.Point.{Point}
use Rattle.contact_ledger.specs.declared.acts.Act.{Act}
use Rattle.contact_ledger.specs.declared.features.Feature.{Feature}
use Rattle.dme_line.specs.declared.tags.Tag.{Tag}
use Rattle.dmis_program.specs.Meaning.{Meaning}
use Rattle.dme_tags.specs.Opened.{OpenValue}
use Rattle.protocol_model.specs.Client.{Client, Tally}
use Rattle.protocol_model.specs.declared.held.Datum.{Datum}
use Rattle.protocol_model.specs.declared.held.Datum.TheVariants as datum
use Rattle.protocol_model.specs.declared.plans.Does.{Does}
use Rattle.protocol_model.specs.declared.states.State.{State}
use Rattle.protocol_model.specs.declared.states.Cause.{Cause}
use Rattle.client_core.specs.Tables.{table_of}
use Rattle.client_core.specs.declared.progress.Progress.{Progress}

-- what `protocol_model` specifies for it, with whether a standard command has failed
abbrev pub tally_of : Bool → Progress → Tally
tally_of failed p = record {
  connection = p.connection;
  failed = failed;
  session = p.session;
  todo = drop p.todo p.plan.items;
  unsent = drop p.unsent p.plan.items;
  counted = p.counted.items;
  points = p.points;
  features = p.features;
  completed = p.completed;
}

-- a tally with these points of the unfinished feature and these features, on the connection of this number
abbrev pub measured_so : ℕ → List Point → List Feature → Tally → Tally
measured_so connection points features y = record y { connection = connection; points = points; features = features }

-- an act, if there is one
abbrev pub listed : Option Act → List Act
listed None = []
listed (Some act) = act ∷ []

-- a touch whose data line gave a point
abbrev pub is_contact : Does → Option Datum → Bool
is_contact (Does.Touches t last) (Some (datum.Point p)) = true
is_contact _ _ = false

-- what `protocol_model` specifies for a client whose code keeps these
abbrev pub seen : Meaning → ℕ → Bool → State → Option Cause → OpenValue → Progress → Option Tag → Client
seen program window on state cause commands progress abort = record {
  program = program;
  window = window;
  on = on;
  last = progress.connection;
  state = state;
  cause = cause;
  table = table_of commands (tally_of commands.failed progress);
  drawn = commands.drawn;
  event_drawn = commands.event_drawn;
  abort = abort;
}
