-- The open commands and what is counted, as one table (this profile).
use Rattle.std.specs.Prelude.{Bool, true, false, Option, Some, None}
use Rattle.dme_line.specs.declared.tags.Tag.{Tag}
use Rattle.dme_line.specs.declared.tags.Tag.TheVariants.{Std, Event}
use Rattle.dme_line.specs.declared.commands.Command.{Command}
use Rattle.dme_tags.specs.Opened.{OpenValue}
use Rattle.protocol_model.specs.Open.{Effect}
use Rattle.protocol_model.specs.Client.{Client, Table, Tally}
use Rattle.protocol_model.specs.declared.plans.Planned.{Planned}

-- the table of open commands and a tally
abbrev pub table_of : OpenValue → Tally → Table
table_of o y = record { standard = o.standard; event = o.event; tally = y }

-- the command that is planned
abbrev pub planned_command : Option Planned → Option Command
planned_command None = None
planned_command (Some p) = Some p.command

-- a command is counted
abbrev pub is_count : Effect → Bool
is_count Effect.Quiet = false
is_count Effect.Failure = false
is_count (Effect.Count kind given) = true

-- the open commands of a client
abbrev pub opened_of : Client → OpenValue
opened_of c = record {
  standard = c.table.standard;
  event = c.table.event;
  failed = c.table.tally.failed;
  drawn = c.drawn;
  event_drawn = c.event_drawn;
}

-- the effect of a mark, if it is expected, counts a command of the plan
abbrev pub counts_standard : Tag → Option Effect → Bool
counts_standard (Std n) (Some effect) = is_count effect
counts_standard (Std n) None = false
counts_standard (Event n) effect = false
