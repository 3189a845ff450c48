-- Open commands as a client's table has them.
use Rattle.std.specs.Prelude.{◌≡◌}
use Rattle.dme_line.specs.declared.tags.Tag.{Tag}
use Rattle.dme_line.specs.declared.tags.Tag.TheVariants.{Std, Event}
use Rattle.protocol_model.specs.Open.{Effect}
use Rattle.protocol_model.specs.Client.{Client, Table, Tally, tallied}
use Rattle.dme_tags.specs.Opened.{OpenValue}

-- a client's table has these open commands, and its tally knows whether a standard one has failed
pub record IsTableOf (b : Table) (o : OpenValue) : Type 0 where
  pub standard : b.standard ≡ o.standard
  pub event : b.event ≡ o.event
  pub failed : b.tally.failed ≡ o.failed

-- a client's tally after a reply with this effect; only standard commands are tallied
abbrev pub tally_behind : Client → Tag → Effect → Tally → Tally
tally_behind c (Std n) effect y = tallied c.program.features effect y
tally_behind c (Event n) effect y = y

-- a client's table after a reply that leaves these open commands
abbrev pub table_behind : Client → OpenValue → Tag → Effect → Table
table_behind c next t effect = record { standard = next.standard; event = next.event; tally = tally_behind c t effect c.table.tally }
