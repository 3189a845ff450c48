use Rattle.contact_ledger.proofs.EntryLines.{no_framed}
use Rattle.contact_ledger.proofs.act_reading.read_framed.Goals as goal

pub returns-in_default : goal.returns-in_default
returns-in_default c a h = no_framed _ a c.in_default.ensures h.0 h.1
