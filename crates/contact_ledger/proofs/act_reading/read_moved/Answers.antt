use Rattle.contact_ledger.proofs.EntryLines.{no_moved}
use Rattle.contact_ledger.proofs.act_reading.read_moved.Goals as goal

pub returns-in_default-frame : goal.returns-in_default-frame
returns-in_default-frame c a h = no_moved _ _ c.in-Some.target a c.in-Some.ensures.1 c.in_default-frame.ensures h.0 h.1
