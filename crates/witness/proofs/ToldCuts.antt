-- What follows the first space of a line.
use Rattle.std.proofs.lemmas.List.{drop-drop, take_all, drop_all, length-drop}
use Rattle.contact_ledger.proofs.LineCuts.{behind_at, behind_none, fields_empty}

pub ruleset field_cuts = (behind_at, behind_none, fields_empty, drop-drop, take_all, drop_all, length-drop)
