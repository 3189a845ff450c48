use Rattle.dme_orders.proofs.Names.{◌++◌, ◌≡◌, drop, flat_map, string_bytes}
use Rattle.dme_orders.specs.RunNotes.{note_line}
use Rattle.dme_orders.proofs.run_notes.lines_of.Given as goal

abbrev pub invariant-loop-remark : goal.invariant-loop-remark
invariant-loop-remark l = string_bytes l.text ++ flat_map note_line (drop l.remark-index l.remarks) ≡ flat_map note_line l.remarks
