use Rattle.dme_tags.proofs.Names.{◌≡◌, false, is_held, take}
use Rattle.dme_tags.proofs.marks.find.Given as goal

abbrev pub invariant-loop-index : goal.invariant-loop-index
invariant-loop-index l = is_held l.tag (take l.index l.commands) ≡ false
