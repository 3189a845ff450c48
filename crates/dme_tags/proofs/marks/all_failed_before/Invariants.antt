use Rattle.dme_tags.proofs.Names.{◌≡◌, all_failed, take, true}
use Rattle.dme_tags.proofs.marks.all_failed_before.Given as goal

abbrev pub invariant-loop-earlier : goal.invariant-loop-earlier
invariant-loop-earlier l = all_failed (take l.earlier l.commands) ≡ true
