use Rattle.watched_ends.proofs.Names.{◌≡◌, drop, has_failed_under}
use Rattle.watched_ends.proofs.turns.has_failed.Given as goal

-- none of the lines before is under the tag
abbrev pub invariant-loop-used : goal.invariant-loop-used
invariant-loop-used l = has_failed_under l.tag (drop l.used-index l.uses) ≡ has_failed_under l.tag l.uses
