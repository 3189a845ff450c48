use Rattle.watched_ends.proofs.Names.{◌≡◌, drop, keeps_more}
use Rattle.watched_ends.proofs.limits.keep_more.Given as goal

-- what may be kept of those that are left
abbrev pub invariant-loop-used : goal.invariant-loop-used
invariant-loop-used l = keeps_more l.left (drop l.used-index l.uses) ≡ keeps_more 16777216 l.uses
