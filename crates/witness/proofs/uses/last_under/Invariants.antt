use Rattle.std.proofs.Common.{◌≡◌, drop, None}
use Rattle.witness.specs.Dialogues as spec
use Rattle.witness.proofs.uses.last_under.Given as goal

-- what is found, and the lines that are left
abbrev pub invariant-loop-used : goal.invariant-loop-used
invariant-loop-used l = spec.last_under l.tag (drop l.used-index l.uses) l.found ≡ spec.last_under l.tag l.uses None
