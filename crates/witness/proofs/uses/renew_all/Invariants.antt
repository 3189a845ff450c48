use Rattle.witness.proofs.Names.{◌++◌, ◌≡◌, all_renewed, drop, map, take}
use Rattle.witness.specs.Dialogues as spec
use Rattle.witness.proofs.uses.renew_all.Given as goal

-- the lines that were changed, and those that are left
abbrev pub invariant-loop-used : goal.invariant-loop-used
invariant-loop-used l = l.uses ≡ map (spec.use_renewed (all_renewed l.by)) (take l.used-index l.initial.uses) ++ drop l.used-index l.initial.uses
