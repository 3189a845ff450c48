use Rattle.program_lowering.proofs.Names.{◌≡◌, drop, None}
use Rattle.program_lowering.specs.Carried.{latest}
use Rattle.program_lowering.proofs.even.latest.Given as goal

abbrev pub invariant-loop-feature : goal.invariant-loop-feature
invariant-loop-feature l = latest l.name l.found (drop l.feature-index l.features) ≡ latest l.name None l.features
