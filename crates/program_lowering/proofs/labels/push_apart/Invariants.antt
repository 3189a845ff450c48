use Rattle.program_lowering.proofs.Names.{◌++◌, ◌≡◌, drop}
use Rattle.std.specs.Prelude.{flat_map}
use Rattle.program_lowering.specs.Labels.{apart}
use Rattle.program_lowering.proofs.labels.push_apart.Given as goal

abbrev pub invariant-loop-byte : goal.invariant-loop-byte
invariant-loop-byte l = l.out.items ++ flat_map apart (drop l.byte-index l.label) ≡ l.fn.out.items ++ flat_map apart l.label
