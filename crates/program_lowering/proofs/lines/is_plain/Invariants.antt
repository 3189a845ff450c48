use Rattle.program_lowering.proofs.Names.{◌≡◌, drop, false, is_plain}
use Rattle.program_lowering.proofs.lines.is_plain.Given as goal

abbrev pub invariant-loop-byte : goal.invariant-loop-byte
invariant-loop-byte l = is_plain l.inside (drop l.byte-index l.param) ≡ is_plain false l.param
