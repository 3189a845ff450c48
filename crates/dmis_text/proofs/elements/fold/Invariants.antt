use Rattle.dmis_text.proofs.Names.{◌++◌, ◌≡◌, drop, false, folded}
use Rattle.dmis_text.proofs.elements.fold.Given as goal

abbrev pub invariant-loop-byte : goal.invariant-loop-byte
invariant-loop-byte l = l.made.items ++ folded l.inside (drop l.byte-index l.bytes) ≡ folded false l.bytes
