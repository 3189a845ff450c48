use Rattle.program_lowering.proofs.Names.{◌++◌, ◌≡◌, drop, map, to_ascii_uppercase}
use Rattle.program_lowering.proofs.flats.push_capitals.Given as goal

abbrev pub invariant-loop-letter : goal.invariant-loop-letter
invariant-loop-letter l = l.out.items ++ map to_ascii_uppercase (drop l.letter-index l.letters)
    ≡ l.fn.out.items ++ map to_ascii_uppercase l.letters
