use Rattle.std.specs.Prelude.{◌≡◌, ◌++◌, drop, map, bit_xor}
use Rattle.record_text.proofs.macs.padded.Given as goal

-- what is there and what is left make the key with the byte
abbrev pub invariant-loop-of_key : goal.invariant-loop-of_key
invariant-loop-of_key l = l.pad.items ++ map (λ b. bit_xor b l.byte) (drop l.of_key-index l.key) ≡ map (λ b. bit_xor b l.byte) l.key
