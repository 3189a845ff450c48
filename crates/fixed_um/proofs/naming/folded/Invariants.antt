use Rattle.fixed_um.proofs.Names.{◌++◌, ◌≡◌, ◌≤◌, drop, folded, is_name_byte, length, list_all, vec_capacity, vec_len}
use Rattle.fixed_um.proofs.naming.folded.Given as goal

abbrev pub invariant-loop-index : goal.invariant-loop-index
invariant-loop-index l =
    (l.bytes.items ++ folded (drop l.index l.text) ≡ folded l.text)
    × (list_all is_name_byte (drop l.index l.text) ≡ list_all is_name_byte l.text)
    × (vec_len l.bytes ≡ l.index) × (length l.text ≤ vec_capacity l.bytes)
