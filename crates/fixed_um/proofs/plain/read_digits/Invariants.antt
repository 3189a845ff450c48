use Rattle.fixed_um.proofs.Names.{◌≡◌, digits_behind, digits_front, digits_value_after, drop}
use Rattle.fixed_um.proofs.plain.read_digits.Given as goal

abbrev pub invariant-loop-index : goal.invariant-loop-index
invariant-loop-index l =
    (digits_value_after 10 l.value (digits_front (drop l.index l.text)) ≡ digits_value_after 10 l.front (digits_front l.text))
    × (digits_behind (drop l.index l.text) ≡ digits_behind l.text)
