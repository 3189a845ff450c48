use Rattle.dmis_program.proofs.Names.{◌≡◌, ◌≤◌, digits_value, digits_value_after, drop, is_ascii_digit, list_all, true}
use Rattle.dmis_program.proofs.parameters.count_of.Given as goal

abbrev pub invariant-loop-digit : goal.invariant-loop-digit
invariant-loop-digit l = (digits_value_after 10 l.value (drop l.digit-index l.text) ≡ digits_value 10 l.text)
    × (list_all is_ascii_digit (drop l.digit-index l.text) ≡ true) × (l.value ≤ 10000)
