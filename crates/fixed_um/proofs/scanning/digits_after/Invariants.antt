use Rattle.fixed_um.proofs.Names.{◌≡◌, AllDigits, digits_value_after, drop}
use Rattle.fixed_um.proofs.scanning.digits_after.Given as goal

abbrev pub invariant-loop-digit : goal.invariant-loop-digit
invariant-loop-digit l = (digits_value_after 10 l.value (drop l.digit-index l.digits) ≡ digits_value_after 10 l.front l.digits)
    × AllDigits 10 (drop l.digit-index l.digits)
