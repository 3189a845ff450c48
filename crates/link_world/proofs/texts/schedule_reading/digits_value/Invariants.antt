use Rattle.link_world.proofs.Names.{◌≡◌, AllDigits, digits_value, digits_value_after, drop}
use Rattle.link_world.proofs.texts.schedule_reading.digits_value.Given as goal

-- the value so far, followed by the digits that are left, is the whole number
abbrev pub invariant-loop-digit : goal.invariant-loop-digit
invariant-loop-digit l = (digits_value_after 10 l.value (drop l.digit-index l.digits) ≡ digits_value 10 l.digits)
    × AllDigits 10 (drop l.digit-index l.digits)
