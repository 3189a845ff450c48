-- Which numeral does not read as a length (this profile).
use Rattle.std.specs.Prelude.{ℕ, Bool, List, Option, Some, None, Result, Ok, Err, ℤ}
use Rattle.std.specs.Option.{is_some}
use Rattle.fixed_um.specs.Limits.{volume_limit}
use Rattle.fixed_um.specs.Computed.{value_of}
use Rattle.fixed_um.specs.declared.numerals.NumeralFault.{NumeralFault}

-- the fault of a reading
abbrev pub fault_in : Result ℤ NumeralFault → Option NumeralFault
fault_in (Ok value) = None
fault_in (Err fault) = Some fault

-- why a text is no length within the machine's volume
unfoldable pub length_fault : List ℕ → Option NumeralFault
length_fault text = fault_in (value_of 3 volume_limit text)

-- it is not a length
abbrev pub is_no_length : List ℕ → Bool
is_no_length text = is_some (length_fault text)
