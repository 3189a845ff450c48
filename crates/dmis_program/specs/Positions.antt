-- Positions and directions in a statement's parameters.
use Rattle.std.specs.Prelude.{ℕ, Bool, ◌&&◌, List, ℤ, pos, Result, Ok, Err, if◌then◌else◌}
use Rattle.std.specs.Ordering.{int_eq}
use Rattle.fixed_um.specs.Limits.{volume_limit, component_limit}
use Rattle.fixed_um.specs.Computed.{value_of}
use Rattle.fixed_um.specs.Shapes.{Direction}
use Rattle.fixed_um.specs.declared.lengths.Point.{Point}
use Rattle.dmis_program.specs.Outcomes.{◌>>=◌, numeral_refused}
use Rattle.dmis_program.specs.declared.faults.Refusal.{Refusal}
use Rattle.dmis_program.specs.declared.faults.Refusal.TheVariants.{ZeroVector}

-- the length in micrometres that a numeral in millimetres means, within the machine's volume
unfoldable pub length_of : List ℕ → Result ℤ Refusal
length_of text = numeral_refused (value_of 3 volume_limit text)

-- the component in millionths that a numeral means
unfoldable pub component_of : List ℕ → Result ℤ Refusal
component_of text = numeral_refused (value_of 6 component_limit text)

-- the position that three numerals write
unfoldable pub position_of : List ℕ → List ℕ → List ℕ → Result Point Refusal
position_of x y z = do
  a ← length_of x
  b ← length_of y
  c ← length_of z
  Ok (record { x = a; y = b; z = c })

abbrev pub is_zero_direction : Direction → Bool
is_zero_direction d = int_eq d.i (pos 0) && (int_eq d.j (pos 0) && int_eq d.k (pos 0))

abbrev pub not_zero : Direction → Result Direction Refusal
not_zero d = if is_zero_direction d then Err ZeroVector else Ok d

-- the direction that three numerals write
unfoldable pub direction_of : List ℕ → List ℕ → List ℕ → Result Direction Refusal
direction_of i j k = do
  a ← component_of i
  b ← component_of j
  c ← component_of k
  not_zero (record { i = a; j = b; k = c })
