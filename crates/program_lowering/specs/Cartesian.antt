-- Polar and incremental coordinates (ISO 22093, GOTO and PTMEAS): the Cartesian ones that stand for them, to the nearest millionth. A polar angle
-- is from the first axis of the working plane towards its second (X and Y, Y and Z, Z and X); the height is along the third. A move by a
-- distance is from where a `GOTO` ends, if nothing between them moves, or changes tool, unit or frame (this profile).
use Rattle.std.specs.Prelude.{ℕ, ◌*◌, ◌+◌, ◌==◌, Bool, true, false, not, ◌&&◌, ◌||◌, List, [], ◌∷◌, nat_le, unsigned_abs, codes, take, drop, Option, Some, None, is_none, Result, Ok, ℤ}
use Rattle.std.specs.Prelude.{bytes_eq, option_map, if◌then◌else◌}
use Rattle.std.specs.Char.{is_ascii_digit}
use Rattle.std.specs.List.{list_all, list_any, position}
use Rattle.std.specs.Result.{result_ok}
use Rattle.fixed_um.specs.Shapes.{Direction}
use Rattle.dmis_text.specs.declared.elements.Statement.{Statement}
use Rattle.dmis_program.specs.Keywords.{is_among}
use Rattle.dmis_program.specs.Parameters.{without_cart}
use Rattle.dmis_program.specs.Positions.{direction_of}
use Rattle.program_flow.specs.Angles.{cosine, in_radians, sine}
use Rattle.program_flow.specs.LookBack.{value_said}
use Rattle.program_flow.specs.Numbers.{Fraction, numeral, opposite, quotient, rounded_product, sum}
use Rattle.program_flow.specs.Values.{value_of}
use Rattle.program_flow.specs.declared.faults.ValueFault.{ValueFault}
use Rattle.program_lowering.specs.Valued.{with_params}
use Rattle.program_lowering.specs.declared.cartesian.AngleUnit.{AngleUnit}
use Rattle.program_lowering.specs.declared.cartesian.AngleUnit.TheVariants.{Degrees, Radians, Sexagesimal}
use Rattle.program_lowering.specs.declared.cartesian.Plane.{Plane}
use Rattle.program_lowering.specs.declared.cartesian.Plane.TheVariants.{Xy, Yz, Zx}
use Rattle.program_lowering.specs.declared.cartesian.Reference.{Reference}

-- one step, and then the next with what it gave
infixl 10 ◌>>=◌
abbrev pub ◌>>=◌ : {A B : Type 0} → Option A → (A → Option B) → Option B
(Some x) >>= f = f x
None >>= f = None

-- three numbers: coordinates, or the components of a direction; and those that expressions without names write
abbrev pub Triple : Type 0
Triple = Fraction × Fraction × Fraction

abbrev pub number_in : List ℕ → Option Fraction
number_in text = result_ok (value_of (value_said []) text)

abbrev pub numbers_in : List (List ℕ) → Option Triple
numbers_in (a ∷ (b ∷ (c ∷ []))) = number_in a >>= λ x. (number_in b >>= λ y. (number_in c >>= λ z. Some (x, y, z)))
numbers_in _ = None

-- the texts around the first mark
abbrev pub parted_at : List ℕ → Option ℕ → Option (List ℕ × List ℕ)
parted_at text None = None
parted_at text (Some i) = Some (take i text, drop (i + 1) text)

abbrev pub parted : ℕ → List ℕ → Option (List ℕ × List ℕ)
parted mark text = parted_at text (position (λ b. b == mark) text)

-- below 60: one digit, or two of which the first is at most 5 (53); seconds may have decimals. A `.` is 46
abbrev pub is_sixtieth : List ℕ → Bool
is_sixtieth (a ∷ []) = is_ascii_digit a
is_sixtieth (a ∷ (b ∷ [])) = (is_ascii_digit a && nat_le a 53) && is_ascii_digit b
is_sixtieth _ = false

abbrev pub is_second : List ℕ → Option (List ℕ × List ℕ) → Bool
is_second text None = is_sixtieth text
is_second text (Some p) = is_sixtieth p.0 && list_all is_ascii_digit p.1

abbrev pub seconds_in : List ℕ → Option Fraction
seconds_in text = if is_second text (parted 46 text) then number_in text else None

-- a number with that many sixtieths
abbrev pub with_sixtieths : List ℕ → Option Fraction → Option Fraction
with_sixtieths whole part = number_in whole >>= λ f. (part >>= λ g. (number_in (codes "60") >>= λ n. (result_ok (quotient g n) >>= λ q. result_ok (sum f q))))

-- minutes, then degrees, with what follows the first `:`, which is 58
abbrev pub minutes_by : List ℕ → Option (List ℕ × List ℕ) → Option Fraction
minutes_by text None = if is_sixtieth text then number_in text else None
minutes_by text (Some p) = if is_sixtieth p.0 then with_sixtieths p.0 (seconds_in p.1) else None

abbrev pub minutes_in : List ℕ → Option Fraction
minutes_in text = minutes_by text (parted 58 text)

abbrev pub degrees_by : Option (List ℕ × List ℕ) → Option Fraction
degrees_by None = None
degrees_by (Some p) = if list_all is_ascii_digit p.0 then with_sixtieths p.0 (minutes_in p.1) else None

abbrev pub degrees_in : List ℕ → Option Fraction
degrees_in text = degrees_by (parted 58 text)

-- with a minus (45) before all, or without one
abbrev pub signed_degrees : List ℕ → Option Fraction
signed_degrees [] = None
signed_degrees (c ∷ cs) = if c == 45 then option_map opposite (degrees_in cs) else degrees_in (c ∷ cs)

-- the number of an angle: of degrees, of radians, or of degrees that are written with minutes, and with seconds or without (`-12:30:15.5`)
abbrev pub angle_in : AngleUnit → List ℕ → Option Fraction
angle_in Degrees text = number_in text
angle_in Radians text = number_in text
angle_in Sexagesimal text = if list_any (λ b. b == 58) text then signed_degrees text else number_in text

-- the plane that a `WKPLAN` names: none, if this profile does not take it; and the unit of angles of a `UNITS`
abbrev pub plane_named : List (List ℕ) → Option Plane
plane_named (only ∷ []) = if bytes_eq only (codes "XYPLAN") then Some Xy else if bytes_eq only (codes "YZPLAN") then Some Yz else
    if bytes_eq only (codes "ZXPLAN") then Some Zx else None
plane_named _ = None

abbrev pub unit_named : List (List ℕ) → AngleUnit
unit_named params = if list_any (λ p. bytes_eq p (codes "ANGDMS")) params then Sexagesimal else
    if list_any (λ p. bytes_eq p (codes "ANGRAD")) params then Radians else Degrees

-- the words that move nothing, and leave tool, unit and frame as they are
abbrev pub still : List (List ℕ)
still = codes "MEAS" ∷ codes "FEAT" ∷ codes "TOL" ∷ codes "SNSDEF" ∷ codes "FILNAM" ∷ codes "FEDRAT" ∷ codes "ACLRAT" ∷ codes "SNSET"
    ∷ codes "FINPOS" ∷ codes "PRCOMP" ∷ codes "WKPLAN" ∷ codes "TEXT" ∷ codes "DISPLY" ∷ codes "OUTPUT" ∷ codes "ASSIGN" ∷ codes "DECL" ∷ codes "FLY"
    ∷ codes "RAPID" ∷ codes "IF" ∷ codes "SELECT" ∷ codes "JUMPTO" ∷ codes "CALL" ∷ []

-- what coordinates refer to before all, and after a statement with Cartesian ones
abbrev pub no_reference : Reference
no_reference = record { plane = Some Xy; unit = Degrees; place = None; untouched = false }

-- below a word the machine is where it was. A block without touches may be given some at its end
abbrev pub stays : Reference → List ℕ → Bool
stays ref word = is_among word still || (bytes_eq word (codes "ENDMES") && not ref.untouched)

abbrev pub reference_after : Reference → Statement → Reference
reference_after ref s = record {
  plane = if bytes_eq s.word (codes "WKPLAN") then plane_named s.params else ref.plane;
  unit = if bytes_eq s.word (codes "UNITS") then unit_named s.params else ref.unit;
  place = if bytes_eq s.word (codes "GOTO") then numbers_in (without_cart s.params) else if stays ref s.word then ref.place else None;
  untouched = if bytes_eq s.word (codes "MEAS") then true else if bytes_eq s.word (codes "PTMEAS") then false else ref.untouched;
}

-- the place of a radius, an angle and a height
abbrev pub radians : AngleUnit → Fraction → Option Fraction
radians Radians a = Some a
radians _ a = result_ok (in_radians a)

abbrev pub in_plane : Plane → Fraction → Fraction → Fraction → Triple
in_plane Xy a b height = (a, b, height)
in_plane Yz a b height = (height, a, b)
in_plane Zx a b height = (b, height, a)

abbrev pub polar_in : AngleUnit → List ℕ → List ℕ → List ℕ → Option Triple
polar_in unit r a h = number_in r >>= λ x. (angle_in unit a >>= λ y. (number_in h >>= λ z. Some (x, y, z)))

abbrev pub polar : Reference → List (List ℕ) → Option Triple
polar ref (r ∷ (a ∷ (h ∷ rest))) = ref.plane >>= λ p. (polar_in ref.unit r a h >>= λ t. (radians ref.unit t.1 >>= λ turn.
    (result_ok (cosine turn) >>= λ c. (result_ok (rounded_product t.0 c) >>= λ x. (result_ok (sine turn) >>= λ s.
    (result_ok (rounded_product t.0 s) >>= λ y. Some (in_plane p x y t.2)))))))
polar ref _ = None

-- the place after a move by a distance, whose direction has a length within 10 ^ -5 of 1: its square is in millionths of millionths
abbrev pub square : ℤ → ℕ
square a = unsigned_abs a * unsigned_abs a

abbrev pub is_of_length_one : Direction → Bool
is_of_length_one d = nat_le 999980000000 (square d.i + square d.j + square d.k) && nat_le (square d.i + square d.j + square d.k) 1000020000000

abbrev pub moved : Fraction → Fraction → Fraction → Option Fraction
moved start distance component = result_ok (rounded_product distance component) >>= λ way. result_ok (sum start way)

abbrev pub moved_by : Triple → Fraction → Triple → Option Triple
moved_by s distance d = moved s.0 distance d.0 >>= λ x. (moved s.1 distance d.1 >>= λ y. (moved s.2 distance d.2 >>= λ z. Some (x, y, z)))

abbrev pub incremental : Reference → List (List ℕ) → Option Triple
incremental ref (distance ∷ (i ∷ (j ∷ (k ∷ [])))) = ref.place >>= λ start. (result_ok (direction_of i j k) >>= λ unit. (if is_of_length_one unit
    then (number_in distance >>= λ way. (numbers_in (i ∷ j ∷ k ∷ []) >>= moved_by start way)) else None))
incremental ref _ = None

-- the Cartesian parameters of a statement with other ones; what follows polar ones, as the direction of a touch, stays
abbrev pub with_place : List (List ℕ) → Option Triple → Option (Result (List (List ℕ)) ValueFault)
with_place rest made = option_map (λ (p : Triple). Ok (codes "CART" ∷ numeral p.0 ∷ numeral p.1 ∷ numeral p.2 ∷ rest)) made

abbrev pub cartesian_params : Reference → List ℕ → List (List ℕ) → Option (Result (List (List ℕ)) ValueFault)
cartesian_params ref word [] = None
cartesian_params ref word (form ∷ rest) = if bytes_eq form (codes "POL") then with_place (drop 3 rest) (polar ref rest) else
    if bytes_eq form (codes "INCR") && bytes_eq word (codes "GOTO") then with_place [] (incremental ref rest) else None

-- a statement with Cartesian coordinates, and so each of some: it stays as it is if none stand for those that it has
abbrev pub made_cartesian : Reference → Statement → Option (Result (List (List ℕ)) ValueFault)
made_cartesian ref s = if is_none s.label && is_among s.word (codes "GOTO" ∷ codes "PTMEAS" ∷ []) then cartesian_params ref s.word s.params else None

abbrev pub cartesian : Reference → Statement → Statement
cartesian ref s = with_params s (made_cartesian ref s)

abbrev pub all_cartesian : Reference → List Statement → List Statement
all_cartesian ref [] = []
all_cartesian ref (s ∷ statements) = cartesian ref s ∷ all_cartesian (reference_after ref (cartesian ref s)) statements
