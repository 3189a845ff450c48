-- Programs in inches (ISO 22093, UNITS): each statement as it is in millimetres. An inch is exactly 25.4 millimetres. A length in inches is
-- within 1,000 inches, and read to a millionth of an inch (this profile).
use Rattle.std.specs.Prelude.{ℕ, ◌*◌, Bool, true, false, List, [], ◌∷◌, ◌++◌, codes, drop, map, take, Result, Ok, Err, ℤ, pos, neg_ℤ, int_lt, unsigned_abs}
use Rattle.std.specs.Prelude.{◌&&◌, ◌||◌, not, Some, None, if◌then◌else◌}
use Rattle.std.specs.Str.{bytes_eq}
use Rattle.fixed_um.specs.Computed.{rounded, value_of}
use Rattle.fixed_um.specs.Limits.{component_limit}
use Rattle.fixed_um.specs.Shapes.{Direction}
use Rattle.fixed_um.specs.Written.{written}
use Rattle.fixed_um.specs.declared.numerals.NumeralFault.{NumeralFault}
use Rattle.fixed_um.specs.declared.numerals.NumeralFault.TheVariants.{TooLarge}
use Rattle.dmis_text.specs.Statements.{has_open_text}
use Rattle.dmis_text.specs.declared.elements.Statement.{Statement}
use Rattle.fixed_um.specs.declared.lengths.Point.{Point}
use Rattle.dmis_program.specs.Keywords.{keyword_of}
use Rattle.dmis_program.specs.Outcomes.{◌>>=◌}
use Rattle.dmis_program.specs.Parameters.{is_other_coordinates, without_cart}
use Rattle.dmis_program.specs.Positions.{direction_of, position_of}
use Rattle.dmis_program.specs.Sayings.{is_badly_formed, said_by}
use Rattle.dmis_program.specs.declared.faults.Refusal.{Refusal}
use Rattle.dmis_program.specs.declared.faults.Refusal.TheVariants.{BadArguments, NotMillimetres}
use Rattle.dmis_program.specs.declared.keywords.Keyword.{Keyword}
use Rattle.dmis_program.specs.declared.keywords.Keyword.TheVariants as word
use Rattle.dmis_program.specs.declared.sayings.StatementMeaning.{StatementMeaning}
use Rattle.dmis_program.specs.declared.sayings.StatementMeaning.TheVariants.{Goes, Passes, Touches}
use Rattle.program_lowering.specs.Texts.{begins_with}

-- the whole micrometres nearest to that many millionths of an inch, of which each is 254 / 10,000 micrometres; a half away from zero
abbrev pub inch_magnitude : ℤ → ℕ
inch_magnitude z = rounded (254 * unsigned_abs z) 10000

abbrev pub inch_length : ℤ → ℤ
inch_length z = if int_lt z (pos 0) then neg_ℤ (pos (inch_magnitude z)) else pos (inch_magnitude z)

-- the numeral in millimetres that a numeral in inches stands for: one that is refused stays as it is, and one that is too large is so
abbrev pub millimetres_for : List ℕ → Result ℤ NumeralFault → List ℕ
millimetres_for text (Ok z) = written (inch_length z)
millimetres_for text (Err TooLarge) = written (pos 2000000000)
millimetres_for text (Err _) = text

abbrev pub in_millimetres : List ℕ → List ℕ
in_millimetres text = millimetres_for text (value_of 6 component_limit text)

-- parameters of `GOTO`, of `PTMEAS/CART`, whose direction has no unit, and of `UNITS`
abbrev pub goto_params : List (List ℕ) → List (List ℕ)
goto_params params = if is_other_coordinates params then params else codes "CART" ∷ map in_millimetres (without_cart params)

abbrev pub touch_params : List (List ℕ) → List (List ℕ)
touch_params [] = []
touch_params (first ∷ rest) = if bytes_eq first (codes "CART") then first ∷ (map in_millimetres (take 3 rest) ++ drop 3 rest) else first ∷ rest

abbrev pub unit_params : List (List ℕ) → List (List ℕ)
unit_params [] = []
unit_params (first ∷ rest) = (if bytes_eq first (codes "INCH") then codes "MM" else first) ∷ rest

-- parameters after a word with this keyword, where the unit is the inch or not
abbrev pub params_in : Keyword → Bool → List (List ℕ) → List (List ℕ)
params_in word.Goto true params = goto_params params
params_in word.Ptmeas true params = touch_params params
params_in word.Units inches params = unit_params params
params_in keyword inches params = params

-- a statement whose text is not closed is refused, and stays as it is
abbrev pub stated : Bool → Statement → Statement
stated inches s = record s { params = if has_open_text s then s.params else params_in (keyword_of s.word) inches s.params }

-- whether the unit is the inch: the nearest `UNITS` above names it
abbrev pub is_unit : Keyword → Bool
is_unit word.Units = true
is_unit _ = false

abbrev pub inches_after : Bool → Statement → Bool
inches_after inches s = if is_unit (keyword_of s.word) then begins_with (codes "INCH") s.params else inches

abbrev pub in_inches : List Statement → Bool
in_inches [] = false
in_inches (s ∷ above) = inches_after (in_inches above) s

-- statements as they are in millimetres, by those above
abbrev pub all_stated : List Statement → List Statement → List Statement
all_stated above [] = []
all_stated above (s ∷ statements) = stated (in_inches above) s ∷ all_stated (s ∷ above) statements

-- what the code computes: no public clause cites it
abbrev pub inch_point : Direction → Point
inch_point d = record { x = inch_length d.i; y = inch_length d.j; z = inch_length d.k }

abbrev pub inch_position : List ℕ → List ℕ → List ℕ → Result Point Refusal
inch_position x y z = position_of (in_millimetres x) (in_millimetres y) (in_millimetres z)

abbrev pub goes_in : List (List ℕ) → Result StatementMeaning Refusal
goes_in (x ∷ (y ∷ (z ∷ []))) = inch_position x y z >>= λ target. Ok (Goes target)
goes_in _ = Err BadArguments

abbrev pub touches_in : List (List ℕ) → Result StatementMeaning Refusal
touches_in (x ∷ (y ∷ (z ∷ []))) = inch_position x y z >>= λ target. Ok (Touches target None)
touches_in (x ∷ (y ∷ (z ∷ (i ∷ (j ∷ (k ∷ [])))))) = inch_position x y z >>= λ target.
    (direction_of i j k >>= λ direction. Ok (Touches target (Some direction)))
touches_in _ = Err BadArguments

abbrev pub touches_after : List (List ℕ) → Result StatementMeaning Refusal
touches_after [] = Err BadArguments
touches_after (first ∷ rest) = if bytes_eq first (codes "CART") then touches_in rest else Err BadArguments

abbrev pub units_in : List (List ℕ) → Result StatementMeaning Refusal
units_in [] = Err BadArguments
units_in (first ∷ rest) = if bytes_eq first (codes "INCH") || bytes_eq first (codes "MM") then Ok Passes else Err NotMillimetres

abbrev pub is_in_inches : Bool → Keyword → List (List ℕ) → Bool
is_in_inches inches word.Goto params = inches && not (is_other_coordinates params)
is_in_inches inches word.Ptmeas params = inches
is_in_inches inches word.Units params = true
is_in_inches inches keyword params = false

abbrev pub inches_said : Keyword → List (List ℕ) → Result StatementMeaning Refusal
inches_said word.Goto params = goes_in (without_cart params)
inches_said word.Ptmeas params = touches_after params
inches_said keyword params = units_in params

abbrev pub said_in : Bool → Keyword → List (List ℕ) → Result StatementMeaning Refusal
said_in inches keyword params = if is_in_inches inches keyword params then inches_said keyword params else said_by keyword params

abbrev pub said_stated : Bool → Keyword → Statement → Result StatementMeaning Refusal
said_stated inches keyword s = if is_badly_formed keyword s then Err BadArguments else said_in inches keyword s.params
