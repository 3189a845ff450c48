-- Touches from the nominal (this profile): a block for a bore without a touch is given those that it asks for, evenly spaced on the circle that
-- its `FEAT` says, each from its centre; for a cylinder on two circles, its levels, at a quarter and at three quarters of its length. The first
-- is on the first axis of the plane across the bore, the next ones towards its second (X and Y, Y and Z, Z and X). Looking back is in the
-- statements without those that are given. What a `FEAT` says is in the unit and in the coordinate system that hold there: it counts down to the
-- next statement that selects or makes another.
use Rattle.std.specs.Prelude.{◌≡◌, ℕ, zero, suc, ◌-◌, ◌/◌, Bool, true, false, not, ◌&&◌, ◌||◌, ◌==◌, nat_le, nat_lt, List, [], ◌∷◌, ◌++◌, codes, decimal, flat_map, map, pos}
use Rattle.std.specs.Prelude.{int_lt, unsigned_abs, ℤ, Option, Some, None, is_none, unwrap_or, Result, Ok, Err, if◌then◌else◌}
use Rattle.std.specs.Result.{result_ok}
use Rattle.std.specs.Str.{bytes_eq}
use Rattle.dmis_text.specs.declared.elements.Statement.{Statement}
use Rattle.dmis_program.specs.Keywords.{keyword_of, is_among}
use Rattle.dmis_program.specs.Parameters.{name_within}
use Rattle.dmis_program.specs.Sayings.{said_of}
use Rattle.dmis_program.specs.declared.faults.Refusal.{Refusal}
use Rattle.dmis_program.specs.declared.keywords.Keyword.{Keyword}
use Rattle.dmis_program.specs.declared.keywords.Keyword.TheVariants as word
use Rattle.dmis_program.specs.declared.sayings.StatementMeaning.{StatementMeaning}
use Rattle.dmis_program.specs.declared.sayings.StatementMeaning.TheVariants as said
use Rattle.program_flow.specs.Angles.{cosine, in_radians, sine}
use Rattle.program_flow.specs.Calls.{line_digits}
use Rattle.program_flow.specs.Numbers.{Fraction, and_then, magnitude, numeral, quotient}
use Rattle.program_flow.specs.Texts.{whole_of}
use Rattle.program_flow.specs.declared.faults.ValueFault.{ValueFault}
use Rattle.program_lowering.specs.Cartesian.{◌>>=◌, Triple, in_plane, moved_by, number_in, numbers_in}
use Rattle.program_lowering.specs.Manual.{in_manual}
use Rattle.program_lowering.specs.Reasons.{start_text}
use Rattle.program_lowering.specs.Texts.{begins_with}
use Rattle.program_lowering.specs.Valued.{with_params}
use Rattle.program_lowering.specs.StoredFrames.{alignments}
use Rattle.program_lowering.specs.Words.{given_word, names_frame}
use Rattle.program_lowering.specs.declared.cartesian.Plane.{Plane}
use Rattle.program_lowering.specs.declared.cartesian.Plane.TheVariants.{Xy, Yz, Zx}
use Rattle.program_lowering.specs.declared.even.Bore.{Bore}
use Rattle.program_lowering.specs.declared.even.Level.{Level}
use Rattle.program_lowering.specs.declared.even.Touch.{Touch}
use Rattle.program_lowering.specs.declared.even.Wanted.{Wanted}
use Rattle.program_lowering.specs.declared.words.Choices.{Choices}

-- the block of a circle or a cylinder that is open and has no touch
abbrev pub begun : Bool → Bool → Result StatementMeaning Refusal → Option Wanted
begun circle cylinder (Ok (said.Begins name count)) =
    if circle || cylinder then Some (record { name = name; count = count; cylinder = cylinder }) else None
begun circle cylinder _ = None

abbrev pub waiting_after : Option Wanted → Keyword → Statement → Option Wanted
waiting_after block word.Meas s = begun (begins_with (codes "CIRCLE") s.params) (begins_with (codes "CYLNDR") s.params) (said_of word.Meas s)
waiting_after block word.Ptmeas s = None
waiting_after block word.Endmes s = None
waiting_after block _ s = block

abbrev pub waiting : List Statement → Option Wanted
waiting [] = None
waiting (s ∷ above) = waiting_after (waiting above) (keyword_of s.word) s

-- the plane across an axis of the machine, in either direction
abbrev pub has_size : ℕ → Result ℤ ValueFault → Bool
has_size n (Ok z) = unsigned_abs z == n
has_size n (Err fault) = false

abbrev pub are_along : Fraction → Fraction → Fraction → Bool
are_along f g h = has_size 1 (whole_of f) && (has_size 0 (whole_of g) && has_size 0 (whole_of h))

abbrev pub plane_across : Triple → Option Plane
plane_across d = if are_along d.2 d.0 d.1 then Some Xy else if are_along d.0 d.1 d.2 then Some Yz else if are_along d.1 d.2 d.0 then Some Zx else None

-- half of a length above zero
abbrev pub is_above_zero : Result ℤ ValueFault → Bool
is_above_zero (Ok z) = int_lt (pos 0) z
is_above_zero (Err fault) = false

abbrev pub half : Fraction → Option Fraction
half f = if is_above_zero (and_then (quotient f (magnitude f)) whole_of) then (number_in (codes "2") >>= λ two. result_ok (quotient f two)) else None

-- the bore that a `FEAT/CIRCLE,INNER,CART,x,y,z,i,j,k,diameter` says, or a `FEAT/CYLNDR,..,diameter,length`: this is along i, j, k from a point
-- on the axis, so the first level is at a quarter of it, and the second by its half farther
abbrev pub levels_in : Bore → Triple → List (List ℕ) → Option Bore
levels_in bore axis [] = Some bore
levels_in bore axis (l ∷ []) = number_in l >>= λ length. (half length >>= λ apart. (half apart >>= λ depth.
    (moved_by bore.centre depth axis >>= λ near. (moved_by near apart axis >>= λ far. Some (record bore { centre = near; far = Some far })))))
levels_in bore axis _ = None

abbrev pub wall_in : Triple → List (List ℕ) → Option Bore
wall_in point (i ∷ (j ∷ (k ∷ (d ∷ rest)))) = numbers_in (i ∷ j ∷ k ∷ []) >>= λ axis. (plane_across axis >>= λ plane. (number_in d >>= λ diameter.
    (half diameter >>= λ radius. levels_in (record { centre = point; far = None; plane = plane; radius = radius }) axis rest)))
wall_in point _ = None

abbrev pub bore_in : List (List ℕ) → Option Bore
bore_in (x ∷ (y ∷ (z ∷ wall))) = numbers_in (x ∷ y ∷ z ∷ []) >>= λ point. wall_in point wall
bore_in _ = None

abbrev pub is_kind : List ℕ → Option Triple → Bool
is_kind kind None = bytes_eq kind (codes "CIRCLE")
is_kind kind (Some far) = bytes_eq kind (codes "CYLNDR")

abbrev pub bore_of : List (List ℕ) → Option Bore
bore_of (kind ∷ (side ∷ (form ∷ rest))) = if bytes_eq side (codes "INNER") && bytes_eq form (codes "CART")
    then (bore_in rest >>= λ bore. (if is_kind kind bore.far then Some bore else None)) else None
bore_of _ = None

abbrev pub bore_said : Statement → Option Bore
bore_said s = if bytes_eq s.word (codes "FEAT") then bore_of s.params else None

-- the bore of a name, if the nearest statement with the label `F(name)` says one
abbrev pub feature_name : Option (List ℕ) → Option (List ℕ)
feature_name None = None
feature_name (Some label) = name_within (codes "F(") label

abbrev pub bore_at : List ℕ → Option (List ℕ) → Option Bore → Option Bore → Option Bore
bore_at name None here further = further
bore_at name (Some given) here further = if bytes_eq given name then here else further

abbrev pub ends_nominals : Keyword → Statement → Bool
ends_nominals word.Units s = true
ends_nominals word.Recall s = names_frame s.params
ends_nominals word.Unknown s = is_among s.word alignments
ends_nominals _ s = false

abbrev pub bore_named : List Statement → List ℕ → Option Bore
bore_named [] name = None
bore_named (s ∷ above) name =
    if ends_nominals (keyword_of s.word) s then None else bore_at name (feature_name s.label) (bore_said s) (bore_named above name)

-- the level of touch t of n, counted from 0, with its place among those of the level: of two, the first has the half of n rounded up
abbrev pub half_up : ℕ → ℕ
half_up n = n - n / 2

abbrev pub on_level : Triple → Option Triple → ℕ → ℕ → Level
on_level centre None n t = record { centre = centre; count = n; touch = t }
on_level centre (Some far) n t = if nat_lt t (half_up n) then record { centre = centre; count = half_up n; touch = t } else
    record { centre = far; count = n / 2; touch = t - half_up n }

abbrev pub level_at : Bore → ℕ → ℕ → Level
level_at bore n t = on_level bore.centre bore.far n t

abbrev pub end_of : Bore → Triple
end_of bore = unwrap_or bore.far bore.centre

-- the way outwards for touch t of n of a level: its angle is 360 t / n degrees
unfoldable pub angle_text : ℕ → ℕ → List ℕ
angle_text n t = codes "360*" ++ (line_digits t ++ (codes "/" ++ line_digits n))

abbrev pub outward_at : Plane → List ℕ → Option Triple
outward_at plane text = number_in text >>= λ angle. (result_ok (in_radians angle) >>= λ turn. (result_ok (cosine turn) >>= λ c.
    (result_ok (sine turn) >>= λ s. (number_in (codes "0") >>= λ nil. Some (in_plane plane c s nil)))))

-- the touch is at the end of the radius, and made from within: in the direction back to the centre
abbrev pub touch_on : Triple → Fraction → Triple → Option Touch
touch_on centre radius way = moved_by centre radius way >>= λ place. (numbers_in (codes "0" ∷ codes "0" ∷ codes "0" ∷ []) >>= λ nowhere.
    (number_in (codes "-1") >>= λ back. (moved_by nowhere back way >>= λ direction.
    Some (record { from = centre; place = place; direction = direction }))))

abbrev pub touch_by : Bore → Level → Option Touch
touch_by bore level = outward_at bore.plane (angle_text level.count level.touch) >>= touch_on level.centre bore.radius

abbrev pub touch_at : Bore → ℕ → ℕ → Option Touch
touch_at bore n t = touch_by bore (level_at bore n t)

-- the first t of n touches, if all have values
abbrev pub touches_to : Bore → ℕ → ℕ → Option (List Touch)
touches_to bore n zero = Some []
touches_to bore n (suc t) = touches_to bore n t >>= λ earlier. (touch_at bore n t >>= λ touch. Some (earlier ++ touch ∷ []))

-- what a block is given
pub record Filling : Type 0 where
  pub name : List ℕ
  pub count : ℕ
  pub cylinder : Bool
  pub end : Triple
  pub touches : List Touch

-- a bore of the kind that the block names, and touches enough for each level
abbrev pub is_as_asked : Bool → Option Triple → Bool
is_as_asked cylinder None = not cylinder
is_as_asked cylinder (Some far) = cylinder

abbrev pub fewest : Bool → ℕ
fewest cylinder = if cylinder then 6 else 3

abbrev pub filling_by : Wanted → Bore → Option Filling
filling_by w bore = touches_to bore w.count w.count >>= λ touches.
    Some (record { name = w.name; count = w.count; cylinder = w.cylinder; end = end_of bore; touches = touches })

abbrev pub filling_with : Wanted → Option Bore → Option Filling
filling_with w found = found >>= λ bore. (if is_as_asked w.cylinder bore.far then filling_by w bore else None)

abbrev pub filling_of : Option Wanted → (List ℕ → Option Bore) → Option Filling
filling_of None bores = None
filling_of (Some w) bores = if nat_le (fewest w.cylinder) w.count && nat_le w.count 1000 then filling_with w (bores w.name) else None

-- the words of the statements for it
abbrev pub moving : List (List ℕ)
moving = codes "GOTO" ∷ codes "PTMEAS" ∷ []

-- the statements for it: one that is noted and not written, whose last parameter is empty, and a move to the centre of its level before each touch
-- and after the last one
abbrev pub made_at : ℕ → List ℕ → List Fraction → Statement
made_at line name numbers = with_params (record { line = line; label = None; word = name; params = [] }) (Some (Ok (codes "CART" ∷ map numeral numbers)))

abbrev pub to_centre : ℕ → Triple → Statement
to_centre line c = made_at line (codes "GOTO") (c.0 ∷ c.1 ∷ c.2 ∷ [])

abbrev pub from_centre : ℕ → Touch → List Statement
from_centre line t = to_centre line t.from
    ∷ made_at line (codes "PTMEAS") (t.place.0 ∷ t.place.1 ∷ t.place.2 ∷ t.direction.0 ∷ t.direction.1 ∷ t.direction.2 ∷ []) ∷ []

abbrev pub there_and_back : ℕ → Triple → List Touch → List Statement
there_and_back line end touches = flat_map (from_centre line) touches ++ to_centre line end ∷ []

abbrev pub notice : ℕ → Filling → Statement
notice line f = record { line = line; label = None; word = given_word; params = decimal f.count ∷ f.name ∷ start_text f.cylinder ∷ [] ∷ [] }

abbrev pub given_by : ℕ → Option Filling → List Statement
given_by line None = []
given_by line (Some f) = notice line f ∷ there_and_back line f.end f.touches

-- what is given before a statement: something before the `ENDMES` of such a block alone, and where the operator does not measure
abbrev pub is_endmes : Keyword → Bool
is_endmes word.Endmes = true
is_endmes _ = false

abbrev pub is_bare : List (List ℕ) → Bool
is_bare [] = true
is_bare (first ∷ rest) = false

abbrev pub ends_block : Bool → Statement → Bool
ends_block manual s = is_endmes (keyword_of s.word) && (is_none s.label && (is_bare s.params && not manual))

abbrev pub touches_before : List Statement → Statement → List Statement
touches_before above s = if ends_block (in_manual above) s then given_by s.line (filling_of (waiting above) (bore_named above)) else []

abbrev pub all_touched : List Statement → List Statement → List Statement
all_touched above [] = []
all_touched above (s ∷ statements) = touches_before above s ++ (s ∷ all_touched (s ∷ above) statements)

-- if it is chosen
abbrev pub touched_from : Choices → List Statement → List Statement → List Statement
touched_from choices above statements = if choices.even_touches then all_touched above statements else statements

-- the last of these, if there is one
abbrev pub last_of : Statement → List Statement → Statement
last_of before [] = before
last_of before (s ∷ below) = last_of s below

-- touch t is directly below this statement
abbrev pub is_touch : Statement → Bool
is_touch s = bytes_eq s.word (codes "PTMEAS")

abbrev pub EachBelow : (ℕ → Statement) → ℕ → Statement → List Statement → Type 0
EachBelow moves t before [] = Unit {0}
EachBelow moves t before (s ∷ below) = (is_touch s ≡ true → before ≡ moves t) × EachBelow moves (if is_touch s then suc t else t) s below
