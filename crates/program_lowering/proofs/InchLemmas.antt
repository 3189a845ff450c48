-- What a statement in inches says is what it says in millimetres.
use Rattle.std.proofs.Common.{◌≡◌, ℕ, ◌*◌, ◌≤◌, Bool, true, false, not, ◌&&◌, ◌||◌, cond, List, [], ◌∷◌, ◌++◌, map, take, drop}
use Rattle.std.proofs.Common.{Option, Some, None, Result, Ok, Err, refl, ap, ◌∙◌, arith, codes, ℤ, pos, unsigned_abs, inl, inr}
use Rattle.std.specs.Prelude.{◌==◌, int_lt}
use Rattle.std.specs.Str.{bytes_eq}
use Rattle.fixed_um.specs.Computed.{value_of}
use Rattle.fixed_um.specs.Limits.{component_limit, volume_limit, wire_limit}
use Rattle.fixed_um.specs.Numerals.{IsRounded, Reads, ReadsDirection, signed}
use Rattle.fixed_um.specs.Points.{zero_point}
use Rattle.fixed_um.specs.Shapes.{Direction}
use Rattle.fixed_um.specs.Written.{written}
use Rattle.fixed_um.specs.declared.lengths.Point.{Point}
use Rattle.fixed_um.specs.declared.numerals.NumeralFault.{NumeralFault}
use Rattle.fixed_um.specs.declared.numerals.NumeralFault.TheVariants.{NotNumeral, TooLarge, TooManyDigits}
use Rattle.fixed_um.proofs.ComputedLemmas.{value_of-is, value_of-reads}
use Rattle.fixed_um.proofs.RoundingLemmas.{abs-signed, rounded_signed}
use Rattle.fixed_um.proofs.WrittenLemmas.{written_reads_back}
use Rattle.dmis_text.specs.Statements.{has_open_text, last_element}
use Rattle.dmis_text.specs.Texts.{inside_after}
use Rattle.dmis_text.specs.declared.elements.Statement.{Statement}
use Rattle.dmis_program.specs.Outcomes.{numeral_refused}
use Rattle.dmis_program.specs.Keywords.{keyword_of}
use Rattle.dmis_program.specs.Judging.{is_unsupported, judged}
use Rattle.dmis_program.specs.LookBack.{Context, saying}
use Rattle.dmis_program.specs.Parameters.{is_other_coordinates, without_cart}
use Rattle.dmis_program.specs.Positions.{length_of, position_of}
use Rattle.std.specs.Prelude.{is_some}
use Rattle.dmis_program.specs.Sayings.{goes, may_have_label, said_by, said_of, touches, touches_at, units}
use Rattle.dmis_program.proofs.PositionLemmas.{length_of-is}
use Rattle.dmis_program.specs.declared.faults.Refusal.{Refusal}
use Rattle.dmis_program.specs.declared.faults.Refusal.TheVariants.{BadArguments, BadNumeral, NotMillimetres}
use Rattle.dmis_program.specs.declared.keywords.Keyword.{Keyword}
use Rattle.dmis_program.specs.declared.keywords.Keyword.TheVariants as word
use Rattle.dmis_program.specs.declared.sayings.StatementMeaning.TheVariants.{Passes}
use Rattle.program_lowering.specs.Inches.{goes_in, goto_params, in_millimetres, inch_length, inch_magnitude, inch_point, inch_position}
use Rattle.program_lowering.specs.Inches.{millimetres_for, params_in, said_in, said_stated, stated, touch_params, touches_after, touches_in}
use Rattle.program_lowering.specs.Inches.{unit_params, units_in}
use Rattle.program_lowering.proofs.SolidLemmas.{closed_after, solid_plain}
use Rattle.program_lowering.proofs.SolidParts.{wire_solid}
use Rattle.program_lowering.specs.Carried.{judged_in}

-- ---- lengths

magnitude_within : (z : ℤ) → unsigned_abs z ≤ component_limit → inch_magnitude z ≤ volume_limit
magnitude_within z h = omega (arith, h)

pub length_within : (z : ℤ) → unsigned_abs z ≤ component_limit → unsigned_abs (inch_length z) ≤ volume_limit
length_within z h =
    let m : unsigned_abs (inch_length z) ≡ inch_magnitude z = abs-signed (int_lt z (pos 0)) (inch_magnitude z) in
    omega (arith, m, magnitude_within z h)

abbrev in_length : Result ℤ NumeralFault → Result ℤ NumeralFault
in_length (Ok z) = Ok (inch_length z)
in_length (Err e) = Err e

length_by : (text : List ℕ) (r : Result ℤ NumeralFault) → Reads 6 component_limit text r
    → length_of (millimetres_for text r) ≡ numeral_refused {A = ℤ} (in_length r)
length_by text (Ok z) h = length_of-is (written (inch_length z)) (pos volume_limit) (Ok (inch_length z)) refl
    (written_reads_back volume_limit (inch_length z) (length_within z h.1) (omega arith))
length_by text (Err TooLarge) h =
    length_of-is (written (pos 2000000000)) (pos volume_limit) (Err TooLarge) refl
    (pos 2000000000, (written_reads_back wire_limit (pos 2000000000) (omega arith) (omega arith)).0, omega arith)
length_by text (Err NotNumeral) h = length_of-is text (pos volume_limit) (Err NotNumeral) refl h
length_by text (Err TooManyDigits) h = length_of-is text (pos volume_limit) (Err TooManyDigits) refl h

pub length_in : (text : List ℕ) (r : Result ℤ NumeralFault) → Reads 6 component_limit text r
    → length_of (in_millimetres text) ≡ numeral_refused {A = ℤ} (in_length r)
length_in text r h = ap (λ (q : Result ℤ NumeralFault). length_of (millimetres_for text q)) (value_of-is 6 component_limit text r h)
    ∙ length_by text r h

-- a position, by what three numerals are as a direction
abbrev pub read_position : Result (Option Direction) NumeralFault → Result Point Refusal
read_position (Ok (Some d)) = Ok (inch_point d)
read_position (Ok None) = Ok zero_point
read_position (Err fault) = Err (BadNumeral fault)

pub inch_position-is : (x y z : List ℕ) (r : Result (Option Direction) NumeralFault) → ReadsDirection x y z r
    → inch_position x y z ≡ read_position r
unfolding position_of
inch_position-is x y z (Ok (Some d)) h = rw (length_in x (Ok d.i) h.0, length_in y (Ok d.j) h.1, length_in z (Ok d.k) h.2) refl
inch_position-is x y z (Ok None) h = rw (length_in x (Ok (pos 0)) h.0, length_in y (Ok (pos 0)) h.1, length_in z (Ok (pos 0)) h.2) refl
inch_position-is x y z (Err e) (inl h) = rw (length_in x (Err e) h) refl
inch_position-is x y z (Err e) (inr (inl h)) = rw (length_in x (Ok h.0) h.1, length_in y (Err e) h.2) refl
inch_position-is x y z (Err e) (inr (inr h)) = rw (length_in x (Ok h.0) h.2, length_in y (Ok h.1) h.3, length_in z (Err e) h.4) refl

-- an inch is exactly 25.4 millimetres
pub inch_exact : (z : ℤ) → IsRounded (signed (int_lt z (pos 0)) (254 * unsigned_abs z)) 10000 (inch_length z)
inch_exact z = rounded_signed (int_lt z (pos 0)) (254 * unsigned_abs z) 10000 (inch_magnitude z) (record {
  below = omega arith;
  above = omega arith;
})

-- ---- parameters

goes_mapped : (ps : List (List ℕ)) → goes (map in_millimetres ps) ≡ goes_in ps
goes_mapped [] = refl
goes_mapped (x ∷ []) = refl
goes_mapped (x ∷ y ∷ []) = refl
goes_mapped (x ∷ y ∷ z ∷ []) = refl
goes_mapped (x ∷ y ∷ z ∷ w ∷ ps) = refl

touches_mapped : (ps : List (List ℕ)) → touches_at (map in_millimetres (take 3 ps) ++ drop 3 ps) ≡ touches_in ps
touches_mapped [] = refl
touches_mapped (x ∷ []) = refl
touches_mapped (x ∷ y ∷ []) = refl
touches_mapped (x ∷ y ∷ z ∷ []) = refl
touches_mapped (x ∷ y ∷ z ∷ i ∷ []) = refl
touches_mapped (x ∷ y ∷ z ∷ i ∷ j ∷ []) = refl
touches_mapped (x ∷ y ∷ z ∷ i ∷ j ∷ k ∷ []) = refl
touches_mapped (x ∷ y ∷ z ∷ i ∷ j ∷ k ∷ l ∷ ps) = refl

touches_same : (ps : List (List ℕ)) → touches (touch_params ps) ≡ touches_after ps
touches_same [] = refl
touches_same (first ∷ rest) = go (bytes_eq first (codes "CART")) refl
  where
    go : (b : Bool) → bytes_eq first (codes "CART") ≡ b
        → touches (cond b (first ∷ (map in_millimetres (take 3 rest) ++ drop 3 rest)) (first ∷ rest))
        ≡ cond b (touches_in rest) (Err BadArguments)
    go true e = rw e (touches_mapped rest)
    go false e = rw e refl

units_same : (ps : List (List ℕ)) → units (unit_params ps) ≡ units_in ps
units_same [] = refl
units_same (first ∷ rest) = go (bytes_eq first (codes "INCH"))
  where
    go : (b : Bool) → units (cond b (codes "MM") first ∷ rest) ≡ cond (b || bytes_eq first (codes "MM")) (Ok Passes) (Err NotMillimetres)
    go true = refl
    go false = refl

said_goto : (params : List (List ℕ)) → said_by word.Goto (goto_params params) ≡ said_in true word.Goto params
unfolding said_by
said_goto params = go (is_other_coordinates params) refl
  where
    go : (b : Bool) → is_other_coordinates params ≡ b
        → goes (without_cart (cond b params (codes "CART" ∷ map in_millimetres (without_cart params))))
        ≡ cond (true && not b) (goes_in (without_cart params)) (goes (without_cart params))
    go true e = refl
    go false e = goes_mapped (without_cart params)

said_params : (b : Bool) (k : Keyword) (params : List (List ℕ)) → said_by k (params_in k b params) ≡ said_in b k params
unfolding said_by
said_params true word.Goto params = said_goto params
said_params false word.Goto params = refl
said_params true word.Ptmeas params = touches_same params
said_params false word.Ptmeas params = refl
said_params b word.Units params = units_same params
said_params b word.Dmismn params = refl
said_params b word.Meas params = refl
said_params b word.Endmes params = refl
said_params b word.Snslct params = refl
said_params b word.Recall params = refl
said_params b word.Endfil params = refl
said_params b word.Mode params = refl
said_params b word.Definition params = refl
said_params b word.Passed params = refl
said_params b word.Unknown params = refl

-- ---- texts stay closed

abbrev Closed : List ℕ → Type 0
Closed text = inside_after false text ≡ false

closed_by : (text : List ℕ) (r : Result ℤ NumeralFault) → Reads 6 component_limit text r → Closed text → Closed (millimetres_for text r)
closed_by text (Ok z) h g = closed_after false (written (inch_length z)) (solid_plain (written (inch_length z)) (wire_solid (inch_length z)
    (omega (arith, length_within z h.1))))
closed_by text (Err TooLarge) h g = closed_after false (written (pos 2000000000)) (solid_plain (written (pos 2000000000)) (wire_solid (pos 2000000000)
    (omega arith)))
closed_by text (Err NotNumeral) h g = g
closed_by text (Err TooManyDigits) h g = g

closed_in : (text : List ℕ) → Closed text → Closed (in_millimetres text)
closed_in text = closed_by text (value_of 6 component_limit text) (value_of-reads 6 component_limit text)

closed_map : (seed other : List ℕ) (ps : List (List ℕ)) → (Closed seed → Closed other) → Closed (last_element seed ps)
    → Closed (last_element other (map in_millimetres ps))
closed_map seed other [] f h = f h
closed_map seed other (p ∷ ps) f h = closed_map p (in_millimetres p) ps (closed_in p) h

closed_rest : (seed other : List ℕ) (ps : List (List ℕ)) → (Closed seed → Closed other) → Closed (last_element seed ps)
    → Closed (last_element other ps)
closed_rest seed other [] f h = f h
closed_rest seed other (p ∷ ps) f h = h

closed_goto : (name : List ℕ) (params : List (List ℕ)) → Closed (last_element name params) → Closed (last_element name (goto_params params))
closed_goto name [] h = refl
closed_goto name (first ∷ rest) h = go (is_other_coordinates (first ∷ rest)) (bytes_eq first (codes "CART"))
  where
    go : (b c : Bool) → Closed (last_element name (cond b (first ∷ rest) (codes "CART" ∷ map in_millimetres (cond c rest (first ∷ rest)))))
    go true c = h
    go false true = closed_map first (codes "CART") rest (λ _. refl) h
    go false false = closed_map first (in_millimetres first) rest (closed_in first) h

closed_touch : (name : List ℕ) (params : List (List ℕ)) → Closed (last_element name params) → Closed (last_element name (touch_params params))
closed_touch name [] h = h
closed_touch name (first ∷ rest) h = go (bytes_eq first (codes "CART"))
  where
    three : (ps : List (List ℕ)) → Closed (last_element first ps) → Closed (last_element first (map in_millimetres (take 3 ps) ++ drop 3 ps))
    three [] g = g
    three (x ∷ []) g = closed_in x g
    three (x ∷ y ∷ []) g = closed_in y g
    three (x ∷ y ∷ z ∷ more) g = closed_rest z (in_millimetres z) more (closed_in z) g

    go : (b : Bool) → Closed (last_element name (cond b (first ∷ (map in_millimetres (take 3 rest) ++ drop 3 rest)) (first ∷ rest)))
    go true = three rest h
    go false = h

closed_units : (name : List ℕ) (params : List (List ℕ)) → Closed (last_element name params) → Closed (last_element name (unit_params params))
closed_units name [] h = h
closed_units name (first ∷ rest) h = go (bytes_eq first (codes "INCH"))
  where
    go : (b : Bool) → Closed (last_element (cond b (codes "MM") first) rest)
    go true = closed_rest first (codes "MM") rest (λ _. refl) h
    go false = h

closed_params : (b : Bool) (k : Keyword) (name : List ℕ) (params : List (List ℕ)) → Closed (last_element name params)
    → Closed (last_element name (params_in k b params))
closed_params true word.Goto name params h = closed_goto name params h
closed_params false word.Goto name params h = h
closed_params true word.Ptmeas name params h = closed_touch name params h
closed_params false word.Ptmeas name params h = h
closed_params b word.Units name params h = closed_units name params h
closed_params b word.Dmismn name params h = h
closed_params b word.Meas name params h = h
closed_params b word.Endmes name params h = h
closed_params b word.Snslct name params h = h
closed_params b word.Recall name params h = h
closed_params b word.Endfil name params h = h
closed_params b word.Mode name params h = h
closed_params b word.Definition name params h = h
closed_params b word.Passed name params h = h
closed_params b word.Unknown name params h = h

-- ---- a statement

or_true : (a : Bool) → (a || true) ≡ true
or_true true = refl
or_true false = refl

pub says_stated : (b : Bool) (s : Statement) → saying (stated b s) ≡ said_stated b (keyword_of s.word) s
unfolding said_of
says_stated b s = go (has_open_text s) refl
  where
    go : (o : Bool) → has_open_text s ≡ o
        → said_of (keyword_of s.word) (record s { params = cond o s.params (params_in (keyword_of s.word) b s.params) })
        ≡ said_stated b (keyword_of s.word) s
    go true e = rw (e, or_true (is_some s.label && not (may_have_label (keyword_of s.word)))) refl
    go false e = rw (e, closed_params b (keyword_of s.word) s.word s.params e, said_params b (keyword_of s.word) s.params) refl

unsupported_goto : (first : Bool) (params : List (List ℕ)) → is_other_coordinates (goto_params params) ≡ is_other_coordinates params
unsupported_goto first params = go (is_other_coordinates params) refl
  where
    go : (b : Bool) → is_other_coordinates params ≡ b
        → is_other_coordinates (cond b params (codes "CART" ∷ map in_millimetres (without_cart params))) ≡ b
    go true e = e
    go false e = refl

unsupported_touch : (params : List (List ℕ)) → is_other_coordinates (touch_params params) ≡ is_other_coordinates params
unsupported_touch [] = refl
unsupported_touch (first ∷ rest) = go (bytes_eq first (codes "CART"))
  where
    go : (b : Bool) → is_other_coordinates (cond b (first ∷ (map in_millimetres (take 3 rest) ++ drop 3 rest)) (first ∷ rest))
        ≡ is_other_coordinates (first ∷ rest)
    go true = refl
    go false = refl

unsupported_same : (first b : Bool) (k : Keyword) (params : List (List ℕ)) → is_unsupported first k (params_in k b params) ≡ is_unsupported first k params
unsupported_same first true word.Goto params = unsupported_goto first params
unsupported_same first false word.Goto params = refl
unsupported_same first true word.Ptmeas params = unsupported_touch params
unsupported_same first false word.Ptmeas params = refl
unsupported_same first b word.Units params = refl
unsupported_same first b word.Dmismn params = refl
unsupported_same first b word.Meas params = refl
unsupported_same first b word.Endmes params = refl
unsupported_same first b word.Snslct params = refl
unsupported_same first b word.Recall params = refl
unsupported_same first b word.Endfil params = refl
unsupported_same first b word.Mode params = refl
unsupported_same first b word.Definition params = refl
unsupported_same first b word.Passed params = refl
unsupported_same first b word.Unknown params = refl

-- judging a statement in inches is judging it as it is in millimetres
pub judged_stated : (frames : List (List ℕ × Point)) (c : Context) (b : Bool) (s : Statement) → judged_in frames c b s ≡ judged frames c (stated b s)
unfolding judged judged_in
judged_stated frames c b s = rw (says_stated b s, same (has_open_text s) (c.number == 0)) refl
  where
    same : (o first : Bool) → is_unsupported first (keyword_of s.word) (cond o s.params (params_in (keyword_of s.word) b s.params))
        ≡ is_unsupported first (keyword_of s.word) s.params
    same true first = refl
    same false first = unsupported_same first b (keyword_of s.word) s.params
