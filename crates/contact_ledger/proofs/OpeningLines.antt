-- The opening lines of features.
use Rattle.contact_ledger.proofs.Names.{[], ◌++◌, ◌∙◌, ◌∷◌, ◌≡◌, ◌≤◌, append-nil, arith, codes, decimal, fields_behind, fields_of, First, Frame}
use Rattle.contact_ledger.proofs.Names.{frame_fields, IsFrame, IsKnown, IsLength, IsName, IsOnWire, IsOpening, IsWrittenOrigin, known_fields, List}
use Rattle.contact_ledger.proofs.Names.{None, Opening, opening_line, Option, Origin, origin_fields, Point, point_fields, point_line, refl, Second}
use Rattle.contact_ledger.proofs.Names.{Some, sym, Version, written, ℕ, ℤ}
use Rattle.contact_ledger.proofs.PlainFields.{ArePlain, decimal_plain, name_plain, frame_plain, point_plain}
use Rattle.contact_ledger.proofs.LineFields.{line_fields, made_of}
use Rattle.contact_ledger.proofs.Leaves.{number_no_dash}

origin_plain : (o : Option Origin) → IsWrittenOrigin o → ArePlain (origin_fields o)
origin_plain None h = (record { plain = refl }, tt)
origin_plain (Some o) h = (decimal_plain o.connection (omega (arith, h.0.1)), frame_plain o.frame h.1)

known_plain : (version : Version) (o : Option Origin) → IsWrittenOrigin o → ArePlain (known_fields version o)
known_plain First o h = tt
known_plain Second o h = origin_plain o h

abbrev opening_fields : Version → Opening → List (List ℕ)
opening_fields version o = codes "FEATURE" ∷ o.label ∷ decimal o.count ∷ known_fields version o.origin

pub opening_plain : (version : Version) (o : Opening) → IsOpening version o → ArePlain (opening_fields version o)
opening_plain version o h = (
  record { plain = refl },
  (
    name_plain o.label h.named,
    (
      decimal_plain o.count (omega (arith, h.counted.1)),
      known_plain version o.origin h.origin,
    ),
  ),
)

-- the fields of a line that opens a feature
pub opening_back : (line : List ℕ) (version : Version) (o : Opening) → IsOpening version o → line ≡ opening_line version o
    → fields_of line ≡ codes "FEATURE" ∷ o.label ∷ decimal o.count ∷ known_fields version o.origin
opening_back line version o h e = rw e (line_fields (codes "FEATURE") (o.label ∷ decimal o.count ∷ known_fields version o.origin)
    (opening_plain version o h))

pub opening_made : (line label : List ℕ) (count : ℕ) (version : Version) (origin : Option Origin)
    → fields_of line ≡ codes "FEATURE" ∷ label ∷ decimal count ∷ known_fields version origin
    → line ≡ opening_line version (record { label = label; count = count; origin = origin })
opening_made line label count version origin e = made_of line _ e

pub opening_found : (line word label number r s t name : List ℕ) (count : ℕ) (version : Version) (o : Option Origin)
    → fields_of line ≡ word ∷ fields_behind r → word ≡ codes "FEATURE" → fields_behind r ≡ label ∷ fields_behind s
    → fields_behind s ≡ number ∷ fields_behind t → (1 ≤ count) × (count ≤ 10000) × (number ≡ decimal count)
    → IsWrittenOrigin o × IsKnown version o × (fields_behind t ≡ known_fields version o) → IsName name × (label ≡ name)
    → IsOpening version (record { label = name; count = count; origin = o })
    × (line ≡ opening_line version (record { label = name; count = count; origin = o }))
opening_found line word label number r s t name count version o p w q u n f l = (
  record { named = l.0; counted = (n.0, n.1); origin = f.0; known = f.1 },
  opening_made line name count version o
      (p ∙ rw (w, q, l.1, u, n.2, f.2) refl),
)

second_none : (fields behind : List (List ℕ)) (first : List ℕ) (o : Option Origin)
    → ((f : Frame) (more : List (List ℕ)) → IsFrame f → behind ≡ frame_fields f ++ more → ⊥) → fields ≡ first ∷ behind
    → (first ≡ codes "-" → ⊥) → IsWrittenOrigin o → fields ≡ origin_fields o → ⊥
second_none fields behind first None none p other h e =
    let whole : first ∷ behind ≡ codes "-" ∷ [] = sym p ∙ e in
    let same : first ≡ codes "-" = cc in
    other same
second_none fields behind first (Some o) none p other h e =
    let whole : first ∷ behind ≡ decimal o.connection ∷ frame_fields o.frame = sym p ∙ e in
    let same : behind ≡ frame_fields o.frame = cc in
    none o.frame [] h.1 (same ∙ sym (append-nil (frame_fields o.frame)))

pub second_refused : (fields behind : List (List ℕ)) (first : List ℕ) (o : Option Origin)
    → ((f : Frame) (more : List (List ℕ)) → IsFrame f → behind ≡ frame_fields f ++ more → ⊥) → fields ≡ first ∷ behind
    → (first ≡ codes "-" → ⊥) → IsWrittenOrigin o → fields ≡ origin_fields o → ⊥
second_refused fields behind first o none p other h e = second_none fields behind first o none p other h e

-- nothing follows a dash
pub dash_alone : (fields more : List (List ℕ)) (first next : List ℕ) (o : Option Origin) → fields ≡ first ∷ next ∷ more
    → first ≡ codes "-" → IsWrittenOrigin o → fields ≡ origin_fields o → ⊥
dash_alone fields more first next None p s h e =
    let whole : first ∷ next ∷ more ≡ codes "-" ∷ [] = sym p ∙ e in
    absurd cc
dash_alone fields more first next (Some o) p s h e =
    let whole : first ∷ next ∷ more ≡ decimal o.connection ∷ frame_fields o.frame = sym p ∙ e in
    let same : first ≡ decimal o.connection = cc in
    number_no_dash o.connection (omega (arith, h.0.1)) (sym same ∙ s)

pub ruleset openings = (opening_back, opening_made)

-- the fields of a point's line
pub point_back : (line : List ℕ) (p : Point) → IsOnWire p → line ≡ point_line p
    → fields_of line ≡ written p.x ∷ written p.y ∷ written p.z ∷ []
point_back line p h e = rw e (line_fields (written p.x) (written p.y ∷ written p.z ∷ []) (point_plain p h))

pub point_made : (line x y z : List ℕ) (p : Point) → fields_of line ≡ x ∷ y ∷ z ∷ [] → x ≡ written p.x → y ≡ written p.y → z ≡ written p.z
    → line ≡ point_line p
point_made line x y z p e a b c = made_of line (point_fields p) (e ∙ rw (a, b, c) refl)

pub point_found : (line x y z r s t : List ℕ) (a b c : ℤ) → fields_of line ≡ x ∷ fields_behind r → fields_behind r ≡ y ∷ fields_behind s
    → fields_behind s ≡ z ∷ fields_behind t → fields_behind t ≡ [] → IsLength a × (x ≡ written a) → IsLength b × (y ≡ written b)
    → IsLength c × (z ≡ written c)
    → IsOnWire (record { x = a; y = b; z = c }) × (line ≡ point_line (record { x = a; y = b; z = c }))
point_found line x y z r s t a b c p q u n f g h = (
  record { x = f.0; y = g.0; z = h.0 },
  point_made line x y z (record { x = a; y = b; z = c }) (p ∙ rw (q, u, n) refl) f.1 g.1 h.1,
)

pub ruleset points = (point_back, point_made)
