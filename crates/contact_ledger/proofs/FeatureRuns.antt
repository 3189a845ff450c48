-- Lines lead from place to place in one way.
use Rattle.contact_ledger.proofs.Names.{[], ◌++◌, ◌∙◌, ◌∷◌, ◌≡◌, AddsPoint, ap, arith, Between, codes, decimal, decimal_injective, Feature, First}
use Rattle.contact_ledger.proofs.Names.{Frame, frame_fields, header, inl, inr, IsFrame, IsKnown, IsOnWire, IsOpening, IsWrittenOrigin, known_fields}
use Rattle.contact_ledger.proofs.Names.{List, Machine, Next, None, Opening, opening_line, Option, Origin, origin_fields, Part, Place, Point}
use Rattle.contact_ledger.proofs.Names.{point_fields, point_line, refl, Second, slice_index, Some, Start, sym, Version, Within, written, ℕ}
use Rattle.contact_ledger.proofs.LeadingPlaces.{Leads}
use Rattle.contact_ledger.proofs.Leaves.{number_no_dash, written_one}
use Rattle.contact_ledger.proofs.OpeningLines.{opening_back, point_back}

-- ---- a line says one thing

same_point : (p q : Point) → p.x ≡ q.x → p.y ≡ q.y → p.z ≡ q.z → p ≡ q
same_point p q a b c = λ n. record { x = a n; y = b n; z = c n }

pub one_place : (p q : Point) → IsOnWire p → IsOnWire q → point_fields p ≡ point_fields q → p ≡ q
one_place p q f g e =
    let a : written p.x ≡ written q.x = cc in
    let b : written p.y ≡ written q.y = cc in
    let c : written p.z ≡ written q.z = cc in
    same_point p q (written_one p.x q.x f.x g.x a) (written_one p.y q.y f.y g.y b) (written_one p.z q.z f.z g.z c)

pub one_point : (p q : Point) → IsOnWire p → IsOnWire q → point_line p ≡ point_line q → p ≡ q
one_point p q f g e = one_place p q f g (sym (point_back (point_line p) p f refl) ∙ point_back (point_line p) q g e)

pub one_frame : (f g : Frame) → IsFrame f → IsFrame g → frame_fields f ≡ frame_fields g → f ≡ g
one_frame Machine Machine p q e = refl
one_frame Machine (Part o) p q e = absurd cc
one_frame (Part o) Machine p q e = absurd cc
one_frame (Part o) (Part r) p q e =
    let same : point_fields o ≡ point_fields r = cc in
    ap (λ (x : Point). Part x) (one_place o r p q same)

same_origin : (o r : Origin) → o.connection ≡ r.connection → o.frame ≡ r.frame → o ≡ r
same_origin o r a b = λ n. record { connection = a n; frame = b n }

one_origin : (o r : Option Origin) → IsWrittenOrigin o → IsWrittenOrigin r → origin_fields o ≡ origin_fields r → o ≡ r
one_origin None None p q e = refl
one_origin None (Some r) p q e =
    let same : decimal r.connection ≡ codes "-" = cc in
    absurd (number_no_dash r.connection (omega (arith, q.0.1)) same)
one_origin (Some o) None p q e =
    let same : decimal o.connection ≡ codes "-" = cc in
    absurd (number_no_dash o.connection (omega (arith, p.0.1)) same)
one_origin (Some o) (Some r) p q e =
    let number : decimal o.connection ≡ decimal r.connection = cc in
    let frame : frame_fields o.frame ≡ frame_fields r.frame = cc in
    ap (λ (x : Origin). Some x) (same_origin o r
    (decimal_injective o.connection r.connection (omega (arith, p.0.1)) (omega (arith, q.0.1)) number)
    (one_frame o.frame r.frame p.1 q.1 frame))

one_known : (v : Version) (o r : Option Origin) → IsWrittenOrigin o → IsWrittenOrigin r → IsKnown v o → IsKnown v r
    → known_fields v o ≡ known_fields v r → o ≡ r
one_known First o r p q k l e = k ∙ sym l
one_known Second o r p q k l e = one_origin o r p q e

same_opening : (o r : Opening) → o.label ≡ r.label → o.count ≡ r.count → o.origin ≡ r.origin → o ≡ r
same_opening o r a b c = λ n. record { label = a n; count = b n; origin = c n }

pub one_opening : (v : Version) (o r : Opening) → IsOpening v o → IsOpening v r → opening_line v o ≡ opening_line v r → o ≡ r
one_opening v o r f g e =
    let fields : codes "FEATURE" ∷ o.label ∷ decimal o.count ∷ known_fields v o.origin
    ≡ codes "FEATURE" ∷ r.label ∷ decimal r.count ∷ known_fields v r.origin =
    sym (opening_back (opening_line v o) v o f refl) ∙ opening_back (opening_line v o) v r g e in
    let label : o.label ≡ r.label = cc in
    let number : decimal o.count ≡ decimal r.count = cc in
    let known : known_fields v o.origin ≡ known_fields v r.origin = cc in
    same_opening o r label
    (decimal_injective o.count r.count (omega (arith, f.counted.1)) (omega (arith, g.counted.1)) number)
    (one_known v o.origin r.origin f.origin g.origin f.known g.known known)

one_header : (v w : Version) → header v ≡ header w → v ≡ w
one_header First First e = refl
one_header First Second e =
    let last : 49 ≡ 50 = ap (λ (t : List ℕ). slice_index t 13) e in
    absurd (omega (arith, last))
one_header Second First e =
    let last : 50 ≡ 49 = ap (λ (t : List ℕ). slice_index t 13) e in
    absurd (omega (arith, last))
one_header Second Second e = refl

-- ---- and leads to one place

one_within : (f g h : List Feature) (v : Version) (o : Opening) (ps : List Point) (l : List ℕ) (q r : Place)
    → AddsPoint f v o ps l g q → AddsPoint f v o ps l h r → (g ≡ h) × (q ≡ r)
one_within f g h v o ps l q r a b = (
  a.same ∙ sym b.same,
  a.next ∙ ap (λ (x : Point). Within v o (ps ++ x ∷ [])) (one_point a.point b.point a.on_wire b.on_wire (sym a.line_is ∙ b.line_is))
      ∙ sym b.next,
)

pub next_one : (f g h : List Feature) (p : Place) (l : List ℕ) (q r : Place) → Next f p l g q → Next f p l h r → (g ≡ h) × (q ≡ r)
next_one f g h Start l q r a b = (
  a.2 ∙ sym b.2,
  a.3 ∙ ap (λ (v : Version). Between v) (one_header a.0 b.0 (sym a.1 ∙ b.1)) ∙ sym b.3,
)
next_one f g h (Between v) l q r a b = (
  a.3 ∙ sym b.3,
  a.4 ∙ ap (λ (o : Opening). Within v o []) (one_opening v a.0 b.0 a.1 b.1 (sym a.2 ∙ b.2)) ∙ sym b.4,
)
next_one f g h (Within v o ps) l q r (inl a) (inl b) = one_within f g h v o ps l q r a b
next_one f g h (Within v o ps) l q r (inl a) (inr b) = let m = a.missing in let w = b.whole in absurd (omega arith)
next_one f g h (Within v o ps) l q r (inr a) (inl b) = let m = b.missing in let w = a.whole in absurd (omega arith)
next_one f g h (Within v o ps) l q r (inr a) (inr b) = (a.more ∙ sym b.more, a.next ∙ sym b.next)

pub leads_one : (ls : List (List ℕ)) (f g h : List Feature) (p q r : Place) → Leads f p ls g q → Leads f p ls h r → (g ≡ h) × (q ≡ r)
leads_one [] f g h p q r a b = (a.0 ∙ sym b.0, a.1 ∙ sym b.1)
leads_one (l ∷ ls) f g h p q r a b =
    let same = next_one f a.0 b.0 p l a.1 b.1 a.2 b.2 in
    let moved : Leads a.0 a.1 ls h r = rw (same.0, same.1) b.3 in
    leads_one ls a.0 g h a.1 q r a.3 moved

pub leads_more : (xs ys : List (List ℕ)) (f g h : List Feature) (p q r : Place) → Leads f p xs g q → Leads g q ys h r
    → Leads f p (xs ++ ys) h r
leads_more [] ys f g h p q r a b = rw (← a.0, ← a.1) b
leads_more (x ∷ xs) ys f g h p q r a b = (a.0, a.1, a.2, leads_more xs ys a.0 g h a.1 q r a.3 b)

pub record Halves (xs ys : List (List ℕ)) (f h : List Feature) (p r : Place) : Type 0 where
  pub mid : List Feature
  pub at : Place
  pub front : Leads f p xs mid at
  pub behind : Leads mid at ys h r

pub leads_split : (xs ys : List (List ℕ)) (f h : List Feature) (p r : Place) → Leads f p (xs ++ ys) h r → Halves xs ys f h p r
leads_split [] ys f h p r a = record { mid = f; at = p; front = (refl, refl); behind = a }
leads_split (x ∷ xs) ys f h p r a =
    let s = leads_split xs ys a.0 h a.1 r a.3 in
    record { mid = s.mid; at = s.at; front = (a.0, a.1, a.2, s.front); behind = s.behind }
