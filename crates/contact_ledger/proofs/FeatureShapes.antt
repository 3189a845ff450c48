-- The lines above a place are those of its features.
use Rattle.contact_ledger.proofs.Names.{[], ◌++◌, ◌+◌, ◌-◌, ◌<◌, ◌∙◌, ◌∷◌, ◌≡◌, ◌≤◌, AllByRecursion, ap, append-nil, append_assoc, AreFeatureLines}
use Rattle.contact_ledger.proofs.Names.{AreFeatures, arith, Between, codes, Feature, feature_lines, feature_of, header, inl, inr, IsFeature, IsOnWire}
use Rattle.contact_ledger.proofs.Names.{IsOpening, IsTorn, length, length-append, lines_of_all, List, map, Next, Opening, opening_line, opening_of}
use Rattle.contact_ledger.proofs.Names.{Place, Point, point_line, refl, Start, subst, suc, sym, Version, Within, zero, ℕ}
use Rattle.fixed_um.specs.Points.{zero_point}
use Rattle.contact_ledger.specs.FeatureTexts.{none, some}
use Rattle.contact_ledger.proofs.LeadingPlaces.{Leads}
use Rattle.contact_ledger.proofs.FeatureRuns.{leads_more}

-- the lines that are above a place
abbrev pub lines_above : List Feature → Place → List (List ℕ)
lines_above features Start = []
lines_above features (Between v) = header v ∷ lines_of_all v features
lines_above features (Within v o points) = header v ∷ (lines_of_all v features ++ opening_line v o ∷ map point_line points)

-- what is there can be written
abbrev pub IsGood : List Feature → Place → Type 0
IsGood features Start = features ≡ []
IsGood features (Between v) = AreFeatures v features
IsGood features (Within v o points) = AreFeatures v features × IsOpening v o × AllByRecursion IsOnWire points × (length points ≤ o.count)

pub all_more : {X : Type 0} (P : X → Type 0) (xs : List X) (y : X) → AllByRecursion P xs → P y → AllByRecursion P (xs ++ y ∷ [])
all_more P [] y a p = (p, tt)
all_more P (x ∷ xs) y a p = (a.0, all_more P xs y a.1 p)

all_append : {X : Type 0} (P : X → Type 0) (xs ys : List X) → AllByRecursion P xs → AllByRecursion P ys → AllByRecursion P (xs ++ ys)
all_append P [] ys a b = b
all_append P (x ∷ xs) ys a b = (a.0, all_append P xs ys a.1 b)

map_more : (xs ys : List Point) → map point_line (xs ++ ys) ≡ map point_line xs ++ map point_line ys
map_more [] ys = refl
map_more (x ∷ xs) ys = ap (λ (r : List (List ℕ)). point_line x ∷ r) (map_more xs ys)

pub lines_more : (v : Version) (xs ys : List Feature) → lines_of_all v (xs ++ ys) ≡ lines_of_all v xs ++ lines_of_all v ys
lines_more v [] ys = refl
lines_more v (x ∷ xs) ys = ap (λ (r : List (List ℕ)). feature_lines v x ++ r) (lines_more v xs ys)
    ∙ sym (append_assoc (feature_lines v x) (lines_of_all v xs) (lines_of_all v ys))

lines_one : (v : Version) (x : Feature) → lines_of_all v (x ∷ []) ≡ feature_lines v x
lines_one v x = append-nil (feature_lines v x)

same_count : (o : Opening) (points : List Point) → length points ≡ o.count → opening_of (feature_of o points) ≡ o
same_count o points e = λ n. record { label = o.label; count = e n; origin = o.origin }

-- a feature that is whole can be written
pub is_feature : (v : Version) (o : Opening) (points : List Point) → IsOpening v o → AllByRecursion IsOnWire points
    → length points ≡ o.count → IsFeature v (feature_of o points)
is_feature v o points h all e = record {
  named = h.named;
  counted = rw e h.counted;
  points = all;
  origin = h.origin;
  known = h.known;
}

feature_made : (v : Version) (o : Opening) (points : List Point) → length points ≡ o.count
    → feature_lines v (feature_of o points) ≡ opening_line v o ∷ (map point_line points ++ codes "END" ∷ [])
feature_made v o points e = ap (λ (r : Opening). opening_line v r ∷ (map point_line points ++ codes "END" ∷ [])) (same_count o points e)

record Step (f : List Feature) (p : Place) (l : List ℕ) (g : List Feature) (q : Place) : Type 0 where
  good : IsGood g q
  lines : lines_above g q ≡ lines_above f p ++ l ∷ []

next_step : (f g : List Feature) (p q : Place) (l : List ℕ) → IsGood f p → Next f p l g q → Step f p l g q
next_step f g Start q l h (v, e, s, t) = rw (s, t, h, e) (record { good = tt; lines = refl })
next_step f g (Between v) q l h (o, k, e, s, t) = rw (s, t, e) (record { good = (h, k, tt, omega arith); lines = refl })
next_step f g (Within v o ps) q l h (inl a) =
    let m = a.missing in
    let points : header v ∷ (lines_of_all v f ++ opening_line v o ∷ map point_line (ps ++ a.point ∷ []))
    ≡ (header v ∷ (lines_of_all v f ++ opening_line v o ∷ map point_line ps)) ++ point_line a.point ∷ [] =
    rw (map_more ps (a.point ∷ [])) (ap (λ (r : List (List ℕ)). header v ∷ r)
    (sym (append_assoc (lines_of_all v f) (opening_line v o ∷ map point_line ps) (point_line a.point ∷ [])))) in
    rw (a.same, a.next, a.line_is) (record {
      good = (h.0, h.1, all_more IsOnWire ps a.point h.2 a.on_wire, omega (arith, length-append ps (a.point ∷ []), m));
      lines = points;
    })
next_step f g (Within v o ps) q l h (inr a) =
    let ended : header v ∷ lines_of_all v (f ++ feature_of o ps ∷ [])
    ≡ (header v ∷ (lines_of_all v f ++ opening_line v o ∷ map point_line ps)) ++ codes "END" ∷ [] =
    rw (lines_more v f (feature_of o ps ∷ []), lines_one v (feature_of o ps), feature_made v o ps a.whole)
    (ap (λ (r : List (List ℕ)). header v ∷ r)
    (sym (append_assoc (lines_of_all v f) (opening_line v o ∷ map point_line ps) (codes "END" ∷ [])))) in
    rw (a.more, a.next, a.line_is) (record {
      good = all_more (IsFeature v) f (feature_of o ps) h.0 (is_feature v o ps h.1 h.2 a.whole);
      lines = ended;
    })

pub record Above (f : List Feature) (p : Place) (ls : List (List ℕ)) (g : List Feature) (q : Place) : Type 0 where
  pub good : IsGood g q
  pub lines : lines_above g q ≡ lines_above f p ++ ls

pub leads_above : (ls : List (List ℕ)) (f g : List Feature) (p q : Place) → IsGood f p → Leads f p ls g q → Above f p ls g q
leads_above [] f g p q h (s, t) = rw (s, t) (record { good = h; lines = sym (append-nil (lines_above f p)) })
leads_above (l ∷ ls) f g p q h (m, at, n, more) =
    let step = next_step f m p at l h n in
    let rest = leads_above ls m g at q step.good more in
    record {
      good = rest.good;
      lines = rest.lines ∙ rw step.lines (append_assoc (lines_above f p) (l ∷ []) ls);
    }

-- ---- a place that is below lines is one that they hold

abbrev zeros : ℕ → List Point
zeros zero = []
zeros (suc n) = zero_point ∷ zeros n

zeros-length : (n : ℕ) → length (zeros n) ≡ n
zeros-length zero = refl
zeros-length (suc n) = ap (λ (k : ℕ). suc k) (zeros-length n)

zeros-wire : (n : ℕ) → AllByRecursion IsOnWire (zeros n)
zeros-wire zero = tt
zeros-wire (suc n) = (record { x = omega arith; y = omega arith; z = omega arith }, zeros-wire n)

begun : (v : Version) (o : Opening) (points : List Point) → IsOpening v o → AllByRecursion IsOnWire points → length points ≤ o.count
    → IsTorn v (opening_line v o ∷ map point_line points)
begun v o points h all few =
    let missing = zeros (o.count - length points) in
    let whole : length (points ++ missing) ≡ o.count =
    omega (arith, length-append points missing, zeros-length (o.count - length points), few) in
    let lines : feature_lines v (feature_of o (points ++ missing))
    ≡ (opening_line v o ∷ map point_line points) ++ (map point_line missing ++ codes "END" ∷ []) =
    rw (feature_made v o (points ++ missing) whole, map_more points missing)
    (ap (λ (r : List (List ℕ)). opening_line v o ∷ r) (append_assoc (map point_line points) (map point_line missing) (codes "END" ∷ []))) in
    inr (
      feature_of o (points ++ missing),
      record {
        writable = is_feature v o (points ++ missing) h (all_append IsOnWire points missing all (zeros-wire
            (o.count - length points))) whole;
        behind = map point_line missing ++ codes "END" ∷ [];
        front = lines;
        short = omega (arith, length-append (map point_line missing) (codes "END" ∷ []));
      },
    )

pub good_lines : (f : List Feature) (p : Place) → IsGood f p → AreFeatureLines (lines_above f p) f
good_lines f Start h = none refl h
good_lines f (Between v) h = some (record {
  version = v;
  rest = [];
  writable = h;
  whole = ap (λ (r : List (List ℕ)). header v ∷ r) (sym (append-nil (lines_of_all v f)));
  torn = inl refl;
})
good_lines f (Within v o points) h = some (record {
  version = v;
  rest = opening_line v o ∷ map point_line points;
  writable = h.0;
  whole = refl;
  torn = begun v o points h.1 h.2 h.3;
})

-- ---- and lines that hold features lead to a place that has them

lead_points : (qs ps : List Point) (f : List Feature) (v : Version) (o : Opening) → AllByRecursion IsOnWire qs
    → length ps + length qs ≤ o.count → Leads f (Within v o ps) (map point_line qs) f (Within v o (ps ++ qs))
lead_points [] ps f v o all few = (refl, rw (append-nil ps) refl)
lead_points (q ∷ qs) ps f v o all few =
    let step : Next f (Within v o ps) (point_line q) f (Within v o (ps ++ q ∷ [])) = inl (record {
      point = q;
      on_wire = all.0;
      missing = omega arith;
      line_is = refl;
      same = refl;
      next = refl;
    }) in
    let rest = lead_points qs (ps ++ q ∷ []) f v o all.1 (omega (arith, length-append ps (q ∷ []), few)) in
    (f, Within v o (ps ++ q ∷ []), step, rw (append_assoc ps (q ∷ []) qs) at rest)

pub opening_good : (v : Version) (g : Feature) → IsFeature v g → IsOpening v (opening_of g)
opening_good v g h = record { named = h.named; counted = h.counted; origin = h.origin; known = h.known }

lead_opened : (f : List Feature) (v : Version) (g : Feature) (qs : List Point) → IsFeature v g → AllByRecursion IsOnWire qs
    → length qs ≤ length g.points
    → Leads f (Between v) (opening_line v (opening_of g) ∷ map point_line qs) f (Within v (opening_of g) qs)
lead_opened f v g qs h all few = (
  f,
  Within v (opening_of g) [],
  (opening_of g, opening_good v g h, refl, refl, refl),
  lead_points qs [] f v (opening_of g) all (omega (arith, few)),
)

lead_feature : (f : List Feature) (v : Version) (g : Feature) → IsFeature v g
    → Leads f (Between v) (feature_lines v g) (f ++ g ∷ []) (Between v)
lead_feature f v g h =
    let ends : Next f (Within v (opening_of g) g.points) (codes "END") (f ++ g ∷ []) (Between v) = inr (record {
      whole = refl;
      line_is = refl;
      more = refl;
      next = refl;
    }) in
    leads_more (opening_line v (opening_of g) ∷ map point_line g.points) (codes "END" ∷ []) f f (f ++ g ∷ []) (Between v)
    (Within v (opening_of g) g.points) (Between v) (lead_opened f v g g.points h h.points (omega arith))
    (f ++ g ∷ [], Between v, ends, (refl, refl))

lead_features : (gs f : List Feature) (v : Version) → AreFeatures v gs → Leads f (Between v) (lines_of_all v gs) (f ++ gs) (Between v)
lead_features [] f v h = (append-nil f, refl)
lead_features (g ∷ gs) f v h =
    let rest = lead_features gs (f ++ g ∷ []) v h.1 in
    leads_more (feature_lines v g) (lines_of_all v gs) f (f ++ g ∷ []) (f ++ g ∷ gs) (Between v) (Between v) (Between v)
    (lead_feature f v g h.0) (rw (append_assoc f (g ∷ []) gs) at rest)

-- a prefix of points' lines is the lines of a prefix of the points
record Fronted (ps : List Point) (rest : List (List ℕ)) : Type 0 where
  front : List Point
  behind : List Point
  parts : ps ≡ front ++ behind
  lines : rest ≡ map point_line front

cons_same : (a b : List ℕ) (xs ys : List (List ℕ)) → a ≡ b → xs ≡ ys → a ∷ xs ≡ b ∷ ys
cons_same a b xs ys p q = rw (p, q) refl

fronted : (ps : List Point) (rest behind : List (List ℕ)) → map point_line ps ++ codes "END" ∷ [] ≡ rest ++ behind → 0 < length behind
    → Fronted ps rest
fronted ps [] behind e short = record { front = []; behind = ps; parts = refl; lines = refl }
fronted [] (r ∷ []) [] e short = absurd (omega arith)
fronted [] (r ∷ []) (b ∷ bs) e short = absurd cc
fronted [] (r ∷ s ∷ rest) behind e short = absurd cc
fronted (p ∷ ps) (r ∷ rest) behind e short =
    let tail : map point_line ps ++ codes "END" ∷ [] ≡ rest ++ behind = cc in
    let head : point_line p ≡ r = cc in
    let more = fronted ps rest behind tail short in
    record {
      front = p ∷ more.front;
      behind = more.behind;
      parts = ap (λ (x : List Point). p ∷ x) more.parts;
      lines = cons_same r (point_line p) rest (map point_line more.front) (sym head) more.lines;
    }

all_front : {X : Type 0} (P : X → Type 0) (xs ys : List X) → AllByRecursion P (xs ++ ys) → AllByRecursion P xs
all_front P [] ys a = tt
all_front P (x ∷ xs) ys a = (a.0, all_front P xs ys a.1)

lead_front : (f : List Feature) (v : Version) (g : Feature) (r : List ℕ) (rest : List (List ℕ)) → IsFeature v g
    → opening_line v (opening_of g) ≡ r → Fronted g.points rest → (p : Place) × Leads f (Between v) (r ∷ rest) f p
lead_front f v g r rest h head part =
    let all : AllByRecursion IsOnWire part.front = all_front IsOnWire part.front part.behind
    (subst (λ (ps : List Point). AllByRecursion IsOnWire ps) part.parts h.points) in
    let long = ap (λ (ps : List Point). length ps) part.parts in
    let few : length part.front ≤ length g.points = omega (arith, long, length-append part.front part.behind) in
    let lines : opening_line v (opening_of g) ∷ map point_line part.front ≡ r ∷ rest =
    cons_same (opening_line v (opening_of g)) r (map point_line part.front) rest head (sym part.lines) in (
      Within v (opening_of g) part.front,
      subst (λ (ls : List (List ℕ)). Leads f (Between v) ls f (Within v (opening_of g) part.front)) lines
          (lead_opened f v g part.front h all few),
    )

lead_torn : (f : List Feature) (v : Version) (rest : List (List ℕ)) → IsTorn v rest → (p : Place) × Leads f (Between v) rest f p
lead_torn f v rest (inl e) = (Between v, rw e (refl, refl))
lead_torn f v [] (inr (g, h)) = (Between v, (refl, refl))
lead_torn f v (r ∷ rest) (inr (g, h)) =
    let e = h.front in
    let tail : map point_line g.points ++ codes "END" ∷ [] ≡ rest ++ h.behind = cc in
    let head : opening_line v (opening_of g) ≡ r = cc in
    lead_front f v g r rest h.writable head (fronted g.points rest h.behind tail h.short)

pub held_lead : (lines : List (List ℕ)) (f : List Feature) → AreFeatureLines lines f → (p : Place) × Leads [] Start lines f p
held_lead lines f (none e s) = (Start, rw (e, s) (refl, refl))
held_lead lines f (some h) =
    let torn = lead_torn f h.version h.rest h.torn in
    let all = leads_more (lines_of_all h.version f) h.rest [] f f (Between h.version) (Between h.version) torn.0
    (lead_features f [] h.version h.writable) torn.1 in
    let first : Next [] Start (header h.version) [] (Between h.version) = (h.version, refl, refl, refl) in
    (torn.0, rw h.whole ([], Between h.version, first, all))
