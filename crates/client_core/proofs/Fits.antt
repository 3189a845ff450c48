-- The features that a client holds, and the points of the unfinished one, fit the touches that are left of its plan.
use Rattle.client_core.proofs.Names.{[], ◌&&◌, ◌++◌, ◌+◌, ◌==◌, ◌∙◌, ◌∷◌, ◌≡◌, ◌≤◌, AllByRecursion, ap, are_ours, arith, Bool, bytes_eq, CanBeWritten}
use Rattle.client_core.proofs.Names.{drop, eq-eqb, eqb-true, false, false≢true, Feature, feature_ends, HaveOrigins, is_ours, IsFeature, IsPointCount}
use Rattle.client_core.proofs.Names.{joined, length, length-append, List, Option, Origin, origins_of, Point, refl, subst, suc, sym, take, touch_ends}
use Rattle.client_core.proofs.Names.{true, Wanted, zero, ℕ}
use Rattle.dmis_program.specs.declared.features.Touch.{Touch}

-- of the touches of a feature that many are left after the next one, which then is the last or not
abbrev pub ends_left : ℕ → List Bool
ends_left zero = true ∷ []
ends_left (suc n) = false ∷ ends_left n

-- the touches of the feature that is next, of which that many points are there, and those of the features after it
pub record NextFits (w : Wanted) (ws : List Wanted) (points : ℕ) (ends : List Bool) : Type 0 where
  pub left : ℕ
  pub ends_are : ends ≡ ends_left left ++ feature_ends ws
  pub many : points + suc left ≡ length w.touches

-- each feature that is held has the label and the count of a wanted one, in order; of the next one that many points are there
abbrev pub Fits : List Wanted → List Feature → ℕ → List Bool → Type 0
Fits [] [] points ends = ends ≡ []
Fits (w ∷ ws) [] points ends = NextFits w ws points ends
Fits [] (f ∷ fs) points ends = ⊥
Fits (w ∷ ws) (f ∷ fs) points ends = (is_ours w f ≡ true) × Fits ws fs points ends

pub both : (a b : Bool) → (a && b) ≡ true → (a ≡ true) × (b ≡ true)
both true b h = (refl, h)
both false b h = absurd (false≢true h)

pub fits_ours : (ws : List Wanted) (fs : List Feature) (points : ℕ) (ends : List Bool) → Fits ws fs points ends → are_ours ws fs ≡ true
fits_ours [] [] points ends h = refl
fits_ours (w ∷ ws) [] points ends h = refl
fits_ours [] (f ∷ fs) points ends h = absurd h
fits_ours (w ∷ ws) (f ∷ fs) points ends h = ap (λ (b : Bool). b && are_ours ws fs) h.0 ∙ fits_ours ws fs points ends h.1

ends_are_left : (t : Touch) (ts : List Touch) → touch_ends (t ∷ ts) ≡ ends_left (length ts)
ends_are_left t [] = refl
ends_are_left t (u ∷ ts) = ap (λ (l : List Bool). false ∷ l) (ends_are_left u ts)

-- a plan begins with no point
begins_next : (w : Wanted) (ws : List Wanted) (ts : List Touch) → w.touches ≡ ts → 1 ≤ length ts → NextFits w ws 0 (feature_ends (w ∷ ws))
begins_next w ws [] e some = absurd (omega (arith, some))
begins_next w ws (t ∷ ts) e some = record {
  left = length ts;
  ends_are = ap (λ (l : List Bool). l ++ feature_ends ws) (ap touch_ends e ∙ ends_are_left t ts);
  many = let long : length w.touches ≡ suc (length ts) = ap length e in omega (arith, long);
}

pub begins_fits : (ws : List Wanted) → AllByRecursion IsFeature ws → Fits ws [] 0 (feature_ends ws)
begins_fits [] h = refl
begins_fits (w ∷ ws) h = begins_next w ws w.touches refl (IsFeature.some h.0)

pub plan_fits_features : (ws : List Wanted) (fs : List Feature) → AllByRecursion IsFeature ws → are_ours ws fs ≡ true
    → Fits ws fs 0 (feature_ends (drop (length fs) ws))
plan_fits_features [] [] h ours = refl
plan_fits_features (w ∷ ws) [] h ours = begins_fits (w ∷ ws) h
plan_fits_features [] (f ∷ fs) h ours = absurd (false≢true ours)
plan_fits_features (w ∷ ws) (f ∷ fs) h ours = let two = both (is_ours w f) (are_ours ws fs) ours
    in (two.0, plan_fits_features ws fs h.1 two.1)

-- the first of them, and those after it
abbrev first_end : List Bool → Bool
first_end [] = false
first_end (b ∷ bs) = b

abbrev later_ends : List Bool → List Bool
later_ends [] = []
later_ends (b ∷ bs) = bs

-- a point that is not the last of its feature
next_more : (w : Wanted) (ws : List Wanted) (points left : ℕ) (rest : List Bool) → false ∷ rest ≡ ends_left left ++ feature_ends ws
    → points + suc left ≡ length w.touches → NextFits w ws (suc points) rest
next_more w ws points zero rest e many = absurd (false≢true (ap first_end e))
next_more w ws points (suc n) rest e many = record { left = n; ends_are = ap later_ends e; many = omega (arith, many) }

pub point_fits : (ws : List Wanted) (fs : List Feature) (points : ℕ) (rest : List Bool) → Fits ws fs points (false ∷ rest)
    → Fits ws fs (suc points) rest
point_fits [] [] points rest h = absurd (no h)
  where
    no : false ∷ rest ≡ [] → ⊥
    no e = cc
point_fits (w ∷ ws) [] points rest h = let n : NextFits w ws points (false ∷ rest) = h
    in next_more w ws points n.left rest n.ends_are n.many
point_fits [] (f ∷ fs) points rest h = absurd h
point_fits (w ∷ ws) (f ∷ fs) points rest h = (h.0, point_fits ws fs points rest h.1)

-- it ends a feature, which joins the others
pub joined_more : (ws : List Wanted) (fs : List Feature) (points : ℕ) (all : List Point) (origin : Option Origin) (rest : List Bool)
    → Fits ws fs points (true ∷ rest) → length (joined ws fs all origin) ≡ suc (length fs)
joined_more [] [] points all origin rest h = absurd (no h)
  where
    no : true ∷ rest ≡ [] → ⊥
    no e = cc
joined_more (w ∷ ws) [] points all origin rest h = refl
joined_more [] (f ∷ fs) points all origin rest h = absurd h
joined_more (w ∷ ws) (f ∷ fs) points all origin rest h = ap suc (joined_more ws fs points all origin rest h.1)

-- with its origin
pub joined_origin : (ws : List Wanted) (fs : List Feature) (points : ℕ) (all : List Point) (origin : Option Origin) (rest : List Bool)
    → Fits ws fs points (true ∷ rest) → origins_of (joined ws fs all origin) ≡ origins_of fs ++ origin ∷ []
joined_origin [] [] points all origin rest h = absurd (no h)
  where
    no : true ∷ rest ≡ [] → ⊥
    no e = cc
joined_origin (w ∷ ws) [] points all origin rest h = refl
joined_origin [] (f ∷ fs) points all origin rest h = absurd h
joined_origin (w ∷ ws) (f ∷ fs) points all origin rest h =
    ap (λ (l : List (Option Origin)). f.origin ∷ l) (joined_origin ws fs points all origin rest h.1)

-- the last point of a feature
same_bytes : (xs : List ℕ) → bytes_eq xs xs ≡ true
same_bytes [] = refl
same_bytes (x ∷ xs) = ap (λ (b : Bool). b && bytes_eq xs xs) (eq-eqb x x refl) ∙ same_bytes xs

whole_is_ours : (w : Wanted) (points : List Point) (origin : Option Origin) → length points ≡ length w.touches
    → is_ours w (record { label = w.label; points = points; origin = origin }) ≡ true
whole_is_ours w points origin long = ap (λ (b : Bool). b && (length points == length w.touches)) (same_bytes w.label)
    ∙ (ap (λ (n : ℕ). n == length w.touches) long ∙ eq-eqb (length w.touches) (length w.touches) refl)

last_left : (ws : List Wanted) (left : ℕ) (rest : List Bool) → true ∷ rest ≡ ends_left left ++ feature_ends ws → (left ≡ 0)
    × (rest ≡ feature_ends ws)
last_left ws zero rest e = (refl, ap later_ends e)
last_left ws (suc n) rest e = absurd (false≢true (sym (ap first_end e)))

pub last_fits : (ws : List Wanted) (fs : List Feature) (points : List Point) (p : Point) (origin : Option Origin) (rest : List Bool)
    → AllByRecursion IsFeature ws → Fits ws fs (length points) (true ∷ rest)
    → Fits ws (joined ws fs (points ++ p ∷ []) origin) 0 rest
last_fits [] [] points p origin rest all h = absurd (no h)
  where
    no : true ∷ rest ≡ [] → ⊥
    no e = cc
last_fits (w ∷ ws) [] points p origin rest all h =
    let n : NextFits w ws (length points) (true ∷ rest) = h in
    let l = last_left ws n.left rest n.ends_are in
    let zero_left : n.left ≡ 0 = l.0 in
    let many : length points + suc n.left ≡ length w.touches = n.many in
    let long : length (points ++ p ∷ []) ≡ length w.touches = length-append points (p ∷ []) ∙ omega (arith, many, zero_left) in
    (whole_is_ours w (points ++ p ∷ []) origin long, subst (λ (l : List Bool). Fits ws [] 0 l) (sym l.1) (begins_fits ws all.1))
last_fits [] (f ∷ fs) points p origin rest all h = absurd h
last_fits (w ∷ ws) (f ∷ fs) points p origin rest all h = (h.0, last_fits ws fs points p origin rest all.1 h.1)

-- the first features are the first of the program, too
pub fewer_are_ours : (ws : List Wanted) (fs : List Feature) (k : ℕ) → are_ours ws fs ≡ true → are_ours ws (take k fs) ≡ true
fewer_are_ours ws fs zero h = refl
fewer_are_ours ws [] (suc k) h = refl
fewer_are_ours [] (f ∷ fs) (suc k) h = absurd (false≢true h)
fewer_are_ours (w ∷ ws) (f ∷ fs) (suc k) h = let two = both (is_ours w f) (are_ours ws fs) h
    in ap (λ (b : Bool). b && are_ours ws (take k fs)) two.0 ∙ fewer_are_ours ws fs k two.1

-- features of a program have as many points as it has touches for them, so that they can be written
pub ours_writable : (ws : List Wanted) (fs : List Feature) → AllByRecursion IsFeature ws → are_ours ws fs ≡ true → HaveOrigins fs
    → AllByRecursion CanBeWritten fs
ours_writable ws [] h ours origins = tt
ours_writable [] (f ∷ fs) h ours origins = absurd (false≢true ours)
ours_writable (w ∷ ws) (f ∷ fs) h ours origins =
    let two = both (is_ours w f) (are_ours ws fs) ours in
    let same : length f.points ≡ length w.touches =
    eqb-true (length f.points) (length w.touches) (both (bytes_eq f.label w.label) (length f.points == length w.touches) two.0).1 in (
      (subst IsPointCount (sym same) (IsFeature.some h.0, IsFeature.few h.0), origins 0 f (omega (arith))),
      ours_writable ws fs h.1 two.1 (λ i d below. origins (suc i) d (omega (arith, below))),
    )
