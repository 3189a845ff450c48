-- A feature joins the others as the next that the program wants.
use Rattle.client_core.proofs.Names.{[], ◌&&◌, ◌++◌, ◌-◌, ◌<◌, ◌∙◌, ◌∷◌, ◌≡◌, ◌≤◌, ap, are_ours, arith, Bool, Command, drop, false, Feature, is_empty}
use Rattle.client_core.proofs.Names.{is_ours, joined, le-leb, length, length-append, length-drop, List, nat_le, None, Option, Origin, Planned}
use Rattle.client_core.proofs.Names.{planned_command, Point, refl, slice_index_or, Some, suc, sym, take, take-append_seam, true, Wanted, zero, ℕ}
use Rattle.std.proofs.Math.Dec.{leb-suc-suc, leb-suc-zero}
use Rattle.std.specs.Option.{is_some}

pub joins : (ws : List Wanted) (fs : List Feature) (w : Wanted) (points : List Point) (origin : Option Origin) → length fs < length ws
    → w ≡ slice_index_or ws (length fs) w
    → joined ws fs points origin ≡ fs ++ record { label = w.label; points = points; origin = origin } ∷ []
joins [] fs w points origin short is = absurd (omega (arith, short))
joins (v ∷ ws) [] w points origin short is =
    ap (λ (x : Wanted). record { label = x.label; points = points; origin = origin } ∷ []) (sym is)
joins (v ∷ ws) (f ∷ fs) w points origin short is =
    ap (λ (xs : List Feature). f ∷ xs) (joins ws fs w points origin (omega (arith, short)) is)

pub joins_none : (ws : List Wanted) (fs : List Feature) (points : List Point) (origin : Option Origin) → length ws ≤ length fs
    → joined ws fs points origin ≡ fs
joins_none [] fs points origin long = refl
joins_none (v ∷ ws) [] points origin long = absurd (omega (arith, long))
joins_none (v ∷ ws) (f ∷ fs) points origin long =
    ap (λ (xs : List Feature). f ∷ xs) (joins_none ws fs points origin (omega (arith, long)))

-- a feature that is given back still has the points of the unfinished one in front
pub front_within : (points whole : List Point) (p : Point) (given made : Feature) → given ≡ made → made.points ≡ whole
    → whole ≡ points ++ p ∷ []
    → length points ≤ length given.points
front_within points whole p given made same is more =
    rw (ap (λ (f : Feature). f.points) same, is, more, length-append points (p ∷ [])) (omega arith)

pub front_kept : (points whole : List Point) (p : Point) (given made : Feature) → given ≡ made → made.points ≡ whole
    → whole ≡ points ++ p ∷ []
    → take (length points) given.points ≡ points
front_kept points whole p given made same is more =
    rw (ap (λ (f : Feature). f.points) same, is, more) (take-append_seam points (p ∷ []))

-- no more features than the program wants
pub joined_within : (ws : List Wanted) (fs : List Feature) (points : List Point) (origin : Option Origin) → length fs ≤ length ws
    → length (joined ws fs points origin) ≤ length ws
joined_within [] fs points origin short = short
joined_within (v ∷ ws) [] points origin short = omega arith
joined_within (v ∷ ws) (f ∷ fs) points origin short = let less : length (joined ws fs points origin) ≤ length ws =
    joined_within ws fs points origin (omega (arith, short)) in omega (arith, less)

-- after the first n nothing is left where there are no more
pub nothing_behind : {A : Type 0} (n : ℕ) (xs : List A) → nat_le (length xs) n ≡ is_empty (drop n xs)
nothing_behind zero [] = refl
nothing_behind zero (x ∷ xs) = leb-suc-zero (length xs)
nothing_behind (suc n) [] = le-leb 0 (suc n) (omega arith)
nothing_behind (suc n) (x ∷ xs) = leb-suc-suc (length xs) n ∙ nothing_behind n xs

-- that many are left after the first n
pub left_behind : {A : Type 0} (n : ℕ) (xs : List A) → length xs - n ≡ length (drop n xs)
left_behind n xs = sym (length-drop n xs)

second : (a b : Bool) → (a && b) ≡ true → b ≡ true
second true b is = is
second false b is = absurd (cc is)

-- features that are the first of the wanted ones are no more than those
pub ours_within : (ws : List Wanted) (fs : List Feature) → are_ours ws fs ≡ true → length fs ≤ length ws
ours_within ws [] is = omega arith
ours_within [] (f ∷ fs) is = absurd (cc is)
ours_within (w ∷ ws) (f ∷ fs) is = let less : length fs ≤ length ws = ours_within ws fs (second (is_ours w f) (are_ours ws fs) is)
    in omega (arith, less)

-- a planned command is due where its command is
pub is_due : (o : Option Planned) (c : Command) → planned_command o ≡ Some c → true ≡ is_some o
is_due None c is = absurd (cc is)
is_due (Some p) c is = refl

pub none_due : (o : Option Planned) → o ≡ None → false ≡ is_some o
none_due o is = sym (ap is_some is)
