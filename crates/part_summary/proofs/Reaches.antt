-- A chart reaches as far as each of its parts, and as its limits.
use Rattle.std.proofs.Common.{◌≡◌, [], ◌∷◌, ℕ, List, Option, None, Some, arith, refl}
use Rattle.std.proofs.lemmas.Int.{fold-int_max_bounds, fold-int_min_bounds, ints}
use Rattle.std.specs.Prelude.{ℤ, ◌≤ℤ◌}
use Rattle.std.specs.Int.{int_max, int_min}
use Rattle.std.specs.List.{AllByRecursion}
use Rattle.part_summary.specs.Charts.{IsWithin, reach_after, reach_with, span_at}
use Rattle.part_summary.specs.Spans.{Span}
use Rattle.part_summary.specs.Times.{Plot}

min_left : (x y : ℤ) → int_min x y ≤ℤ x
min_left x y = (fold-int_min_bounds x (y ∷ []) (int_min x y) refl).0

min_right : (x y : ℤ) → int_min x y ≤ℤ y
min_right x y = (fold-int_min_bounds x (y ∷ []) (int_min x y) refl).1 0 y (omega arith)

max_left : (x y : ℤ) → x ≤ℤ int_max x y
max_left x y = (fold-int_max_bounds x (y ∷ []) (int_max x y) refl).0

max_right : (x y : ℤ) → y ≤ℤ int_max x y
max_right x y = (fold-int_max_bounds x (y ∷ []) (int_max x y) refl).1 0 y (omega arith)

le_same : (x : ℤ) → x ≤ℤ x
le_same x = omega (arith, ints)

le_trans : (x y z : ℤ) → x ≤ℤ y → y ≤ℤ z → x ≤ℤ z
le_trans x y z a b = omega (arith, ints)

old_within : (reach : Span) (s : Option Span) → IsWithin (reach_with reach s) (Some reach)
old_within reach None = (le_same reach.least, le_same reach.greatest)
old_within reach (Some s) = (min_left reach.least s.least, max_left reach.greatest s.greatest)

new_within : (reach : Span) (s : Option Span) → IsWithin (reach_with reach s) s
new_within reach None = tt
new_within reach (Some s) = (min_right reach.least s.least, max_right reach.greatest s.greatest)

within_trans : (wide reach : Span) (s : Option Span) → IsWithin wide (Some reach) → IsWithin reach s → IsWithin wide s
within_trans wide reach None a b = tt
within_trans wide reach (Some s) a b = (le_trans _ _ _ a.0 b.0, le_trans _ _ _ b.1 a.1)

pub grown : (feature : ℕ) (reach : Span) (parts : List Plot) → IsWithin (reach_after feature reach parts) (Some reach)
grown feature reach [] = (le_same reach.least, le_same reach.greatest)
grown feature reach (p ∷ parts) = within_trans (reach_after feature (reach_with reach (span_at feature p)) parts)
    (reach_with reach (span_at feature p)) (Some reach) (grown feature (reach_with reach (span_at feature p)) parts)
    (old_within reach (span_at feature p))

pub held : (feature : ℕ) (reach : Span) (parts : List Plot)
    → AllByRecursion (λ p. IsWithin (reach_after feature reach parts) (span_at feature p)) parts
held feature reach [] = tt
held feature reach (p ∷ parts) = (
  within_trans (reach_after feature (reach_with reach (span_at feature p)) parts) (reach_with reach (span_at feature p)) (span_at feature p)
      (grown feature (reach_with reach (span_at feature p)) parts) (new_within reach (span_at feature p)),
  held feature (reach_with reach (span_at feature p)) parts,
)
