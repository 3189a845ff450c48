-- The lines of labels, found from top to bottom.
use Rattle.drawings.proofs.Names.{[], ◌++◌, ◌+◌, ◌∷◌, ◌≡◌, ◌≤◌, AllZip, Anchor, anchors_from, ap, append_assoc, AreHighest, arith, le-max_left}
use Rattle.drawings.proofs.Names.{le-max_right, length, line_for, List, lowest_line, Mark, max-le, MayStand, min, more_if_any, refl, suc, ℕ}
use Rattle.drawings.specs.Labels.{by_height, DoNotCross}
use Rattle.drawings.specs.declared.views.View.{View}
use Rattle.std.proofs.Common.{◌<◌, false, IsSorted, subst}
use Rattle.std.specs.Ordering.{is_lt}
use Rattle.std.specs.Prelude.{slice_index_or, ⊤}

-- each label as high as it may be placed
abbrev pub lines_for : ℕ → List Anchor → List ℕ
lines_for highest [] = []
lines_for highest (a ∷ order) = line_for highest a.0 (length order) ∷ lines_for (line_for highest a.0 (length order) + 4800) order

may_stand : (highest : ℕ) (order : List Anchor) → MayStand highest order (lines_for highest order)
may_stand highest [] = tt
may_stand highest (a ∷ order) = (
  le-max_right (min a.0 (lowest_line (length order))) highest,
  le-max_left (min a.0 (lowest_line (length order))) highest,
  may_stand (line_for highest a.0 (length order) + 4800) order,
)

none_higher : (highest other : ℕ) (order : List Anchor) (others : List ℕ) → highest ≤ other → MayStand other order others
    → AllZip (λ line other. line ≤ other) (lines_for highest order) others
none_higher highest other [] [] le may = tt
none_higher highest other [] (o ∷ others) le may = absurd may
none_higher highest other (a ∷ order) [] le may = absurd may
none_higher highest other (a ∷ order) (o ∷ others) le may =
    let first : line_for highest a.0 (length order) ≤ o = max-le may.1 (let l = may.0 in omega (arith, le, l)) in
    (first, none_higher (line_for highest a.0 (length order) + 4800) (o + 4800) order others (omega (arith, first)) may.2)

pub lines_are_highest : (order : List Anchor) → AreHighest order (lines_for 26000 order)
lines_are_highest order = record {
  may = may_stand 26000 order;
  highest = λ others may. none_higher 26000 26000 order others (omega arith) may;
}

-- there is an anchor for each mark
pub anchors_length : (plan : View) (number : ℕ) (marks : List Mark) → length (anchors_from plan number marks) ≡ length marks
anchors_length plan number [] = refl
anchors_length plan number (mark ∷ marks) = ap suc (anchors_length plan (number + 1) marks)

four : (old start labels end more : List ℕ) → (((old ++ start) ++ labels) ++ end) ++ more ≡ old ++ (start ++ (labels ++ (end ++ more)))
four old start labels end more = simp append_assoc

-- the parts of labels, one after another
pub labels_joined : (old start labels end opened each closed new : List ℕ) (more count : ℕ) → opened ≡ old ++ start → each ≡ opened ++ labels
    → closed ≡ each ++ end → new ≡ closed ++ more_if_any more → more ≡ count
    → new ≡ old ++ (start ++ (labels ++ (end ++ more_if_any count)))
labels_joined old start labels end opened each closed new more count o l c n m =
    rw n (rw c (rw l (rw o (rw m (four old start labels end (more_if_any count))))))

-- what does not come before another in height is not above it
not_above : (a b : Anchor) → is_lt (by_height b a) ≡ false → a.0 ≤ b.0
not_above a b e = grind (arith, e)

-- no anchor is above a height
abbrev Begin : ℕ → List Anchor → Type 0
Begin height [] = ⊤
Begin height (a ∷ order) = height ≤ a.0

next_not_above : (a : Anchor) (order : List Anchor) → IsSorted by_height (a ∷ order) → Begin a.0 order
next_not_above a [] sorted = tt
next_not_above a (b ∷ order) sorted = not_above a b (sorted 0 a (omega arith) (omega arith))

later_sorted : (a : Anchor) (order : List Anchor) → IsSorted by_height (a ∷ order) → IsSorted by_height order
later_sorted a order sorted k d low high =
    let next : suc k + 1 ≡ suc (k + 1) = omega arith in
    subst (λ (n : ℕ). is_lt (by_height (slice_index_or (a ∷ order) n d) (slice_index_or order k d)) ≡ false) next
    (sorted (suc k) d (omega arith) (omega (arith, high)))

pub none_crosses : (height above highest : ℕ) (order : List Anchor) (lines : List ℕ) → above < highest → Begin height order
    → IsSorted by_height order → MayStand highest order lines → DoNotCross height above order lines
none_crosses height above highest [] [] less begin sorted may = tt
none_crosses height above highest [] (line ∷ lines) less begin sorted may = absurd may
none_crosses height above highest (a ∷ order) [] less begin sorted may = absurd may
none_crosses height above highest (a ∷ order) (line ∷ lines) less begin sorted may = (
  begin,
  let l = may.0 in omega (arith, l, less),
  none_crosses a.0 line (line + 4800) order lines (omega arith) (next_not_above a order sorted) (later_sorted a order sorted) may.2,
)

pub begins : (order : List Anchor) → Begin 0 order
begins [] = tt
begins (a ∷ order) = omega arith
