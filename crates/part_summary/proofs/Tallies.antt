-- What is kept of the deviations of touches, when a part more is counted.
use Rattle.std.proofs.Common.{◌≡◌, ◌∙◌, ◌+◌, [], ◌∷◌, ℕ, Bool, true, false, cond, List, Option, None, Some, ap, ap₂, arith, length, refl, subst, sym}
use Rattle.std.specs.Prelude.{ℤ, if◌then◌else◌}
use Rattle.std.specs.List.{AllZip, filter}
use Rattle.deviations.specs.Rows.{IsRow, Place, Row, places_of}
use Rattle.deviations.specs.declared.entries.Limit.{Limit}
use Rattle.deviations.specs.declared.ranges.Range.{Range}
use Rattle.dme_orders.specs.Recorded.{features_in}
use Rattle.record_text.specs.Records.{Recorded}
use Rattle.part_summary.specs.Batches.{Adds, BatchPart, IsSummary, Summed, alongs_in, deviations_over, empty_tallies, joined_all}
use Rattle.part_summary.specs.Batches.{named_if_unfinished, plot_of, put, put_all, range_at, tallies_of, touches_of, with_part}
use Rattle.part_summary.specs.Times.{placed}
use Rattle.part_summary.specs.Sums.{Sums, Tally, greatest, is_outside, joined, least, more, only, outside, sums_of, tally_of, total}

with_counts : Sums → (count out : ℕ) → Option Sums
with_counts s count out = Some (record s { count = count; out = out })

with_sums : Option Range → Option Sums → Tally
with_sums range sums = record { range = range; sums = sums }

one_outside : (range : Option Range) (x : ℤ) (xs : List ℤ)
    → outside range (x ∷ xs) ≡ (if is_outside range x then 1 else 0) + outside range xs
one_outside range x xs = go (is_outside range x)
  where
    go : (b : Bool) → length (cond b (x ∷ filter (is_outside range) xs) (filter (is_outside range) xs)) ≡ cond b 1 0 + outside range xs
    go true = omega arith
    go false = omega arith

-- one deviation more
put_joined : (range : Option Range) (x : Option ℤ) (xs : List ℤ) → sums_of range (put x xs) ≡ joined range x (sums_of range xs)
unfolding with_counts
put_joined range None xs = refl
put_joined range (Some x) [] =
    let same : outside range (x ∷ []) ≡ (if is_outside range x then 1 else 0) = one_outside range x [] ∙ omega arith in
    ap (with_counts (only range x) 1) same
put_joined range (Some x) (y ∷ ys) =
    let count : length (x ∷ y ∷ ys) ≡ length (y ∷ ys) + 1 = omega arith in
    ap₂ (with_counts (more range x (record {
      count = length (y ∷ ys);
      total = total y ys;
      least = least y ys;
      greatest = greatest y ys;
      out = outside range (y ∷ ys);
    }))) count (one_outside range x (y ∷ ys))

tally_joined : (range : Option Range) (x : Option ℤ) (xs : List ℤ)
    → tally_of range (put x xs) ≡ record { range = range; sums = joined range x (sums_of range xs) }
unfolding with_sums
tally_joined range x xs = ap (with_sums range) (put_joined range x xs)

none_joined : (tallies : List Tally) → joined_all [] tallies ≡ tallies
none_joined [] = refl
none_joined (t ∷ tallies) = ap (λ (ts : List Tally). t ∷ ts) (none_joined tallies)

-- a part's deviations
pub all_joined : (limits : Option (List Limit)) (places : List Place) (xs : List (Option ℤ)) (lists : List (List ℤ))
    → tallies_of limits places (put_all xs lists) ≡ joined_all xs (tallies_of limits places lists)
all_joined limits [] xs lists = refl
all_joined limits (p ∷ places) [] lists = sym (none_joined (tallies_of limits (p ∷ places) lists))
all_joined limits (p ∷ places) (x ∷ xs) [] = refl
all_joined limits (p ∷ places) (x ∷ xs) (list ∷ lists) =
    ap₂ (λ (t : Tally) (ts : List Tally). t ∷ ts) (tally_joined (range_at limits p) x list) (all_joined limits places xs lists)

none_over : (limits : Option (List Limit)) (places : List Place) → empty_tallies limits places ≡ tallies_of limits places (deviations_over places [])
none_over limits [] = refl
none_over limits (p ∷ places) = ap (λ (ts : List Tally). tally_of (range_at limits p) [] ∷ ts) (none_over limits places)

-- a summary without parts
pub of_none : (s : Summed) → s.counted ≡ 0 → s.tallies ≡ empty_tallies s.limits (touches_of s.program) → s.unfinished ≡ [] → s.plots ≡ [] → IsSummary s []
of_none s counted tallies unfinished plots = record {
  counted = counted;
  tallies = tallies ∙ none_over s.limits (touches_of s.program);
  unfinished = unfinished;
  plots = plots;
}

one_more : (s : Summed) (part : BatchPart) (parts : List BatchPart) → IsSummary s parts
    → IsSummary (with_part s part.plot part.alongs) (part ∷ parts)
one_more s part parts is = record {
  counted = ap (λ (n : ℕ). n + 1) is.counted ∙ omega arith;
  tallies = ap (joined_all part.alongs) is.tallies
      ∙ sym (all_joined s.limits (touches_of s.program) part.alongs (deviations_over (touches_of s.program) parts));
  unfinished = ap (named_if_unfinished (length s.program.features) part.plot.name part.plot.measured) is.unfinished;
  plots = ap (placed part.plot) is.plots;
}

-- a record counts
pub adds : (file : List ℕ) (held : Option Recorded) (rows : List Row) (old new : Summed)
    → AllZip IsRow (places_of old.program.features (features_in held)) rows
    → new ≡ with_part old (plot_of old.program file held rows) (alongs_in rows) → Adds file held old new
adds file held rows old new are is = subst (λ (s : Summed). Adds file held old s) (sym is) (
    let part : BatchPart = record { plot = plot_of old.program file held rows; alongs = alongs_in rows } in
    record {
      program = refl;
      limits = refl;
      key = refl;
      worst = refl;
      part = part;
      is = record { rows = rows; are = are; plot = refl; alongs = refl };
      sums = λ parts is. one_more old part parts is;
    }
    )
