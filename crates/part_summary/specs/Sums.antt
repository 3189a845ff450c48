-- The figures of the deviations of one touch over the parts of a batch (this profile), in whole micrometres.
use Rattle.std.specs.Prelude.{ℕ, ◌+◌, Bool, if◌then◌else◌, List, [], ◌∷◌, length, ℤ, ◌+ℤ◌, ◌-ℤ◌, unsigned_abs, Option, Some, None}
use Rattle.std.specs.Int.{int_min, int_max}
use Rattle.std.specs.List.{filter}
use Rattle.fixed_um.specs.Computed.{rounded}
use Rattle.deviations.specs.Along.{on_side_of}
use Rattle.deviations.specs.Compared.{is_out}
use Rattle.deviations.specs.Judged.{verdict_of}
use Rattle.deviations.specs.declared.ranges.Range.{Range}

-- of a deviation and others: the least, the greatest, and the sum
abbrev pub least : ℤ → List ℤ → ℤ
least x [] = x
least x (y ∷ ys) = int_min x (least y ys)

abbrev pub greatest : ℤ → List ℤ → ℤ
greatest x [] = x
greatest x (y ∷ ys) = int_max x (greatest y ys)

abbrev pub total : ℤ → List ℤ → ℤ
total x [] = x
total x (y ∷ ys) = x +ℤ total y ys

-- a sum divided by how many there are, to the nearest micrometre; of two equally near, the one farther from zero
abbrev pub mean : ℤ → ℕ → ℤ
mean sum count = on_side_of sum (rounded (unsigned_abs sum) count)

-- how many deviations are out of a range; without one none is
abbrev pub is_outside : Option Range → ℤ → Bool
is_outside range x = is_out (verdict_of range (Some x))

abbrev pub outside : Option Range → List ℤ → ℕ
outside range xs = length (filter (is_outside range) xs)

-- what is kept of deviations, one of them at least
pub record Sums : Type 0 where
  pub count : ℕ
  pub total : ℤ
  pub least : ℤ
  pub greatest : ℤ
  pub out : ℕ

abbrev pub sums_of : Option Range → List ℤ → Option Sums
sums_of range [] = None
sums_of range (x ∷ xs) = Some (record {
  count = length (x ∷ xs);
  total = total x xs;
  least = least x xs;
  greatest = greatest x xs;
  out = outside range (x ∷ xs);
})

-- what is kept of one deviation, and with one more
abbrev pub only : Option Range → ℤ → Sums
only range x = record { count = 1; total = x; least = x; greatest = x; out = if is_outside range x then 1 else 0 }

abbrev pub more : Option Range → ℤ → Sums → Sums
more range x s = record {
  count = s.count + 1;
  total = x +ℤ s.total;
  least = int_min x s.least;
  greatest = int_max x s.greatest;
  out = (if is_outside range x then 1 else 0) + s.out;
}

abbrev pub joined : Option Range → Option ℤ → Option Sums → Option Sums
joined range None sums = sums
joined range (Some x) None = Some (only range x)
joined range (Some x) (Some s) = Some (more range x s)

-- what is kept of the deviations of a touch, and the range for them, if a limit is for its feature
pub record Tally : Type 0 where
  pub range : Option Range
  pub sums : Option Sums

abbrev pub tally_of : Option Range → List ℤ → Tally
tally_of range xs = record { range = range; sums = sums_of range xs }
