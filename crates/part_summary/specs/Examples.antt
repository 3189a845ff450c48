-- The parts of examples.
use Rattle.std.specs.Prelude.{ℕ, List, [], codes, pos, ℤ, Option, Some, None}
use Rattle.deviations.specs.Rows.{Row}
use Rattle.deviations.specs.declared.ranges.Range.{Range}
use Rattle.fixed_um.specs.Points.{zero_point}
use Rattle.fixed_um.specs.declared.frames.Frame.TheVariants.{Machine}
use Rattle.part_summary.specs.Batches.{BatchPart}
use Rattle.part_summary.specs.Spans.{Span}
use Rattle.part_summary.specs.Times.{Plot}

-- what is plotted of a part
abbrev pub plot_with : List ℕ → ℕ → Option (List ℕ) → List (Option Span) → Plot
plot_with name measured time spans = record { name = name; measured = measured; time = time; spans = spans }

-- a part with these deviations of its touches, and this many features
abbrev pub part_with : List ℕ → ℕ → List (Option ℤ) → BatchPart
part_with name measured alongs = record { plot = plot_with name measured None []; alongs = alongs }

-- from a least deviation to a greatest
abbrev pub span : ℤ → ℤ → Span
span least greatest = record { least = least; greatest = greatest }

-- from 0 to 0.003
abbrev pub small : Option Range
small = Some (record { lower = pos 0; upper = pos 3 })

-- a part of one feature, begun at this time
abbrev pub begun : List ℕ → Option (List ℕ) → BatchPart
begun name time = record { plot = plot_with name 1 time []; alongs = [] }

-- the row of a touch with this deviation
abbrev pub row : Option ℤ → Row
row along = record {
  place = record {
    feature = codes "A";
    number = 1;
    touch = record { target = zero_point; dir = None; tool = codes "P1"; frame = Machine };
    measured = None;
    connection = None;
  };
  deviation = None;
  along = along;
}
