-- The marks of features, found feature by feature, and their peaks, touch by touch.
use Rattle.std.proofs.Common.{[], ◌++◌, ◌∷◌, append-nil, append_assoc, drop, List, Option, None, refl, ℤ}
use Rattle.contact_ledger.specs.declared.features.Feature.{Feature}
use Rattle.deviations.specs.Along.{deviation}
use Rattle.deviations.specs.Rows.{IsAlongNormal}
use Rattle.dmis_program.specs.declared.features.Touch.{Touch}
use Rattle.dmis_program.specs.declared.features.Wanted.{Wanted}
use Rattle.fixed_um.specs.declared.lengths.Point.{Point}
use Rattle.drawings.specs.Named.{AreMarks, IsMark}
use Rattle.drawings.specs.Peaks.{farther_out, IsPeakAfter}
use Rattle.drawings.specs.Stops.{next_points}
use Rattle.drawings.specs.declared.marks.Mark.{Mark}

-- marks so far: with those of the features that are left they are all marks
pub record MarkedSoFar (wanted : List Wanted) (features : List Feature) (left : List Wanted) (measured : List Feature) (marks : List Mark)
    : Type 0 where
  pub all : (rest : List Mark) → AreMarks left measured rest → AreMarks wanted features (marks ++ rest)

pub marked_none : (wanted : List Wanted) (features : List Feature) → MarkedSoFar wanted features wanted features []
marked_none wanted features = record { all = λ rest are. are }

pub marked_more : (wanted : List Wanted) (features : List Feature) (w : Wanted) (left : List Wanted) (measured : List Feature)
    (marks : List Mark) (m : Mark) → MarkedSoFar wanted features (w ∷ left) measured marks → IsMark w (next_points measured) m
    → MarkedSoFar wanted features left (drop 1 measured) (marks ++ m ∷ [])
marked_more wanted features w left measured marks m s is = record {
  all = λ rest are. rw (append_assoc marks (m ∷ []) rest) (s.all (m ∷ rest) (is, are));
}

pub marked_all : (wanted : List Wanted) (features : List Feature) (measured : List Feature) (marks : List Mark)
    → MarkedSoFar wanted features [] measured marks → AreMarks wanted features marks
marked_all wanted features measured marks s = rw (append-nil marks) at (s.all [] tt)

-- a peak so far: what is the peak after it is that of all
pub record PeakSoFar (touches : List Touch) (points : List Point) (peak : Option ℤ) (left : List Touch) (measured : List Point) : Type 0 where
  pub all : (last : Option ℤ) → IsPeakAfter peak left measured last → IsPeakAfter None touches points last

pub peak_none : (touches : List Touch) (points : List Point) → PeakSoFar touches points None touches points
peak_none touches points = record { all = λ last is. is }

pub peak_more : (touches : List Touch) (points : List Point) (peak along : Option ℤ) (t : Touch) (left : List Touch) (p : Point)
    (measured : List Point) → PeakSoFar touches points peak (t ∷ left) (p ∷ measured) → IsAlongNormal (deviation p t.target) t.dir along
    → PeakSoFar touches points (farther_out peak along) left measured
peak_more touches points peak along t left p measured s is = record { all = λ last rest. s.all last (along, is, rest) }

pub peak_unmeasured : (touches : List Touch) (points : List Point) (peak : Option ℤ) (t : Touch) (left : List Touch)
    → PeakSoFar touches points peak (t ∷ left) [] → IsPeakAfter None touches points peak
peak_unmeasured touches points peak t left s = s.all peak refl

pub peak_all : (touches : List Touch) (points : List Point) (peak : Option ℤ) (measured : List Point) → PeakSoFar touches points peak [] measured
    → IsPeakAfter None touches points peak
peak_all touches points peak measured s = s.all peak refl
