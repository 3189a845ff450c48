-- Which of two lists of reports claims more (this profile).
use Rattle.std.specs.Prelude.{ℕ, Bool, false, not, List, [], ◌∷◌, ◌++◌, filter, Option, Some, None}
use Rattle.fixed_um.specs.Shapes.{Direction}
use Rattle.fixed_um.specs.declared.frames.Frame.{Frame}
use Rattle.fixed_um.specs.declared.lengths.Point.{Point}
use Rattle.contact_ledger.specs.declared.acts.Act.TheVariants as act
use Rattle.witness.specs.Rules.{reported_at_once}
use Rattle.witness.specs.declared.lines.Reported.{Reported}
use Rattle.witness.specs.declared.lines.Reported.TheVariants as reports
use Rattle.witness.specs.declared.lines.Side.TheVariants.{Client}
use Rattle.witness_laws.specs.Orders.{at_once_line}

-- ---- lines that may be carried out at once

-- what such lines of the client report, as soon as they are read
abbrev pub reported_first : List (List ℕ) → List Reported
reported_first [] = []
reported_first (line ∷ lines) = reported_at_once line (at_once_line line) ++ reported_first lines

-- whether a report is of such a line
abbrev pub is_at_once_report : Reported → Bool
is_at_once_report (reports.Other Client line) = at_once_line line
is_at_once_report _ = false

-- the reports of all other lines
abbrev pub in_turn : List Reported → List Reported
in_turn reported = filter (λ r. not (is_at_once_report r)) reported

-- ---- which claims more

-- what one knows, another knows too
pub data IsPart {A : Type 0} : Option A → Option A → Type 0 where
  unknown : (x : Option A) → IsPart None x
  known : (x : Option A) → IsPart x x

-- a report is another, but that the tool or the frame may be unknown
pub data ClaimsNoMore : Reported → Reported → Type 0 where
  same : (r : Reported) → ClaimsNoMore r r
  moved : (p : Point) (frame : Frame) → ClaimsNoMore (reports.MovedSomewhere p) (reports.Did (act.Moved p frame))
  framed : (frame : Frame) → ClaimsNoMore reports.FramedSomehow (reports.Did (act.Framed frame))
  touched : (p : Point) (d : Option Direction) (tool tool_too : Option (List ℕ)) (frame frame_too : Option Frame) (at : Point)
      → IsPart tool tool_too → IsPart frame frame_too
      → ClaimsNoMore (reports.Touched p d tool frame at) (reports.Touched p d tool_too frame_too at)
  contact : (p : Point) (d : Option Direction) (tool : Option (List ℕ)) (name : List ℕ) (frame : Option Frame) (in_frame : Frame) (at : Point)
      → IsPart tool (Some name) → IsPart frame (Some in_frame)
      → ClaimsNoMore (reports.Touched p d tool frame at) (reports.Did (act.Contact p d name in_frame at))

-- so it is one for one and in order
abbrev pub ClaimNoMore : List Reported → List Reported → Type 0
ClaimNoMore [] [] = Unit {0}
ClaimNoMore [] (y ∷ ys) = ⊥
ClaimNoMore (x ∷ xs) [] = ⊥
ClaimNoMore (x ∷ xs) (y ∷ ys) = ClaimsNoMore x y × ClaimNoMore xs ys
