-- Stops with their deviations along the normal, as the table of deviations has them.
use Rattle.std.specs.Prelude.{◌≡◌, ℤ, List, Option, None}
use Rattle.std.specs.List.{AllZip}
use Rattle.deviations.specs.Rows.{IsAlongNormal}
use Rattle.drawings.specs.declared.seen.Seen.{Seen}
use Rattle.drawings.specs.declared.walk.Act.{Act}
use Rattle.drawings.specs.declared.walk.Act.TheVariants as act
use Rattle.drawings.specs.declared.walk.Stop.{Stop}

-- the deviation along the normal of a measured point; none if there is no normal, or no point
abbrev pub IsAlongOf : Act → Option ℤ → Type 0
IsAlongOf (act.Measured gap) along = IsAlongNormal gap.deviation gap.normal along
IsAlongOf act.Move along = along ≡ None
IsAlongOf act.Touch along = along ≡ None

pub record IsSeen (s : Stop) (seen : Seen) : Type 0 where
  pub stop : seen.stop ≡ s
  pub along : IsAlongOf s.act seen.along

abbrev pub AreSeen : List Stop → List Seen → Type 0
AreSeen stops seen = AllZip IsSeen stops seen
