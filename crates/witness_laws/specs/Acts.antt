-- Acts, as a witness reports them (this profile).
use Rattle.std.specs.Prelude.{◌≡◌, List, [], ◌∷◌, ◌++◌, map}
use Rattle.contact_ledger.specs.declared.acts.Act.{Act}
use Rattle.witness.specs.declared.lines.Reported.{Reported}
use Rattle.witness.specs.declared.lines.Reported.TheVariants as reports
use Rattle.witness_laws.specs.Reports.{AreReportsOf}

-- acts, with their tools and frames known
abbrev pub all_done : List Act → List Reported
all_done acts = map (λ (a : Act). reports.Did a) acts

-- what was reported begins with these acts
pub record BeginsWith (acts : List Act) (reported : List Reported) : Type 0 where
  pub more : List Reported
  pub parts : reported ≡ all_done acts ++ more

-- ---- with tools and frames that are not known

-- a report that stands alone, unless it is of a line that belongs to no command
abbrev pub unless_unasked : Reported → List Reported
unless_unasked (reports.Unasked line) = []
unless_unasked report = report ∷ []

-- what was reported, without the lines that belong to no command
abbrev pub without_unasked : List Reported → List Reported
without_unasked [] = []
without_unasked (report ∷ reported) = unless_unasked report ++ without_unasked reported

-- without these lines, what was reported is that of these acts; and so is what it begins with
abbrev pub Claims : List Act → List Reported → Type 0
Claims acts reported = AreReportsOf (without_unasked reported) acts

pub record BeginsToClaim (acts : List Act) (reported : List Reported) : Type 0 where
  pub first : List Reported
  pub more : List Reported
  pub parts : reported ≡ first ++ more
  pub claims : Claims acts first
