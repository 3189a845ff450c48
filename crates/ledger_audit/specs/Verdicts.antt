-- What an audit's verdict specifies about features and a ledger (this profile).
use Rattle.std.specs.Prelude.{ℕ, ◌<◌, ◌≤◌, List, [], ◌∷◌, length, take}
use Rattle.contact_ledger.specs.declared.acts.Act.{Act}
use Rattle.contact_ledger.specs.declared.features.Feature.{Feature}
use Rattle.dmis_program.specs.declared.features.Wanted.{Wanted}
use Rattle.protocol_model.specs.Claims.{MadeContact, IsRun, AreRuns, Sound}
use Rattle.ledger_audit.specs.declared.verdicts.Verdict.{Verdict}
use Rattle.ledger_audit.specs.declared.verdicts.Verdict.TheVariants as verdict

-- numbers are as many as others, and each is at most the other in its place
abbrev pub AreAtMost : List ℕ → List ℕ → Type 0
AreAtMost [] [] = Unit {0}
AreAtMost (s ∷ starts) (t ∷ others) = (s ≤ t) × AreAtMost starts others
AreAtMost _ _ = ⊥

-- no choice of starts has one below these
abbrev pub AreLeast : List Wanted → List Feature → List MadeContact → List ℕ → Type 0
AreLeast wanted features made starts = (others : List ℕ) → AreRuns wanted features others 0 made → AreAtMost starts others

-- this count of the first features is the least that has no runs together
pub record AreFewestUnsound (wanted : List Wanted) (features : List Feature) (ledger : List (ℕ × Act)) (count : ℕ) : Type 0 where
  pub some : 1 ≤ count
  pub held : count ≤ length features
  pub before : (fewer : ℕ) → fewer < count → Sound wanted (take fewer features) ledger
  pub unsound : Sound wanted (take count features) ledger → ⊥

-- what holds of the starts, if a verdict reports them
abbrev pub IfStarts : Verdict → (List ℕ → Type 0) → Type 0
IfStarts (verdict.Starts starts) Holds = Holds starts
IfStarts (verdict.NoRun count) Holds = Unit {0}

-- what holds of the count of features, if a verdict reports that this many have no runs
abbrev pub IfNoRun : Verdict → (ℕ → Type 0) → Type 0
IfNoRun (verdict.Starts starts) Holds = Unit {0}
IfNoRun (verdict.NoRun count) Holds = Holds count

-- a verdict reports starts
abbrev pub TellsStarts : Verdict → Type 0
TellsStarts (verdict.Starts starts) = Unit {0}
TellsStarts (verdict.NoRun count) = ⊥

-- a verdict reports that some features have no runs
abbrev pub TellsNoRun : Verdict → Type 0
TellsNoRun (verdict.Starts starts) = ⊥
TellsNoRun (verdict.NoRun count) = Unit {0}

-- a feature has no run among the contacts from a number on
abbrev pub HasNoRun : Wanted → Feature → ℕ → List MadeContact → Type 0
HasNoRun wanted feature least made = (start : ℕ) → least ≤ start → IsRun wanted feature start made → ⊥

-- a run of a feature begins here, and none before it, among the contacts from a number on
pub record IsFirstRun (wanted : Wanted) (feature : Feature) (least : ℕ) (made : List MadeContact) (start : ℕ) : Type 0 where
  pub from : least ≤ start
  pub run : IsRun wanted feature start made
  pub first : (other : ℕ) → least ≤ other → IsRun wanted feature other made → start ≤ other
