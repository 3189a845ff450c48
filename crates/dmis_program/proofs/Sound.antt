-- What holds of the code's state at each statement. No public clause cites it.
use Rattle.dmis_program.proofs.Names.{[], ◌++◌, ◌<◌, ◌∷◌, ◌≡◌, ◌≤◌, AllByRecursion, AreBlocks, Begins, Block, block_touches, Closes, Ends}
use Rattle.dmis_program.proofs.Names.{features_of, FollowSelections, Goes, IfSome, IsDirection, IsFrame, IsInVolume, IsName, IsStep, Keyword, length}
use Rattle.dmis_program.proofs.Names.{List, Machine, None, offset_of, Option, Passes, Point, ReaderState, Recalls, Selects, Some, StatementMeaning}
use Rattle.dmis_program.proofs.Names.{Step, Touches, Wanted, ℕ}
use Rattle.dmis_program.specs.declared.features.Touch as touch

-- what a statement says by itself says its keyword, and is within the limits
abbrev pub SaidBy : Keyword → StatementMeaning → Type 0
SaidBy keyword (Goes target) = IsInVolume target
SaidBy keyword (Begins name count) = (keyword ≡ Keyword.Meas) × IsName name × (1 ≤ count)
SaidBy keyword (Touches target direction) = (keyword ≡ Keyword.Ptmeas) × IsInVolume target × IfSome direction IsDirection
SaidBy keyword Ends = keyword ≡ Keyword.Endmes
SaidBy keyword (Selects name) = IsName name
SaidBy keyword (Recalls name) = Unit {0}
SaidBy keyword Closes = keyword ≡ Keyword.Endfil
SaidBy keyword Passes = Unit {0}

-- what is said where it may be said: by the selected tool, the open block and the count of its touches
abbrev pub IsAllowed : List (List ℕ × Point) → Option (List ℕ) → Option Block → ℕ → StatementMeaning → Type 0
IsAllowed frames tool block count (Goes target) = IsInVolume target
IsAllowed frames tool block count (Begins name wanted) = (block ≡ None) × IsName name × (1 ≤ wanted)
IsAllowed frames tool block count (Touches target direction) = IsInVolume target × IfSome direction IsDirection
    × ((name : List ℕ) × (tool ≡ Some name)) × ((b : Block) × (block ≡ Some b))
IsAllowed frames tool block count Ends = (b : Block) × (block ≡ Some b) × (b.wanted ≤ count)
IsAllowed frames tool block count (Selects name) = IsName name
IsAllowed frames tool block count (Recalls name) = (offset : Point) × (offset_of frames name ≡ Some offset)
IsAllowed frames tool block count Closes = block ≡ None
IsAllowed frames tool block count Passes = Unit {0}

abbrev pub MayFollow : List (List ℕ × Point) → ReaderState → StatementMeaning → Type 0
MayFollow frames c said = (c.number < 10000) × IsAllowed frames c.tool c.open_block (length c.touches) said

-- the features of the steps to come, with that of the open block before them
abbrev pub under_way : Option Block → List touch.Touch → List Step → List Wanted
under_way None touches more = features_of more
under_way (Some block) touches more = record { label = block.label; touches = touches ++ block_touches more } ∷ features_of more

-- how many touches the open block has, or that none is open
abbrev pub open_count : Option Block → List touch.Touch → Option ℕ
open_count None touches = None
open_count (Some block) touches = Some (length touches)

-- the steps so far, and what has been made of them
pub record IsSound (c : ReaderState) : Type 0 where
  pub features : (more : List Step) → features_of (c.steps ++ more) ≡ c.done ++ under_way c.open_block c.touches more
  pub blocks : (more : List Step) → AreBlocks (open_count c.open_block c.touches) more → AreBlocks None (c.steps ++ more)
  pub selections : (more : List Step) → FollowSelections c.tool c.frame more → FollowSelections None Machine (c.steps ++ more)
  pub steps : AllByRecursion IsStep c.steps
  pub tool : IfSome c.tool IsName
  pub frame : IsFrame c.frame
  pub wanted : IfSome c.open_block (λ b. 1 ≤ b.wanted)
  pub idle : c.open_block ≡ None → c.touches ≡ []
  pub short : length c.steps ≤ c.number
  pub few : c.number ≤ 10000
