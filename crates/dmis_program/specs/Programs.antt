-- What each program keeps, whatever text it was read from.
use Rattle.std.specs.Prelude.{◌≡◌, ℕ, ◌+◌, ◌<◌, ◌≤◌, List, [], ◌∷◌, length, Option, Some, None, IfSome}
use Rattle.std.specs.List.{AllByRecursion, flat_map}
use Rattle.fixed_um.specs.Names.{IsName}
use Rattle.fixed_um.specs.Points.{IsInVolume}
use Rattle.fixed_um.specs.Shapes.{IsDirection}
use Rattle.fixed_um.specs.declared.frames.Frame.{Frame}
use Rattle.fixed_um.specs.declared.frames.Frame.TheVariants.{Machine, Part}
use Rattle.fixed_um.specs.declared.lengths.Point.{Point}
use Rattle.dmis_program.specs.Offsets.{offset_of}
use Rattle.dmis_program.specs.Meaning.{Meaning, features_of}
use Rattle.dmis_program.specs.declared.steps.Step.{Step}
use Rattle.dmis_program.specs.declared.steps.Step.TheVariants.{Goto, Begin, Touch, Tool, Recall, End}
use Rattle.dmis_program.specs.declared.features.Touch as touch
use Rattle.dmis_program.specs.declared.features.Wanted.{Wanted}

-- a part's zero point is in the machine's volume
abbrev pub IsFrame : Frame → Type 0
IsFrame Machine = Unit {0}
IsFrame (Part offset) = IsInVolume offset

-- the target is in the machine's volume, a direction is one, the tool has a name, the frame is one
pub record IsTouch (t : touch.Touch) : Type 0 where
  pub target : IsInVolume t.target
  pub direction : IfSome t.dir IsDirection
  pub tool : IsName t.tool
  pub frame : IsFrame t.frame

abbrev pub IsStep : Step → Type 0
IsStep (Goto target) = IsInVolume target
IsStep (Begin label) = IsName label
IsStep (Touch t) = IsTouch t
IsStep (Tool name) = IsName name
IsStep (Recall offset) = IsInVolume offset
IsStep End = Unit {0}

-- touches are in blocks, each block has one at least and ends, and none is in another. A number says that a block is open
-- and has that many touches
abbrev pub AreBlocks : Option ℕ → List Step → Type 0
AreBlocks None [] = Unit {0}
AreBlocks None (Goto target ∷ steps) = AreBlocks None steps
AreBlocks None (Begin label ∷ steps) = AreBlocks (Some 0) steps
AreBlocks None (Touch t ∷ steps) = ⊥
AreBlocks None (Tool name ∷ steps) = AreBlocks None steps
AreBlocks None (Recall offset ∷ steps) = AreBlocks None steps
AreBlocks None (End ∷ steps) = ⊥
AreBlocks (Some n) [] = ⊥
AreBlocks (Some n) (Goto target ∷ steps) = AreBlocks (Some n) steps
AreBlocks (Some n) (Begin label ∷ steps) = ⊥
AreBlocks (Some n) (Touch t ∷ steps) = AreBlocks (Some (n + 1)) steps
AreBlocks (Some n) (Tool name ∷ steps) = AreBlocks (Some n) steps
AreBlocks (Some n) (Recall offset ∷ steps) = AreBlocks (Some n) steps
AreBlocks (Some n) (End ∷ steps) = (0 < n) × AreBlocks None steps

-- each touch has the tool of the last `Tool` above it and the frame of the last `Recall`, also where they change inside a block;
-- these are selected before the steps
abbrev pub FollowSelections : Option (List ℕ) → Frame → List Step → Type 0
FollowSelections tool frame [] = Unit {0}
FollowSelections tool frame (Goto target ∷ steps) = FollowSelections tool frame steps
FollowSelections tool frame (Begin label ∷ steps) = FollowSelections tool frame steps
FollowSelections tool frame (Touch t ∷ steps) = (tool ≡ Some t.tool) × (t.frame ≡ frame) × FollowSelections tool frame steps
FollowSelections tool frame (Tool name ∷ steps) = FollowSelections (Some name) frame steps
FollowSelections tool frame (Recall offset ∷ steps) = FollowSelections tool (Part offset) steps
FollowSelections tool frame (End ∷ steps) = FollowSelections tool frame steps

-- a name, and 1 to 10,000 touches
pub record IsFeature (w : Wanted) : Type 0 where
  pub label : IsName w.label
  pub some : 1 ≤ length w.touches
  pub few : length w.touches ≤ 10000
  pub touches : AllByRecursion IsTouch w.touches

-- the touches of steps, in order
abbrev pub onto_touches : Step → List touch.Touch → List touch.Touch
onto_touches (Touch t) behind = t ∷ behind
onto_touches _ behind = behind

abbrev pub touches_of : List Step → List touch.Touch
touches_of [] = []
touches_of (step ∷ steps) = onto_touches step (touches_of steps)

abbrev pub feature_touches : List Wanted → List touch.Touch
feature_touches features = flat_map (λ (w : Wanted). w.touches) features

pub record IsProgram (m : Meaning) : Type 0 where
  pub built : m.features ≡ features_of m.steps
  pub blocks : AreBlocks None m.steps
  pub selections : FollowSelections None Machine m.steps
  pub steps : AllByRecursion IsStep m.steps
  pub short : length m.steps ≤ 10000
  pub features : AllByRecursion IsFeature m.features
  pub touches : touches_of m.steps ≡ feature_touches m.features

-- frames that are stored, and the volume
abbrev pub IsStored : List (List ℕ × Point) → Point → Type 0
IsStored frames offset = (name : List ℕ) × (offset_of frames name ≡ Some offset)

abbrev pub FrameIsStored : List (List ℕ × Point) → Frame → Type 0
FrameIsStored frames Machine = Unit {0}
FrameIsStored frames (Part offset) = IsStored frames offset

-- what a step recalls, or touches in, is stored
abbrev pub StepIsStored : List (List ℕ × Point) → Step → Type 0
StepIsStored frames (Goto target) = Unit {0}
StepIsStored frames (Begin label) = Unit {0}
StepIsStored frames (Touch t) = FrameIsStored frames t.frame
StepIsStored frames (Tool name) = Unit {0}
StepIsStored frames (Recall offset) = IsStored frames offset
StepIsStored frames End = Unit {0}

-- steps that select no tool, and steps that select no frame
abbrev pub SelectNoTool : List Step → Type 0
SelectNoTool [] = Unit {0}
SelectNoTool (Tool name ∷ steps) = ⊥
SelectNoTool (step ∷ steps) = SelectNoTool steps

abbrev pub SelectNoFrame : List Step → Type 0
SelectNoFrame [] = Unit {0}
SelectNoFrame (Recall offset ∷ steps) = ⊥
SelectNoFrame (step ∷ steps) = SelectNoFrame steps

-- steps without the bounds of a block
abbrev pub StayInside : List Step → Type 0
StayInside [] = Unit {0}
StayInside (Begin label ∷ steps) = ⊥
StayInside (End ∷ steps) = ⊥
StayInside (step ∷ steps) = StayInside steps
