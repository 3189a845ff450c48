-- A server that knows its tool, frame and stored offset does what is planned, command by command.
use Rattle.protocol_model.proofs.Names.{[], ◌++◌, ◌∙◌, ◌∷◌, ◌≡◌, ap, Bool, Command, Csy, Direction, Does, false, Frame, is_clearing, List, MachineCsy}
use Rattle.protocol_model.proofs.Names.{None, Option, Part, PartCsy, Planned, Point, point_opposite, refl, Some, sym, Touch, true, ℕ}
use Rattle.fixed_um.specs.declared.frames.Frame.TheVariants.{Machine}

-- what is known of a server: its tool, its frame and its stored offset, each perhaps not
pub record Know : Type 0 where
  pub tool : Option (List ℕ)
  pub frame : Option Frame
  pub stored : Option Point

-- nothing is known of what is selected
abbrev pub unknown : Know
unknown = record { tool = None; frame = None; stored = None }

-- the frame of a system, where its zero point is known
abbrev pub known_frame : Csy → Option Point → Option Frame
known_frame MachineCsy stored = Some Machine
known_frame PartCsy None = None
known_frame PartCsy (Some p) = Some (Part p)

-- what is known after a command; after ClearAllErrors nothing, so that what follows it is independent
abbrev pub known_by : Know → Command → Know
known_by k Command.StartSession = k
known_by k Command.EndSession = k
known_by k Command.ClearAllErrors = unknown
known_by k Command.IsHomed = k
known_by k Command.Home = k
known_by k Command.OnPtMeasReport = k
known_by k (Command.GoTo p) = k
known_by k (Command.PtMeas p d) = k
known_by k (Command.ChangeTool n) = record k { tool = Some n }
known_by k (Command.SetCsyTransformation p) = record k { stored = Some (point_opposite p) }
known_by k (Command.SetCoordSystem system) = record k { frame = known_frame system k.stored }
known_by k Command.AbortE = k

-- a move does what it is planned to do, in the frame that is known
pub record FitsMove (k : Know) (p : Point) (does : Does) : Type 0 where
  pub frame : Frame
  pub known : k.frame ≡ Some frame
  pub is : does ≡ Does.Moves p frame

-- a touch does, with the tool and in the frame that are known
pub record FitsTouch (k : Know) (p : Point) (d : Option Direction) (does : Does) : Type 0 where
  pub touch : Touch
  pub last : Bool
  pub tool : k.tool ≡ Some touch.tool
  pub frame : k.frame ≡ Some touch.frame
  pub target : p ≡ touch.target
  pub dir : d ≡ touch.dir
  pub is : does ≡ Does.Touches touch last

-- the choice of a frame does
pub record FitsFrame (k : Know) (system : Csy) (does : Does) : Type 0 where
  pub frame : Frame
  pub known : known_frame system k.stored ≡ Some frame
  pub is : does ≡ Does.Frames frame

-- a command does what it is planned to do
abbrev pub FitsOne : Know → Command → Does → Type 0
FitsOne k Command.StartSession does = does ≡ Does.Nothing
FitsOne k Command.EndSession does = does ≡ Does.Nothing
FitsOne k Command.ClearAllErrors does = does ≡ Does.Nothing
FitsOne k Command.IsHomed does = does ≡ Does.AsksHomed
FitsOne k Command.Home does = does ≡ Does.Homes
FitsOne k Command.OnPtMeasReport does = does ≡ Does.Nothing
FitsOne k (Command.GoTo p) does = FitsMove k p does
FitsOne k (Command.PtMeas p d) does = FitsTouch k p d does
FitsOne k (Command.ChangeTool n) does = does ≡ Does.Changes n
FitsOne k (Command.SetCsyTransformation p) does = does ≡ Does.Nothing
FitsOne k (Command.SetCoordSystem system) does = FitsFrame k system does
FitsOne k Command.AbortE does = ⊥

-- so do those of a plan, one after another
abbrev pub Fits : Know → List Planned → Type 0
Fits k [] = Unit {0}
Fits k (p ∷ ps) = FitsOne k p.command p.does × Fits (known_by k p.command) ps

-- ---- who knows more

-- what is known here is known there
pub record KnowsMore (k l : Know) : Type 0 where
  pub tool : (n : List ℕ) → k.tool ≡ Some n → l.tool ≡ Some n
  pub frame : (f : Frame) → k.frame ≡ Some f → l.frame ≡ Some f
  pub stored : (p : Point) → k.stored ≡ Some p → l.stored ≡ Some p

-- anything is more than nothing
pub more_than_nothing : (l : Know) → KnowsMore unknown l
more_than_nothing l = record { tool = λ n e. absurd (cc); frame = λ f e. absurd (cc); stored = λ p e. absurd (cc) }

-- what is known is known
pub more_refl : (l : Know) → KnowsMore l l
more_refl l = record { tool = λ n e. e; frame = λ f e. e; stored = λ p e. e }

frame_more : (system : Csy) (s r : Option Point) → ((p : Point) → s ≡ Some p → r ≡ Some p) → (f : Frame) → known_frame system s ≡ Some f
    → known_frame system r ≡ Some f
frame_more MachineCsy s r more f e = e
frame_more PartCsy None r more f e = absurd (cc)
frame_more PartCsy (Some p) r more f e = ap (known_frame PartCsy) (more p refl) ∙ e

pub knows_by : (k l : Know) (c : Command) → KnowsMore k l → KnowsMore (known_by k c) (known_by l c)
knows_by k l Command.StartSession more = more
knows_by k l Command.EndSession more = more
knows_by k l Command.ClearAllErrors more = more_refl unknown
knows_by k l Command.IsHomed more = more
knows_by k l Command.Home more = more
knows_by k l Command.OnPtMeasReport more = more
knows_by k l (Command.GoTo p) more = more
knows_by k l (Command.PtMeas p d) more = more
knows_by k l (Command.ChangeTool n) more = record { tool = λ m e. e; frame = more.frame; stored = more.stored }
knows_by k l (Command.SetCsyTransformation p) more = record { tool = more.tool; frame = more.frame; stored = λ q e. e }
knows_by k l (Command.SetCoordSystem system) more = record {
  tool = more.tool;
  frame = frame_more system k.stored l.stored more.stored;
  stored = more.stored;
}
knows_by k l Command.AbortE more = more

one_more : (k l : Know) (c : Command) (d : Does) → KnowsMore k l → FitsOne k c d → FitsOne l c d
one_more k l Command.StartSession d more h = h
one_more k l Command.EndSession d more h = h
one_more k l Command.ClearAllErrors d more h = h
one_more k l Command.IsHomed d more h = h
one_more k l Command.Home d more h = h
one_more k l Command.OnPtMeasReport d more h = h
one_more k l (Command.GoTo p) d more h = record { frame = h.frame; known = more.frame h.frame h.known; is = h.is }
one_more k l (Command.PtMeas p dir) d more h = record {
  touch = h.touch;
  last = h.last;
  tool = more.tool h.touch.tool h.tool;
  frame = more.frame h.touch.frame h.frame;
  target = h.target;
  dir = h.dir;
  is = h.is;
}
one_more k l (Command.ChangeTool n) d more h = h
one_more k l (Command.SetCsyTransformation p) d more h = h
one_more k l (Command.SetCoordSystem system) d more h = record {
  frame = h.frame;
  known = frame_more system k.stored l.stored more.stored h.frame h.known;
  is = h.is;
}
one_more k l Command.AbortE d more h = h

-- a plan fits where more is known
pub fits_more : (ps : List Planned) (k l : Know) → KnowsMore k l → Fits k ps → Fits l ps
fits_more [] k l more h = tt
fits_more (p ∷ ps) k l more h = (
  one_more k l p.command p.does more h.0,
  fits_more ps (known_by k p.command) (known_by l p.command) (knows_by k l p.command more) h.1,
)

-- ---- from each ClearAllErrors on, the rest fits, whatever is known

-- from each ClearAllErrors on a plan fits, whatever is known before it
abbrev pub IsSane : List Planned → Type 0
IsSane [] = Unit {0}
IsSane (p ∷ ps) = (is_clearing p.command ≡ true → (k : Know) → Fits k (p ∷ ps)) × IsSane ps

-- no command of a plan is ClearAllErrors
abbrev pub HasNoClear : List Planned → Type 0
HasNoClear [] = Unit {0}
HasNoClear (p ∷ ps) = (is_clearing p.command ≡ false) × HasNoClear ps

-- a plan without one is sane
pub sane_without : (ps : List Planned) → HasNoClear ps → IsSane ps
sane_without [] h = tt
sane_without (p ∷ ps) h = ((λ e k. let bad : true ≡ false = sym e ∙ h.0 in absurd (cc)), sane_without ps h.1)

-- two plans without one have none together
pub no_clear_more : (ps qs : List Planned) → HasNoClear ps → HasNoClear qs → HasNoClear (ps ++ qs)
no_clear_more [] qs h g = g
no_clear_more (p ∷ ps) qs h g = (h.0, no_clear_more ps qs h.1 g)
