-- What is claimed of a client's features and of a server's acts (this profile).
use Rattle.std.specs.Prelude.{◌≡◌, ℕ, ◌+◌, ◌≤◌, ◌==◌, if◌then◌else◌, Option, List, [], ◌∷◌, ◌++◌, length, take, drop}
use Rattle.fixed_um.specs.Shapes.{Direction}
use Rattle.fixed_um.specs.declared.lengths.Point.{Point}
use Rattle.fixed_um.specs.declared.frames.Frame.{Frame}
use Rattle.contact_ledger.specs.declared.acts.Act.{Act}
use Rattle.contact_ledger.specs.declared.acts.Act.TheVariants as act
use Rattle.contact_ledger.specs.declared.features.Feature.{Feature}
use Rattle.dmis_program.specs.declared.features.Touch.{Touch}
use Rattle.dmis_program.specs.declared.features.Wanted.{Wanted}

-- a contact that a server has made: on which connection, and what was asked for and reported
pub record MadeContact : Type 0 where
  pub connection : ℕ
  pub target : Point
  pub dir : Option Direction
  pub tool : List ℕ
  pub frame : Frame
  pub point : Point

-- the contacts of a ledger, in order; their numbers are their places in this list, from 0 on
abbrev pub contacts : List (ℕ × Act) → List MadeContact
contacts [] = []
contacts ((n, act.Contact target dir tool frame point) ∷ acts) =
    record { connection = n; target = target; dir = dir; tool = tool; frame = frame; point = point } ∷ contacts acts
contacts ((n, act.HomedIs homed) ∷ acts) = contacts acts
contacts ((n, act.Homed) ∷ acts) = contacts acts
contacts ((n, act.Moved p f) ∷ acts) = contacts acts
contacts ((n, act.Changed m) ∷ acts) = contacts acts
contacts ((n, act.Framed f) ∷ acts) = contacts acts

-- the acts of a ledger on one connection, in order
abbrev pub acts_on : ℕ → List (ℕ × Act) → List Act
acts_on n [] = []
acts_on n ((m, a) ∷ acts) = if m == n then a ∷ acts_on n acts else acts_on n acts

-- a contact was made on this connection, with the target, direction, tool and frame of a touch, and this point was reported
pub record IsServed (connection : ℕ) (touch : Touch) (point : Point) (made : MadeContact) : Type 0 where
  pub on : made.connection ≡ connection
  pub target : made.target ≡ touch.target
  pub dir : made.dir ≡ touch.dir
  pub tool : made.tool ≡ touch.tool
  pub frame : made.frame ≡ touch.frame
  pub point_is : made.point ≡ point

-- contacts serve touches, each its own, all on one connection, and reported these points
abbrev pub Serves : ℕ → List Touch → List Point → List MadeContact → Type 0
Serves n [] [] [] = Unit {0}
Serves n (t ∷ ts) (p ∷ ps) (m ∷ ms) = IsServed n t p m × Serves n ts ps ms
Serves n _ _ _ = ⊥

-- a feature has the label of a wanted one, and its points are those of the contacts numbered from start on, one unbroken run on one
-- connection, which serve the wanted touches
pub record IsRun (wanted : Wanted) (feature : Feature) (start : ℕ) (made : List MadeContact) : Type 0 where
  pub label : feature.label ≡ wanted.label
  pub connection : ℕ
  pub serves : Serves connection wanted.touches feature.points (take (length feature.points) (drop start made))

-- features are the first of the wanted ones, and theirs are runs with these starts, none of which begins before the one before it has ended
abbrev pub AreRuns : List Wanted → List Feature → List ℕ → ℕ → List MadeContact → Type 0
AreRuns ws [] [] least made = Unit {0}
AreRuns (w ∷ ws) (f ∷ fs) (start ∷ starts) least made =
    (least ≤ start) × IsRun w f start made × AreRuns ws fs starts (start + length f.points) made
AreRuns _ _ _ _ _ = ⊥

-- the features that a client holds are true of a server's acts
pub record Sound (wanted : List Wanted) (features : List Feature) (ledger : List (ℕ × Act)) : Type 0 where
  pub starts : List ℕ
  pub runs : AreRuns wanted features starts 0 (contacts ledger)

-- what a client has counted on a connection is the prefix of what the server did there
pub record Told (counted : List Act) (ledger : List (ℕ × Act)) (connection : ℕ) : Type 0 where
  pub more : List Act
  pub whole : counted ++ more ≡ acts_on connection ledger
