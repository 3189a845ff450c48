-- How the search for the run of a feature moves on (this profile). No public contract cites these definitions.
use Rattle.std.specs.Prelude.{◌≡◌, ℕ, zero, suc, ◌+◌, ◌<◌, ◌≤◌, Option, Some, None, List, [], ◌∷◌, length, get_or}
use Rattle.fixed_um.specs.Shapes.{Direction}
use Rattle.fixed_um.specs.declared.lengths.Point.{Point}
use Rattle.fixed_um.specs.declared.frames.Frame.{Frame}
use Rattle.dmis_program.specs.declared.features.Touch.{Touch}
use Rattle.protocol_model.specs.Claims.{MadeContact}

-- what a contact that serves a touch has in common with it: all but the connection
pub record Probed : Type 0 where
  pub target : Point
  pub dir : Option Direction
  pub tool : List ℕ
  pub frame : Frame
  pub point : Point

-- what a touch asks for, with the point that its feature has for it
abbrev pub asked : Touch → Point → Probed
asked touch point =
    record { target = touch.target; dir = touch.dir; tool = touch.tool; frame = touch.frame; point = point }

-- what a contact shows
abbrev pub shown : MadeContact → Probed
shown made = record { target = made.target; dir = made.dir; tool = made.tool; frame = made.frame; point = made.point }

-- what the touch with a number asks for
abbrev pub asked_at : List Touch → List Point → ℕ → Option Probed
asked_at [] points number = None
asked_at (touch ∷ touches) [] number = None
asked_at (touch ∷ touches) (point ∷ points) zero = Some (asked touch point)
asked_at (touch ∷ touches) (point ∷ points) (suc number) = asked_at touches points number

-- the contact with a number
abbrev pub contact_at : List MadeContact → ℕ → Option MadeContact
contact_at [] number = None
contact_at (made ∷ others) zero = Some made
contact_at (made ∷ others) (suc number) = contact_at others number

-- what it shows, if there is one
abbrev pub shown_by : Option MadeContact → Option Probed
shown_by None = None
shown_by (Some made) = Some (shown made)

-- its connection, if there is one
abbrev pub connection_by : Option MadeContact → Option ℕ
connection_by None = None
connection_by (Some made) = Some made.connection

-- the first count touches of a feature, moved by a shift, ask for what those ask for that they then lie on
pub record Meets (asks : ℕ → Option Probed) (count shift : ℕ) : Type 0 where
  pub each : (k : ℕ) → shift + k < count → asks (shift + k) ≡ asks k

-- the last of them does
pub record LastMeets (asks : ℕ → Option Probed) (count shift : ℕ) : Type 0 where
  pub last : (k : ℕ) → shift + k + 1 ≡ count → asks (shift + k) ≡ asks k

-- the least shift above 0 by which all of them do
pub record IsLeastShift (asks : ℕ → Option Probed) (count shift : ℕ) : Type 0 where
  pub some : 1 ≤ shift
  pub meets : Meets asks count shift
  pub least : (other : ℕ) → 1 ≤ other → other < shift → Meets asks count other → ⊥

-- a shift that may be the least: no lesser one is, and only the last touch is still to be compared
pub record IsCandidate (asks : ℕ → Option Probed) (count shift : ℕ) : Type 0 where
  pub some : 1 ≤ shift
  pub meets : (k : ℕ) → shift + k + 1 < count → asks (shift + k) ≡ asks k
  pub none : (other : ℕ) → 1 ≤ other → other < shift → Meets asks count other → ⊥

-- for each count, from 0 on, the least shift of that many touches
pub record AreShifts (asks : ℕ → Option Probed) (shifts : List ℕ) : Type 0 where
  pub each : (count : ℕ) → count < length shifts → IsLeastShift asks count (get_or shifts count 0)

-- contacts from a start on serve the first count touches of a feature, all on one connection
pub record Begins (touches : List Touch) (points : List Point) (made : List MadeContact) (start count : ℕ) : Type 0 where
  pub within : start + count ≤ length made
  pub alike : (k : ℕ) → k < count → shown_by (contact_at made (start + k)) ≡ asked_at touches points k
  pub on : (k : ℕ) → k < count → connection_by (contact_at made (start + k)) ≡ connection_by (contact_at made start)

-- no contacts that serve all touches start from one number on and before another
pub record HasNoneBetween (touches : List Touch) (points : List Point) (made : List MadeContact) (from to : ℕ) : Type 0 where
  pub none : (start : ℕ) → from ≤ start → start < to → Begins touches points made start (length points) → ⊥

-- the first contacts from a number on that serve all touches start here
pub record IsFirstServed (touches : List Touch) (points : List Point) (made : List MadeContact) (least start : ℕ) : Type 0 where
  pub from : least ≤ start
  pub all : Begins touches points made start (length points)
  pub before : HasNoneBetween touches points made least start
