-- The sheet of paper: A4 (ISO 216), landscape. Positions are whole micrometres from its left upper corner, across and down.
use Rattle.std.specs.Prelude.{ℕ, ◌≤◌}

abbrev pub sheet_width : ℕ
sheet_width = 297000

abbrev pub sheet_height : ℕ
sheet_height = 210000

-- a position
pub record Spot : Type 0 where
  pub across : ℕ
  pub down : ℕ

-- a position lies on the sheet
pub record IsOnSheet (p : Spot) : Type 0 where
  pub across : p.across ≤ sheet_width
  pub down : p.down ≤ sheet_height

-- the margin around a view's content: the longest line of a deviation
abbrev pub margin : ℕ
margin = 10000
