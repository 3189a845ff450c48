-- Points as they are written in commands and data lines (I++ DME Interface version 1).
use Rattle.std.specs.Prelude.{◌≡◌, ℕ, ◌≤◌, List, [], ◌∷◌, ◌++◌, unsigned_abs, codes, ℤ, Result, Ok, Err}
use Rattle.fixed_um.specs.Limits.{wire_limit}
use Rattle.fixed_um.specs.Numerals.{Reads}
use Rattle.fixed_um.specs.Written.{written}
use Rattle.fixed_um.specs.declared.lengths.Point.{Point}
use Rattle.dme_line.specs.Tokens.{Token, tokens}
use Rattle.dme_line.specs.Arguments.{Single, argument_tokens, list_tokens}
use Rattle.dme_line.specs.declared.points.NotPoint.{NotPoint}

-- a point in millimetres: X(a), Y(b), Z(c)
abbrev pub written_point : Point → List ℕ
written_point p = codes "X(" ++ (written p.x ++ (codes "), Y(" ++ (written p.y ++ (codes "), Z(" ++ (written p.z ++ codes ")")))))

-- each coordinate is within the wire limit, as every length is
pub record IsOnWire (p : Point) : Type 0 where
  pub x : unsigned_abs p.x ≤ wire_limit
  pub y : unsigned_abs p.y ≤ wire_limit
  pub z : unsigned_abs p.z ≤ wire_limit

-- the three axes in this order, named in capitals
abbrev pub point_tokens : List ℕ → List ℕ → List ℕ → List Token
point_tokens x y z = list_tokens (Single (codes "X") x ∷ Single (codes "Y") y ∷ Single (codes "Z") z ∷ [])

-- numerals in millimetres within the wire limit
pub record HasCoordinates (x y z : List ℕ) (p : Point) : Type 0 where
  pub x_reads : Reads 3 wire_limit x (Ok p.x)
  pub y_reads : Reads 3 wire_limit y (Ok p.y)
  pub z_reads : Reads 3 wire_limit z (Ok p.z)

-- the three axes are at the start of the rest of a text
pub record BeginsWithPoint (text rest : List ℕ) (p : Point) : Type 0 where
  pub x : List ℕ
  pub y : List ℕ
  pub z : List ℕ
  pub spelled : tokens text ≡ point_tokens x y z ++ tokens rest
  pub reads : HasCoordinates x y z p

-- a point text: the three axes, with spaces as in commands but none in front (this profile)
pub record IsPointText (text : List ℕ) (p : Point) : Type 0 where
  pub x : List ℕ
  pub y : List ℕ
  pub z : List ℕ
  pub flush : (more : List ℕ) → text ≡ 32 ∷ more → ⊥
  pub spelled : tokens text ≡ point_tokens x y z
  pub reads : HasCoordinates x y z p

-- reading a point text gives its point, or reports that it is not one
abbrev pub ReadsPoint : List ℕ → Result Point NotPoint → Type 0
ReadsPoint text (Ok p) = IsPointText text p
ReadsPoint text (Err fault) = (p : Point) → IsPointText text p → ⊥
