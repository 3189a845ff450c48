-- In which order the lines of both ends came, by the order of their bytes (this profile).
use Rattle.std.specs.Prelude.{◌≡◌, ◌⊎◌, ◌<◌, ◌≤◌, ℕ, suc, ◌+◌, ◌-◌, ◌==◌, Bool, ◌&&◌, nat_le, if◌then◌else◌, List, [], ◌∷◌, ◌++◌, length, drop, replicate}
use Rattle.witness.specs.declared.lines.Side.{Side}
use Rattle.witness.specs.declared.lines.Side.TheVariants.{Client, Server}
use Rattle.witness.specs.declared.orders.Place.{Place}

-- pieces of bytes, each of one end, in the order in which they came
abbrev pub Pieces : Type 0
Pieces = List (Side × ℕ)

-- how many bytes of an end a piece has, and all of them
abbrev pub count_of : Side → Side × ℕ → ℕ
count_of Client (Client, n) = n
count_of Client (Server, n) = 0
count_of Server (Client, n) = 0
count_of Server (Server, n) = n

abbrev pub bytes_of : Side → Pieces → ℕ
bytes_of side [] = 0
bytes_of side (p ∷ pieces) = count_of side p + bytes_of side pieces

-- recordings begin with the bytes that pieces have; and whether these are all
pub record HasFirst (up down : List ℕ) (pieces : Pieces) (is_whole : Bool) : Type 0 where
  pub up_within : bytes_of Client pieces ≤ length up
  pub down_within : bytes_of Server pieces ≤ length down
  pub whole : is_whole ≡ ((bytes_of Client pieces == length up) && (bytes_of Server pieces == length down))

-- the pieces are not those of these recordings: an end has more bytes in them
abbrev pub AreOthers : List ℕ → List ℕ → Pieces → Type 0
AreOthers up down pieces = (length up < bytes_of Client pieces) ⊎ (length down < bytes_of Server pieces)

-- how many of these lines, each with CR LF, are whole in their first bytes
abbrev pub whole_in : ℕ → List (List ℕ) → ℕ
whole_in n [] = 0
whole_in n (line ∷ lines) = if nat_le (length line + 2) n then suc (whole_in (n - (length line + 2)) lines) else 0

-- for each line of the server that becomes whole with a piece: how many lines of the client are. The numbers: how many bytes of either end came before
abbrev pub seen_with : ℕ → ℕ → Side × ℕ → List (List ℕ) → List (List ℕ) → List ℕ
seen_with u d p up down =
    replicate (whole_in (d + count_of Server p) down - whole_in d down) (whole_in (u + count_of Client p) up)

abbrev pub seen_from : ℕ → ℕ → Pieces → List (List ℕ) → List (List ℕ) → List ℕ
seen_from u d [] up down = []
seen_from u d (p ∷ pieces) up down =
    seen_with u d p up down ++ seen_from (u + count_of Client p) (d + count_of Server p) pieces up down

-- for each line of the server: how many lines of the client were whole when it was; for none, if nothing is known of the order
abbrev pub seen_lines : Pieces → List (List ℕ) → List (List ℕ) → List ℕ
seen_lines pieces up down = seen_from 0 0 pieces up down

-- ---- what is kept of the bytes of an end

-- that many of its lines are whole, and bytes follow them, in which there may be more
pub record IsOn (lines : List (List ℕ)) (bytes at left : ℕ) : Type 0 where
  pub within : at ≤ length lines
  pub few : left ≤ bytes
  pub rest : (n : ℕ) → whole_in (bytes + n) lines ≡ at + whole_in (left + n) (drop at lines)

pub record IsAt (lines : List (List ℕ)) (p : Place) : Type 0 where
  pub on : IsOn lines p.bytes p.at p.left
  pub whole : whole_in p.bytes lines ≡ p.at
