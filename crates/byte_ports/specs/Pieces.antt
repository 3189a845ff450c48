-- What a source of stored pieces has and gives.
use Rattle.std.specs.Prelude.{◌≡◌, ℕ, ◌<◌, List, [], ◌∷◌, length, drop, Option, Bool, if◌then◌else◌, nat_lt}

-- the pieces that are still to come; how many pulls work from now on, or all; whether a pull has failed; how many pulls there were
pub record PiecesValue : Type 0 where
  pub pieces : List (List ℕ)
  pub calls_left : Option ℕ
  pub has_failed : Bool
  pub calls : ℕ

-- what storing a piece adds: nothing if it is empty
abbrev pub stored_piece : List ℕ → List (List ℕ)
stored_piece [] = []
stored_piece (b ∷ bs) = (b ∷ bs) ∷ []

-- the piece that is next, or nothing at the end
abbrev pub next_piece : List (List ℕ) → List ℕ
next_piece [] = []
next_piece (p ∷ ps) = p

-- the pieces after n bytes of the next one were given: it goes with its last byte
abbrev pub pieces_after : ℕ → List (List ℕ) → List (List ℕ)
pieces_after n [] = []
pieces_after n (p ∷ ps) = if nat_lt n (length p) then drop n p ∷ ps else ps

-- the pieces without the first n bytes of the next one
abbrev pub without_front : ℕ → List (List ℕ) → List (List ℕ)
without_front n [] = []
without_front n (p ∷ ps) = drop n p ∷ ps

-- no piece is empty
abbrev pub HoldBytes : List (List ℕ) → Type 0
HoldBytes [] = Unit {0}
HoldBytes (p ∷ ps) = (0 < length p) × HoldBytes ps

-- the next piece has more than n bytes, and no piece after it is empty
abbrev pub HoldMore : ℕ → List (List ℕ) → Type 0
HoldMore n [] = n ≡ 0
HoldMore n (p ∷ ps) = (n < length p) × HoldBytes ps
