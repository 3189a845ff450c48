-- The longest deviation, found stop by stop.
use Rattle.drawings.proofs.Names.{[], ◌∷◌, ◌≤◌, arith, IsLongestAway, le-max_left, le-max_right, List, max, max-le}
use Rattle.drawings.proofs.Names.{mul-le-mul, NoneLonger, NotLonger, Stop, ℕ}
use Rattle.drawings.specs.declared.walk.Act.{Act}

-- a length is the longest of the stops examined so far
pub record IsFound (stops left : List Stop) (longest : ℕ) : Type 0 where
  pub keeps : (most : ℕ) → longest ≤ most → NoneLonger most left → NoneLonger most stops
  pub least : (most : ℕ) → NoneLonger most stops → (longest ≤ most) × NoneLonger most left

pub found_none : (stops : List Stop) → IsFound stops stops 0
found_none stops = record {
  keeps = λ most le none. none;
  least = λ most none. (omega arith, none);
}

-- what is not longer than a length is not longer than a larger one
pub not_longer : (length most : ℕ) (a : Act) → length ≤ most → NotLonger length a → NotLonger most a
not_longer length most (Act.Measured away) le n = let m = mul-le-mul le le in let x = n.0 in let y = n.1 in
    (omega (arith, m, x), omega (arith, m, y))
not_longer length most Act.Move le n = tt
not_longer length most Act.Touch le n = tt

pub found_more : (stops : List Stop) (stop : Stop) (left : List Stop) (longest length : ℕ) → IsFound stops (stop ∷ left) longest
    → NotLonger length stop.act → ((most : ℕ) → NotLonger most stop.act → length ≤ most) → IsFound stops left (max length longest)
found_more stops stop left longest length f reaches least = record {
  keeps = λ most le none. let a = le-max_left length longest in let b = le-max_right length longest in
      f.keeps most (omega (arith, b, le)) (not_longer length most stop.act (omega (arith, a, le)) reaches, none);
  least = λ most none. let n = f.least most none in (max-le (least most n.1.0) n.0, n.1.1);
}

pub found_all : (stops : List Stop) (longest : ℕ) → IsFound stops [] longest → IsLongestAway stops longest
found_all stops longest f = record {
  within = f.keeps longest (omega arith) tt;
  least = λ most none. let n = f.least most none in n.0;
}
