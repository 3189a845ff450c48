-- The coordinates between which stops lie, found stop by stop.
use Rattle.drawings.proofs.Names.{[], ◌∷◌, ◌≡◌, ◌≤ℤ◌, AreNearest, AreWithin, arith, ints, List, Place, Stop, ℤ}
use Rattle.drawings.specs.Places.{IsWider}

-- two coordinates are the bounds of the stops examined so far
pub record IsReached (axis : Place → ℤ) (stops left : List Stop) (low high : ℤ) : Type 0 where
  pub keeps : (lower higher : ℤ) → lower ≤ℤ low → high ≤ℤ higher → AreWithin axis left lower higher → AreWithin axis stops lower higher
  pub nearest : (lower higher : ℤ) → AreWithin axis stops lower higher
      → (lower ≤ℤ low) × (high ≤ℤ higher) × AreWithin axis left lower higher

pub reached_first : (axis : Place → ℤ) (first : Stop) (others : List Stop) (low high : ℤ) → low ≡ axis first.place → high ≡ axis first.place
    → IsReached axis (first ∷ others) others low high
reached_first axis first others low high l h = record {
  keeps = λ lower higher below above within. ((rw (← l) below, rw (← h) above), within);
  nearest = λ lower higher within. (rw l within.0.0, rw h within.0.1, within.1);
}

at_most : (a b c : ℤ) → a ≤ℤ b → b ≤ℤ c → a ≤ℤ c
at_most a b c p q = omega (arith, ints, p, q)

pub reached_more : (axis : Place → ℤ) (stops : List Stop) (stop : Stop) (left : List Stop) (low high low' high' : ℤ)
    → IsReached axis stops (stop ∷ left) low high → IsWider low high (axis stop.place) low' high' → IsReached axis stops left low' high'
reached_more axis stops stop left low high low' high' r w = record {
  keeps = λ lower higher below above within. r.keeps lower higher (at_most lower low' low below w.low_is)
      (at_most high high' higher w.high_is above) (
        (
          at_most lower low' (axis stop.place) below w.holds.0,
          at_most (axis stop.place) high' higher w.holds.1 above,
        ),
        within,
      );
  nearest = λ lower higher within. let n = r.nearest lower higher within in let m = w.nearest lower higher n.2.0 n.0 n.1 in (m.0, m.1, n.2.1);
}

itself : (a : ℤ) → a ≤ℤ a
itself a = omega (arith, ints)

pub reached_all : (axis : Place → ℤ) (stops : List Stop) (low high : ℤ) → IsReached axis stops [] low high → AreNearest axis stops low high
reached_all axis stops low high r = record {
  within = r.keeps low high (itself low) (itself high) tt;
  nearest = λ lower higher within. let n = r.nearest lower higher within in (n.0, n.1);
}
