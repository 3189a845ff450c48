-- Stops with their deviations along the normal, found stop by stop.
use Rattle.std.proofs.Common.{[], ◌++◌, ◌∷◌, ◌≡◌, append-nil, append_assoc, List, Option, refl, subst, ℤ}
use Rattle.drawings.specs.Seen.{AreSeen, IsAlongOf, IsSeen}
use Rattle.drawings.specs.declared.seen.Seen.{Seen}
use Rattle.drawings.specs.declared.walk.Stop.{Stop}

-- stops so far, before those that are left, and they as they are seen
pub record SeenSoFar (stops left : List Stop) (seen : List Seen) : Type 0 where
  pub before : List Stop
  pub all : before ++ left ≡ stops
  pub are : AreSeen before seen

pub seen_none : (stops : List Stop) → SeenSoFar stops stops []
seen_none stops = record { before = []; all = refl; are = tt }

push : (stops : List Stop) (seen : List Seen) (s : Stop) (one : Seen) → AreSeen stops seen → IsSeen s one → AreSeen (stops ++ s ∷ []) (seen ++ one ∷ [])
push [] [] s one all is = (is, tt)
push [] (b ∷ seen) s one all is = absurd all
push (a ∷ stops) [] s one all is = absurd all
push (a ∷ stops) (b ∷ seen) s one all is = (all.0, push stops seen s one all.1 is)

pub seen_more : (stops : List Stop) (stop : Stop) (left : List Stop) (seen : List Seen) (along : Option ℤ) → SeenSoFar stops (stop ∷ left) seen
    → IsAlongOf stop.act along → SeenSoFar stops left (seen ++ record { stop = stop; along = along } ∷ [])
seen_more stops stop left seen along s is = record {
  before = s.before ++ stop ∷ [];
  all = rw (append_assoc s.before (stop ∷ []) left) s.all;
  are = push s.before seen stop (record { stop = stop; along = along }) s.are (record { stop = refl; along = is });
}

pub seen_all : (stops : List Stop) (seen : List Seen) → SeenSoFar stops [] seen → AreSeen stops seen
seen_all stops seen s = subst (λ (all : List Stop). AreSeen all seen) (rw (append-nil s.before) at s.all) s.are
