-- The place farthest to the right, the first if there are several, as a walk over places finds it.
use Rattle.drawings.proofs.Names.{[], ◌∷◌, ◌≡◌, arith, farther, farthest, ints, List, Place, refl, touch_place}
use Rattle.dmis_program.specs.declared.features.Touch.{Touch}

-- the farthest of three, whichever two are taken first
farther_twice : (a b c : Place) → farther (farther a b) c ≡ farther a (farther b c)
farther_twice a b c = grind (arith, ints)

-- the farther of two, and the places that follow
pub farthest_more : (p : Place) (t : Touch) (touches : List Touch) → farthest (farther p (touch_place t)) touches
    ≡ farthest p (t ∷ touches)
farthest_more p t [] = refl
farthest_more p t (u ∷ touches) = farther_twice p (touch_place t) (farthest (touch_place u) touches)
