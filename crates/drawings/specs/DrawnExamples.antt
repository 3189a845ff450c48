-- Values of the examples of drawings. No theorem cites these definitions.
use Rattle.std.specs.Prelude.{ℕ, ℤ, pos, Option, None, true}
use Rattle.deviations.specs.declared.along.Deviation.{Deviation}
use Rattle.drawings.specs.declared.marks.Mark.{Mark}
use Rattle.drawings.specs.declared.places.Place.{Place}
use Rattle.drawings.specs.declared.walk.Act.TheVariants as act
use Rattle.drawings.specs.declared.walk.Stop.{Stop}

-- a place on the x axis
abbrev pub place_at : ℕ → Place
place_at x = record { x = pos x; y = pos 0; z = pos 0 }

-- a deviation
abbrev pub lean : ℕ → ℕ → ℕ → Deviation
lean x y z = record { x = pos x; y = pos y; z = pos z }

-- stops there
abbrev pub move_at : ℕ → Stop
move_at x = record { place = place_at x; act = act.Move }

abbrev pub to_touch : ℕ → Stop
to_touch x = record { place = place_at x; act = act.Touch }

abbrev pub measured_at : ℕ → Stop
measured_at x = record { place = place_at x; act = act.Measured (record { deviation = lean 0 0 0; normal = None }) }

-- the mark of a feature with a peak
abbrev pub mark : Option ℤ → Mark
mark peak = record { place = place_at 0; is_measured = true; peak = peak }
