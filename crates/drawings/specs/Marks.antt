-- What a view shows of the stops of the machine: a disc at each point, and a whisker from each one that is measured.
use Rattle.std.specs.Prelude.{ℕ, zero, suc, ℤ, pos, negsuc, Bool, true, false, Option, Some, None, List, [], ◌++◌, ◌+◌, ◌-◌, ◌*◌, ◌/◌, length, codes, unsigned_abs}
use Rattle.std.specs.Prelude.{nat_le, nat_lt, if◌then◌else◌}
use Rattle.std.specs.List.{flat_map}
use Rattle.deviations.specs.Along.{squared}
use Rattle.deviations.specs.declared.along.Deviation.{Deviation}
use Rattle.drawings.specs.Scales.{on_paper}
use Rattle.drawings.specs.Places.{height_in}
use Rattle.drawings.specs.Sheet.{Spot}
use Rattle.drawings.specs.Texts.{markup, attribute, disc_text, line_text, spot_text}
use Rattle.drawings.specs.Views.{upright_of, tip_of}
use Rattle.drawings.specs.declared.places.Place.{Place}
use Rattle.drawings.specs.declared.seen.Seen.{Seen}
use Rattle.drawings.specs.declared.views.View.{View}
use Rattle.drawings.specs.declared.walk.Act.{Act}
use Rattle.drawings.specs.declared.walk.Act.TheVariants as act
use Rattle.drawings.specs.declared.walk.Stop.{Stop}
use Rattle.drawings.specs.declared.whiskers.Whiskers.{Whiskers}

-- where a place in machine axes is drawn in a view, at its scale: x to the right of its left, and what is up above its base
abbrev pub spot_of : View → Place → Spot
spot_of v p = record {
  across = v.left + on_paper v.scale (height_in v.across.low v.across.high p.x);
  down = v.base - on_paper v.scale (height_in v.upright.low v.upright.high (upright_of v.side p));
}

-- the disc of a point that is not measured yet; other stops have no disc in its group
abbrev pub open_disc : Spot → ℕ → Act → List ℕ
open_disc at radius act.Touch = disc_text at radius
open_disc at radius act.Move = []
open_disc at radius (act.Measured gap) = []

-- the disc of a measured point; other stops have no disc in its group
abbrev pub done_disc : Spot → ℕ → Act → List ℕ
done_disc at radius (act.Measured gap) = disc_text at radius
done_disc at radius act.Move = []
done_disc at radius act.Touch = []

-- the colour of a whisker: red if there is too much material along the normal, blue if too little, grey if neither or without a normal
abbrev pub colour_of : Option ℤ → List ℕ
colour_of (Some (pos (suc n))) = codes "#d00000"
colour_of (Some (pos zero)) = codes "#555"
colour_of (Some (negsuc n)) = codes "#0050d0"
colour_of None = codes "#555"

-- the part of a deviation across its normal is longer than that along it (Pythagoras)
abbrev pub is_sideways : Deviation → Option ℤ → Bool
is_sideways v (Some along) = nat_lt (2 * squared (unsigned_abs along))
    (squared (unsigned_abs v.x) + squared (unsigned_abs v.y) + squared (unsigned_abs v.z))
is_sideways v None = false

-- such a whisker is half as thick
abbrev pub thinned : ℕ → Bool → ℕ
thinned thickness true = thickness / 2
thinned thickness false = thickness

unfoldable pub line_start : List ℕ → ℕ → List ℕ
line_start colour thickness = markup (codes "<g stroke=\"") ++ (markup colour
    ++ (attribute (codes "\" stroke-width=\"") thickness ++ markup (codes ">")))

-- a whisker from a position in the view
unfoldable pub gap_text : View → Whiskers → ℕ → Spot → Option ℤ → Deviation → List ℕ
gap_text v w thickness from along d = line_start (colour_of along) (thinned thickness (is_sideways d along))
    ++ (line_text from (tip_of v.side w from d) ++ markup (codes "</g>\n"))

-- the whisker of a measured point; other stops have no whisker
abbrev pub whisker_of : View → Whiskers → ℕ → Spot → Option ℤ → Act → List ℕ
whisker_of v w thickness from along (act.Measured gap) = gap_text v w thickness from along gap.deviation
whisker_of v w thickness from along act.Move = []
whisker_of v w thickness from along act.Touch = []

-- the size of discs, smaller if there are more than 400 stops, and the thickness of whiskers
abbrev pub radius_for : ℕ → ℕ
radius_for count = if nat_le count 400 then 800 else 400

abbrev pub thickness_for : ℕ → ℕ
thickness_for count = if nat_le count 400 then 500 else 250

-- what is drawn of a stop: its disc among the points that are not measured yet, its disc among the measured ones, and its whisker
unfoldable pub open_dot : View → ℕ → Stop → List ℕ
open_dot v radius s = open_disc (spot_of v s.place) radius s.act

unfoldable pub done_dot : View → ℕ → Stop → List ℕ
done_dot v radius s = done_disc (spot_of v s.place) radius s.act

unfoldable pub whisker : View → Whiskers → ℕ → Seen → List ℕ
whisker v w thickness s = whisker_of v w thickness (spot_of v s.stop.place) s.along s.stop.act

-- a stop on the way of the machine
unfoldable pub way_spot : View → Stop → List ℕ
way_spot v s = spot_text (spot_of v s.place) ++ codes "\n"

-- the way of the machine
unfoldable pub way_text : View → List Stop → List ℕ
way_text v stops = markup (codes "<polyline fill=\"none\" stroke=\"#777\" stroke-width=\"0.15\" points=\"")
    ++ (flat_map (way_spot v) stops ++ markup (codes "\"/>\n"))

-- the points that are not measured yet, hollow, and those that are, black
unfoldable pub dots_text : View → List Stop → List ℕ
dots_text v stops = markup (codes "<g fill=\"#fff\" stroke=\"#000\" stroke-width=\"0.25\">\n")
    ++ (flat_map (open_dot v (radius_for (length stops))) stops ++ (markup (codes "</g>\n<g fill=\"#000\">\n")
    ++ (flat_map (done_dot v (radius_for (length stops))) stops ++ markup (codes "</g>\n"))))

-- the whiskers
unfoldable pub whiskers_text : View → Whiskers → List Seen → List ℕ
whiskers_text v w seen = markup (codes "<g stroke-linecap=\"round\">\n")
    ++ (flat_map (whisker v w (thickness_for (length seen))) seen ++ markup (codes "</g>\n"))
