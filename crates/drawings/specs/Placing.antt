-- The places of the two views on the sheet, and their scale.
use Rattle.std.specs.Prelude.{◌≡◌, ℕ, ◌+◌, ◌-◌, ◌/◌, ◌-ℤ◌, unsigned_abs}
use Rattle.drawings.specs.Scales.{on_paper, IsScaleFor}
use Rattle.drawings.specs.declared.extents.Extents.{Extents}
use Rattle.drawings.specs.declared.placing.Views.{Views}
use Rattle.drawings.specs.declared.scales.Lengths.{Lengths}
use Rattle.drawings.specs.declared.scales.Room.{Room}
use Rattle.drawings.specs.declared.sides.Side.TheVariants.{Plan, Front}
use Rattle.drawings.specs.declared.spans.Span.{Span}
use Rattle.drawings.specs.declared.views.View.{View}

-- the length of a span
abbrev pub span_length : Span → ℕ
span_length s = unsigned_abs (s.high -ℤ s.low)

-- the lengths that both views draw, and the paper within the margins of their frames
abbrev pub lengths_of : Extents → Lengths
lengths_of e = record { across = span_length e.x; first = span_length e.y; second = span_length e.z }

abbrev pub views_room : Room
views_room = record { across = 187000; upright = 118000 }

-- the space left above and below each view if both are drawn at a scale: a quarter of what they do not fill
abbrev pub free_at : ℕ → Lengths → ℕ
free_at scale lengths = (118000 - on_paper scale lengths.first - on_paper scale lengths.second) / 4

-- a view is placed in a frame from its top down: its content centred across, with margins on all sides and the space left above and below
pub record IsPlaced (scale free top : ℕ) (across upright : Span) (v : View) : Type 0 where
  pub scale_is : v.scale ≡ scale
  pub across_is : v.across ≡ across
  pub upright_is : v.upright ≡ upright
  pub left : v.left ≡ 20000 + (187000 - on_paper scale (span_length across)) / 2
  pub top_is : v.top ≡ top
  pub base : v.base ≡ top + 10000 + free + on_paper scale (span_length upright)
  pub bottom : v.bottom ≡ v.base + free + 10000

-- the plan, which is above, and the front view, at the largest scale at which both fit
pub record AreViews (e : Extents) (v : Views) : Type 0 where
  pub scale : IsScaleFor (lengths_of e) views_room v.plan.scale
  pub plan_side : v.plan.side ≡ Plan
  pub front_side : v.front.side ≡ Front
  pub plan : IsPlaced v.plan.scale (free_at v.plan.scale (lengths_of e)) 22000 e.x e.y v.plan
  pub front : IsPlaced v.plan.scale (free_at v.plan.scale (lengths_of e)) (v.plan.bottom + 7000) e.x e.z v.front
