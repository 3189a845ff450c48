use Rattle.std.proofs.Common.{◌≡◌, ap, arith}
use Rattle.std.specs.Prelude.{unsigned_abs}
use Rattle.program_lowering.proofs.PolarLemmas as near
use Rattle.program_lowering.proofs.near_laws.other_places_are_not_near.Goals as goal

pub returns-clause-past : goal.returns-clause-past
returns-clause-past c h = near.no-past _ h.turned _ h.first.above

pub returns-clause-short : goal.returns-clause-short
returns-clause-short c h = near.no-short 9999999 _ (omega arith) h.turned _ h.first.below

pub returns-clause-aside : goal.returns-clause-aside
returns-clause-aside c h = near.no-aside _ h.turned _ h.second.above

pub returns-clause-swapped : goal.returns-clause-swapped
returns-clause-swapped c h = near.no-short 0 _ (omega arith) h.turned _ h.first.below

pub returns-clause-height : goal.returns-clause-height
returns-clause-height c h = let e : 6 ≡ 5 = ap (λ f. unsigned_abs f.over) h.height in omega (arith, e)

pub returns-clause-wrong_sign : goal.returns-clause-wrong_sign
returns-clause-wrong_sign c h = near.no-below _ h.turned _ h.second.below

pub returns-clause-degrees : goal.returns-clause-degrees
returns-clause-degrees c h = near.no-degrees _ _ _ _ h.some h.turned h.second.above

pub returns-clause-no_number : goal.returns-clause-no_number
returns-clause-no_number c y h = let e = h.first.some in omega (arith, e)

pub returns-clause-no_plane : goal.returns-clause-no_plane
returns-clause-no_plane c place h = h

pub returns-clause-sexagesimal : goal.returns-clause-sexagesimal
returns-clause-sexagesimal c h = near.no-degrees _ _ _ _ h.some h.turned h.second.above
