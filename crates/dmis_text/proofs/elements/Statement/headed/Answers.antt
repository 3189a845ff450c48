use Rattle.std.proofs.Common.{refl}
use Rattle.dmis_text.proofs.Capitals.{front_of_cut, behind_cut}
use Rattle.dmis_text.proofs.elements.Statement.headed.Goals as goal

pub element-requires-2 : goal.element-requires-2
element-requires-2 c = λ capitals. front_of_cut 61 _ _ _ c.in-Some.ensures.cut (c.requires capitals)

pub element-requires-3 : goal.element-requires-3
element-requires-3 c = λ capitals. behind_cut 61 _ _ _ c.in-Some.ensures.cut (c.requires capitals) refl
