use Rattle.std.proofs.Common.{refl, rules}
use Rattle.dmis_text.proofs.Capitals.{front_of_cut, behind_cut}
use Rattle.dmis_text.proofs.elements.Statement.split_over.Goals as goal

pub split_over-requires-clause-front : goal.split_over-requires-clause-front
split_over-requires-clause-front c = behind_cut 47 _ _ _ c.in-Some.ensures.cut (c.if-is_folded.ensures (search rules)) refl

pub headed-requires : goal.headed-requires
headed-requires c = λ _. front_of_cut 47 _ _ _ c.in-Some.ensures.cut (c.if-is_folded.ensures (search rules))
