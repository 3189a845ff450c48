use Rattle.witness_laws.proofs.Names.{◌∷◌, [], FramedSomehow, refl}
use Rattle.witness_laws.proofs.order_examples.prefixes_come_first.Goals as goal

pub returns-clause-first : goal.returns-clause-first
returns-clause-first c = record { rest = FramedSomehow ∷ []; parts = refl }

pub returns-clause-other : goal.returns-clause-other
returns-clause-other c = λ prefix. absurd (cc (prefix.parts))
