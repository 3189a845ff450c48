-- What is printed of a judgement is never empty.
use Rattle.witness.proofs.JudgementNames.{◌<◌, arith, ends_text, judgement_text, length, None, Option, Some}
use Rattle.witness.specs.declared.judgement.Judgement.{Judgement}
use Rattle.witness.specs.declared.judgement.Break.{Break}

some_ends : (client server : Option Break) (j : Judgement) → 0 < length (ends_text client server j)
some_ends None None j = omega arith
some_ends None (Some s) j = omega arith
some_ends (Some c) None j = omega arith
some_ends (Some c) (Some s) j = omega arith

pub some_text : (j : Judgement) → 0 < length (judgement_text j)
some_text j = some_ends j.client j.server j
