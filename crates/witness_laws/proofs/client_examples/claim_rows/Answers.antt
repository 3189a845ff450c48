use Rattle.witness_laws.proofs.Names.{◌∷◌, [], FramedSomehow, Left, refl}
use Rattle.witness_laws.proofs.client_examples.claim_rows.Goals as goal

pub returns-clause-no_tool : goal.returns-clause-no_tool
returns-clause-no_tool c = ((refl, refl, tt, refl, refl), tt)

pub returns-clause-missing : goal.returns-clause-missing
returns-clause-missing c = λ h. h

pub returns-clause-more : goal.returns-clause-more
returns-clause-more c = λ h. h

pub returns-clause-begins : goal.returns-clause-begins
returns-clause-begins c = record { first = FramedSomehow ∷ []; more = Left ∷ []; parts = refl; claims = (tt, tt) }
