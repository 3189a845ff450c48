-- `take` of any handle (`Boxed.antt`), of this one.
use Rattle.dme_c.proofs.Boxed.{taken}
use Rattle.dme_c.proofs.Cores.{errors}
use Rattle.dme_c.specs.contracts.handles.ErrorsHandle.take.Key.{symbol}
use Rattle.dme_c.proofs.handles.ErrorsHandle.take.Statement.{statement}

pub take_spec : {M : Type 1} → statement M
unfolding Rattle.dme_c.proofs.handles.ErrorsHandle.take.Code.code
take_spec 𝓤 𝓛 𝓜 𝓡 = taken errors 𝓤 𝓛 𝓜 𝓡 symbol
