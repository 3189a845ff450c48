-- `take` of any handle (`Boxed.antt`), of this one.
use Rattle.dme_c.proofs.Boxed.{taken}
use Rattle.dme_c.proofs.Cores.{server}
use Rattle.dme_c.specs.contracts.handles.ServerHandle.take.Key.{symbol}
use Rattle.dme_c.proofs.handles.ServerHandle.take.Statement.{statement}

pub take_spec : {M : Type 1} → statement M
unfolding Rattle.dme_c.proofs.handles.ServerHandle.take.Code.code
take_spec 𝓤 𝓛 𝓜 𝓡 = taken server 𝓤 𝓛 𝓜 𝓡 symbol
