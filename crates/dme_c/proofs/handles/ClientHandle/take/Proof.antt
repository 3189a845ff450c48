-- `take` of any handle (`Boxed.antt`), of this one.
use Rattle.dme_c.proofs.Boxed.{taken}
use Rattle.dme_c.proofs.Cores.{client}
use Rattle.dme_c.specs.contracts.handles.ClientHandle.take.Key.{symbol}
use Rattle.dme_c.proofs.handles.ClientHandle.take.Statement.{statement}

pub take_spec : {M : Type 1} → statement M
unfolding Rattle.dme_c.proofs.handles.ClientHandle.take.Code.code
take_spec 𝓤 𝓛 𝓜 𝓡 = taken client 𝓤 𝓛 𝓜 𝓡 symbol
