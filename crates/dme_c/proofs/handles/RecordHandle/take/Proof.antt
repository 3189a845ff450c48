-- `take` of any handle (`Boxed.antt`), of this one.
use Rattle.dme_c.proofs.Boxed.{taken}
use Rattle.dme_c.proofs.Cores.{recording}
use Rattle.dme_c.specs.contracts.handles.RecordHandle.take.Key.{symbol}
use Rattle.dme_c.proofs.handles.RecordHandle.take.Statement.{statement}

pub take_spec : {M : Type 1} → statement M
unfolding Rattle.dme_c.proofs.handles.RecordHandle.take.Code.code
take_spec 𝓤 𝓛 𝓜 𝓡 = taken recording 𝓤 𝓛 𝓜 𝓡 symbol
