-- `put` of any handle (`Boxed.antt`), of this one.
use Rattle.dme_c.proofs.Boxed.{put}
use Rattle.dme_c.proofs.Cores.{client}
use Rattle.dme_c.proofs.client_core++client++Client+Destruct.drop.Symbol as dropped
use Rattle.dme_c.proofs.client_core++client++Client+Destruct.drop.Met.{met}
use Rattle.dme_c.specs.contracts.handles.ClientHandle.put.Key.{symbol}
use Rattle.dme_c.proofs.handles.ClientHandle.put.Statement.{statement}

pub put_spec : {M : Type 1} → statement M
unfolding Rattle.dme_c.proofs.handles.ClientHandle.put.Code.code
put_spec 𝓤 𝓛 𝓜 𝓡 = put client 𝓤 𝓛 𝓜 𝓡 symbol dropped.symbol dropped.code dropped.as_method (met 𝓤 𝓛 𝓜 𝓡)
