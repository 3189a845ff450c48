-- What the core's contract says about its call holds for the core in the handle.
use Rattle.dme_c.specs.ClientCalls.{Sends}
use Rattle.dme_c.proofs.Calls.{called_lent}
use Rattle.dme_c.proofs.client_calls.dme_client_send.Goals as goal

pub returns : goal.returns
returns c = let it = c.send-answer.ensures in
    called_lent Sends c.take-core.ensures.client c.deref_mut.ensures.value c.put.ensures c.call_number.ensures (record {
      ok = it.ok;
      sent = it.sent;
      can = it.can;
      refused = it.refused;
      memory = it.memory;
    })
