use Rattle.witness_laws.proofs.machines.Later.{read_later}
use Rattle.witness_laws.proofs.machines.Relayed.{relayed_tool, relayed_frame}
use Rattle.witness_laws.proofs.machine_laws.relays_know_no_more.Goals as goal

pub returns : goal.returns
returns c = record {
  less = λ sent read s. read_later sent read s.order s.causal s.sent_once s.read_once;
  known = λ sent read h same s k i r e. record {
    tool = λ tool named. relayed_tool sent read h same s.order s.causal s.sent_once s.read_once k i r tool e named;
    frame = λ frame named. relayed_frame sent read h same s.order s.causal s.sent_once s.read_once k i r frame e named;
  };
}
