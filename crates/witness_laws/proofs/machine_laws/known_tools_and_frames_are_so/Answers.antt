use Rattle.witness_laws.proofs.machines.Frames.{known_frame}
use Rattle.witness_laws.proofs.machines.Tools.{known_tool}
use Rattle.witness_laws.proofs.machine_laws.known_tools_and_frames_are_so.Goals as goal

pub returns : goal.returns
returns c = λ line what h k i r e. record {
  tool = λ tool named. known_tool line what h k i r tool e named;
  frame = λ frame named. known_frame line what h k i r frame e named;
}
