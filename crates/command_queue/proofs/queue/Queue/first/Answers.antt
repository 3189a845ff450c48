use Rattle.std.proofs.Common.{List, slice_get, ◌∙◌, ap}
use Rattle.protocol_model.specs.declared.lines.Waiting.{Waiting}
use Rattle.command_queue.proofs.Queues.{front_of}
use Rattle.command_queue.proofs.queue.Queue.first.Goals as goal

pub returns : goal.returns
returns c = front_of c.front.result c.args.self.now (c.front.ensures ∙ ap (λ (ws : List Waiting). slice_get ws 0) c.self.view_is)
