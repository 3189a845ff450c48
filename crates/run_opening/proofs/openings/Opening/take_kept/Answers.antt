use Rattle.run_opening.proofs.Beginnings.{kept_keeps}
use Rattle.std.proofs.lemmas.Result.{on_ok_weaker}
use Rattle.run_opening.proofs.openings.Opening.take_kept.Goals as goal

pub returns : goal.returns
returns c = on_ok_weaker c.take_client.result
    (kept_keeps c.args.features c.args.self.now c.take_client.new.self c.new-2.result.items c.new-2.ensures.items) c.take_client.ensures
