use Rattle.run_opening.proofs.Names.{◌≡◌, rules, Some}
use Rattle.run_opening.proofs.Beginnings.{filled_leads}
use Rattle.std.proofs.lemmas.Result.{on_ok_weaker}
use Rattle.run_opening.proofs.openings.Opening.take_beginning.Goals as goal

pub returns : goal.returns
returns c =
    let is : c.args.self.now.core.beginning ≡ Some c.in-Some.beginning = search rules in
    on_ok_weaker c.take_client.result (filled_leads c.in-Some.beginning c.take.new.self _ c.args.self.now c.take_client.new.self c.self.view_is is)
    c.take_client.ensures
