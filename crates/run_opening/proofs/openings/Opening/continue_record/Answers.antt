use Rattle.run_opening.proofs.Names.{◌≡◌, false, is_some, rules, unwrap_or}
use Rattle.run_opening.proofs.Beginnings.{alone_leads}
use Rattle.std.proofs.lemmas.Result.{on_ok_weaker}
use Rattle.run_opening.proofs.openings.Opening.continue_record.Goals as goal

pub returns : goal.returns
returns c =
    let is : c.unwrap_or-features.result ≡ unwrap_or c.self.inside.features c.new-none.result = search rules in
    let without : is_some c.self.inside.order.record ≡ false = search rules in
    let free : c.self.inside.is_stopped ≡ false = search rules in
    on_ok_weaker c.take_kept.result (alone_leads c.unwrap_or-features.result c.new-none.result c.take.new.self _ c.args.self.now c.take_kept.new.self
    c.self.view_is is c.new-none.ensures without free) c.take_kept.ensures
