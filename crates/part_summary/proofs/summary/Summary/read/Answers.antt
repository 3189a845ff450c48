use Rattle.dme_orders.specs.Reading.{came}
use Rattle.part_summary.proofs.Reasons.{not_first}
use Rattle.part_summary.proofs.summary.Summary.read.Goals as goal

pub returns-clause-refused : goal.returns-clause-refused
returns-clause-refused g c =
    not_first (came g.S.Source.left g.S.Source.has_failed c.args.source.now c.sealed_from.new.source) c.in_ok-held.held
    c.args.self.now.key c.args.self.now.program c.count.result c.in_ok-held.ensures.ok c.count.ensures.refused
