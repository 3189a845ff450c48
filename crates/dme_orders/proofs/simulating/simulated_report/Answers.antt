use Rattle.dme_orders.proofs.LinesShown.{leaves_lines}
use Rattle.dme_orders.proofs.ReadingLemmas.{leaves_report}
use Rattle.dme_orders.proofs.simulating.simulated_report.Goals as goal

pub returns-clause-leaves : goal.returns-clause-leaves
returns-clause-leaves g c = leaves_report c.reported-end.result (λ text. text.items) c.args.window c.args.input.setup c.args.input.schedule c.args.input.program
    c.in_ok-world.world.world c.in_ok-world.ensures.played c.reported-end.ensures.state c.reported-end.ensures.text

pub returns-clause-lines : goal.returns-clause-lines
returns-clause-lines g c = leaves_lines c.reported-end.result (λ text. text.items) g.L.Sink.taken g.L.Sink.has_failed c.args.lines.now
    c.played.new.lines c.args.window c.args.input.setup c.args.input.schedule c.args.input.program
    c.in_ok-world.world.world c.in_ok-world.ensures.lines c.reported-end.ensures.state c.reported-end.ensures.text
