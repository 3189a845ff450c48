use Rattle.std.proofs.Common.{rules}
use Rattle.effects.specs.Effects.{the_reply}
use Rattle.run_opening.specs.Openings.{outcome}
use Rattle.run_opening.proofs.Comparing.{unplaced}
use Rattle.run_opening.proofs.openings.Opening.placed.Goals as goal

pub returns-in-None : goal.returns-in-None
returns-in-None c = λ run o h. c.compare_next.ensures run (outcome c.args.self.now.stage (the_reply c.args.answer) o)
    (unplaced run c.args.self.now o c.args.at c.saturating_add.result (the_reply c.args.answer) c.requires (search rules) (search rules) h)
