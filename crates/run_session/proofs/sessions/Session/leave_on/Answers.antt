use Rattle.run_session.proofs.Names.{◌∙◌, ap, State, sym}
use Rattle.run_session.proofs.Steps.{close_nears, parted}
use Rattle.run_session.proofs.sessions.Session.leave_on.Goals as goal

pub returns-in_default-clause-nears : goal.returns-in_default-clause-nears
returns-in_default-clause-nears c = close_nears c.close.result c.args.self.now c.close.new.self c.requires c.close.ensures.nears c.close.ensures.stays

pub returns-in-Parting-clause-nears : goal.returns-in-Parting-clause-nears
returns-in-Parting-clause-nears c = parted c.args.self.now _ (ap (λ (s : State). s.stage) (sym c.self.view_is) ∙ c.in-Parting.is)
    c.once_done-self-inside-in-Parting.ensures
