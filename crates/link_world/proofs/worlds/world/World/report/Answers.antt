use Rattle.link_world.proofs.Names.{◌∙◌, ◌≡◌, ◌≢◌, Err, Headline, IfOk, Ok, Result, rules, seen, State, sym}
use Rattle.protocol_model.specs.declared.states.State.TheVariants.{Faulted}
use Rattle.link_world.specs.declared.texts.reports.Report.{Report}
use Rattle.link_world.proofs.Reached.{headline, headline_seen}
use Rattle.link_world.proofs.worlds.world.World.report.Goals as goal

-- a report with the state of a client that is not Faulted
not_faulted : {E : Type 0} (state : State) (result : Result Report E) → state ≢ Faulted → IfOk result (λ report. report.state ≡ state)
    → IfOk result (λ report. report.state ≢ Faulted)
not_faulted state (Ok report) not is = λ faulted. not (sym is ∙ faulted)
not_faulted state (Err e) not is = search rules

pub returns-clause-always : goal.returns-clause-always
returns-clause-always c = headline_seen _ _ c.self.view_is c.self.invariant

pub returns-clause-never_faulted : goal.returns-clause-never_faulted
returns-clause-never_faulted c =
    let always : Headline (seen c.self.inside.client c.self.inside.server c.self.inside.connections.items
    c.self.inside.written.items).world = headline _ c.self.invariant in
    not_faulted c.self.inside.client.client.state c.report_of.result always.client c.report_of.ensures.state
