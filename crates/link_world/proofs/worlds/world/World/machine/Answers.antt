use Rattle.link_world.proofs.Names.{Event, refl, rules, serving_machined}
use Rattle.link_world.proofs.Events.{stands, not_now, answers}
use Rattle.link_world.proofs.Reached.{server_quiet}
use Rattle.link_world.proofs.ServerAnswers.{off_end}
use Rattle.link_world.proofs.worlds.world.World.machine.Goals as goal

pub server_place-requires : goal.server_place-requires
server_place-requires c = stands c.self.inside c.self.invariant

pub end_job-requires : goal.end_job-requires
end_job-requires c = record {
  quiet = server_quiet c.self.inside.client c.self.inside.server c.self.inside.connections.items c.self.inside.written.items
      c.self.invariant;
}

pub returns-in_default-clause-can : goal.returns-in_default-clause-can
returns-in_default-clause-can c = not_now _ (off_end c.args.self.now c.args.outcome c.self.inside.client c.self.inside.server
    c.self.inside.connections.items c.self.inside.written.items c.self.view_is c.self.invariant (search rules))

pub invariant_of-self : goal.invariant_of-self
invariant_of-self c = (answers (Event.Machine c.args.outcome) (serving_machined c.args.outcome) c.args.self.now c.self.inside
    c.end_job.new.server c.in-Some.at c.index_mut.result.now c.end_job.new.connection c.end_job.result c.self.view_is c.self.invariant
    (λ x. refl) (search rules) (search rules) (search rules) (search rules)
    c.end_job.ensures.server c.end_job.ensures.link).reached

pub returns-clause-world : goal.returns-clause-world
returns-clause-world c = (answers (Event.Machine c.args.outcome) (serving_machined c.args.outcome)
    c.args.self.now c.self.inside
    c.end_job.new.server c.in-Some.at c.index_mut.result.now c.end_job.new.connection c.end_job.result c.self.view_is c.self.invariant
    (λ x. refl) (search rules) (search rules) (search rules) (search rules)
    c.end_job.ensures.server c.end_job.ensures.link).leads
