use Rattle.run_session.proofs.Names.{ap}
use Rattle.run_session.proofs.Reporting.{tells_reports}
use Rattle.run_session.specs.declared.reported.Reported.{Reported}
use Rattle.run_session.proofs.sessions.Session.tell_contacts.Goals as goal

pub returns-clause-ran : goal.returns-clause-ran
returns-clause-ran c = tells_reports c.follow.result _ _ c.follow.new.self.text.items c.follow.new.self.told _ c.self.view_is c.follow.ensures.text
    c.follow.ensures.told c.follow.ensures.untold.0 c.follow.ensures.untold.1 (ap (λ (r : Reported). record {
      filed = r.filed;
      lost = r.has_failed;
      listed = c.self.inside.listed.settled;
      lists = c.self.inside.listed.is_kept;
      printed = c.self.inside.printed;
      written = c.self.inside.written;
    }) c.follow.ensures.same)
