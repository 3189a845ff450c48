use Rattle.run_session.proofs.Names.{◌∙◌, is_some, sym, true}
use Rattle.std.specs.Prelude.{string_bytes}
use Rattle.run_session.specs.Evidence.{server_text}
use Rattle.run_session.proofs.Stops.{is_short, ran_on, ran_same, ran_short}
use Rattle.run_session.proofs.sessions.Session.stop.Goals as goal

pub returns-in_err-abort-clause-spent : goal.returns-in_err-abort-clause-spent
returns-in_err-abort-clause-spent c = is_short c.from_residual.result (record {
  server = server_text (string_bytes c.self.inside.run.host) c.self.inside.run.port;
  broken = c.self.inside.broken;
  lapsed = is_some c.self.inside.lapse;
  stopped = true;
}) _ c.args.self.now c.abort.new.self c.self.view_is c.in_err-abort.ensures.spent

pub returns-then-not-may_abort-clause-ran : goal.returns-then-not-may_abort-clause-ran
returns-then-not-may_abort-clause-ran c = ran_same c.go_on.result _ c.args.self.now c.go_on.new.self c.self.view_is
    (sym c.may_abort.ensures ∙ c.if-not-may_abort.true) c.go_on.ensures.ran

pub returns-clause-ran : goal.returns-clause-ran
returns-clause-ran c = ran_on c.go_on-2.result _ c.args.self.now c.abort.new.self c.go_on-2.new.self c.self.view_is
    c.in_ok-abort.ensures.ran c.go_on-2.ensures.ran

pub returns-clause-spent : goal.returns-clause-spent
returns-clause-spent c = ran_short c.go_on-2.result _ c.args.self.now c.abort.new.self c.go_on-2.new.self c.self.view_is
    c.in_ok-abort.ensures.ran c.go_on-2.ensures.ran
