use Rattle.std.proofs.Common.{◌≡◌, false, rules, true}
use Rattle.std.specs.Prelude.{is_err}
use Rattle.effects.specs.Effects.{the_reply}
use Rattle.services.specs.Sessions.{Brings, Serves, left}
use Rattle.services.proofs.Exits.{nears_short}
use Rattle.services.proofs.Served.{of_err, of_ok, short_serves}
use Rattle.services.proofs.sessions.Session.take.Goals as goal

pub returns-then-is_err-clause-served : goal.returns-then-is_err-clause-served
returns-then-is_err-clause-served c =
    let failed : is_err c.step.result ≡ true = search rules in
    short_serves c.args.self.now c.step.new.self c.run_short.new.self (the_reply c.args.answer)
    (of_err c.step.result (Brings true c.args.self.now (the_reply c.args.answer) (left c.step.new.self)) failed c.step.ensures.lost)
    c.run_short.ensures.talk c.run_short.ensures.over

pub returns-else-is_err-clause-served : goal.returns-else-is_err-clause-served
returns-else-is_err-clause-served c =
    let done : is_err c.step.result ≡ false = search rules in
    of_ok c.step.result (Serves c.args.self.now (the_reply c.args.answer) c.step.new.self) done c.step.ensures.served

pub returns-then-is_err-clause-nears : goal.returns-then-is_err-clause-nears
returns-then-is_err-clause-nears c =
    let short : is_err c.step.result ≡ true = search rules in
    nears_short c.step.result c.args.self.now c.step.new.self c.run_short.new.self short c.step.ensures.nears c.run_short.ensures.nears
