use Rattle.effects.specs.Effects.{the_reply}
use Rattle.run_session.proofs.Filing.{goes_further}
use Rattle.std.proofs.Common.{◌≡◌, false, rules, true}
use Rattle.std.specs.Prelude.{is_err}
use Rattle.run_session.proofs.Stops.{keeps_left, left_stops, ok_stops}
use Rattle.run_session.proofs.Names.{inl}
use Rattle.run_session.proofs.Steps.{nears_on, nears_short, of_ok}
use Rattle.run_session.proofs.sessions.Session.take.Goals as goal

pub returns-then-is_err-clause-goes : goal.returns-then-is_err-clause-goes
returns-then-is_err-clause-goes c = goes_further c.args.self.now c.step.new.self c.run_short.new.self (the_reply c.args.answer)
    c.step.ensures.goes (keeps_left c.step.new.self c.run_short.new.self c.run_short.ensures.ran) c.run_short.ensures.book

pub returns-then-is_err-clause-stops : goal.returns-then-is_err-clause-stops
returns-then-is_err-clause-stops c =
    let short : is_err c.step.result ≡ true = search rules in
    left_stops c.step.result c.args.self.now c.step.new.self c.run_short.new.self (the_reply c.args.answer) short
    c.step.ensures.stops c.run_short.ensures.ran c.run_short.ensures.spent

pub returns-else-is_err-clause-stops : goal.returns-else-is_err-clause-stops
returns-else-is_err-clause-stops c =
    let done : is_err c.step.result ≡ false = search rules in
    ok_stops c.step.result c.args.self.now c.step.new.self (the_reply c.args.answer) done c.step.ensures.stops

pub returns-then-is_err-clause-nears : goal.returns-then-is_err-clause-nears
returns-then-is_err-clause-nears c =
    let short : is_err c.step.result ≡ true = search rules in
    nears_short c.step.result c.args.self.now c.step.new.self c.run_short.new.self short c.step.ensures.nears c.step.ensures.over
    c.run_short.ensures.nears c.run_short.ensures.over

pub returns-else-is_err-clause-nears : goal.returns-else-is_err-clause-nears
returns-else-is_err-clause-nears c =
    let done : is_err c.step.result ≡ false = search rules in
    nears_on c.step.result c.args.self.now c.step.new.self done c.step.ensures.nears c.step.ensures.over

pub returns-else-is_err-clause-breaks : goal.returns-else-is_err-clause-breaks
returns-else-is_err-clause-breaks c = λ by is.
    let done : is_err c.step.result ≡ false = search rules in
    inl (of_ok c.step.result done (c.step.ensures.breaks by is))
