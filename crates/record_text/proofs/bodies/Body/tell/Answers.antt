use Rattle.record_text.proofs.BodySteps.{unused_more}
use Rattle.record_text.proofs.bodies.Body.tell.Goals as goal

pub invariant_of-self-2 : goal.invariant_of-self-2
invariant_of-self-2 c = unused_more c.self.inside.told c.push.new.self (c.args.connection, c.args.act) c.self.inside.used c.self.inside.from
    c.in_ok-push.ensures.appended.0 c.self.invariant
