use Rattle.client_core.proofs.Names.{◌++◌, ◌≡◌, ap, client_aborted, command_bytes, end_aborted, inr, may_abort, rules, true}
use Rattle.client_core.proofs.Reached.{aborted_reached}
use Rattle.client_core.proofs.client.Client.abort.Goals as goal

pub invariant_of-self-in-Some : goal.invariant_of-self-in-Some
invariant_of-self-in-Some c =
    aborted_reached c.self.inside.executor c.send_abort.new.self c.self.inside.input c.self.inside.out.waiting c.send_abort.new.out.items
    c.self.invariant (search rules) (search rules) (search rules)

pub invariant_of-self-2 : goal.invariant_of-self-2
invariant_of-self-2 c =
    aborted_reached c.self.inside.executor c.send_abort.new.self c.self.inside.input c.self.inside.out.waiting c.send_abort.new.out.items
    c.self.invariant (search rules) (search rules) (search rules)

pub returns-clause-ok : goal.returns-clause-ok
returns-clause-ok c =
    let done : c.send_abort.new.self ≡ (client_aborted c.self.inside.executor).client = search rules in
    let text : c.send_abort.new.out.items ≡ c.self.inside.out.waiting ++ command_bytes (client_aborted c.self.inside.executor).lines =
    search rules in
    rw (done, text) (ap end_aborted c.self.view_is)

pub returns-in-Some-clause-refused : goal.returns-in-Some-clause-refused
returns-in-Some-clause-refused c =
    let done : c.send_abort.new.self ≡ (client_aborted c.self.inside.executor).client = search rules in
    let text : c.send_abort.new.out.items ≡ c.self.inside.out.waiting ++ command_bytes (client_aborted c.self.inside.executor).lines =
    search rules in
    let can : may_abort c.args.self.now.client.state ≡ true = search rules in
    inr (can, (rw (done, text) (ap end_aborted c.self.view_is)), search rules, search rules)
