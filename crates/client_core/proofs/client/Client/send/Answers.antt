use Rattle.client_core.proofs.Names.{◌++◌, ◌≡◌, ap, client_sent, command_bytes, due, end_sent, inr, rules, true}
use Rattle.std.specs.Option.{is_some}
use Rattle.client_core.proofs.client.Client.send.Goals as goal

pub returns-clause-ok : goal.returns-clause-ok
returns-clause-ok c =
    let done : c.send.new.self ≡ (client_sent c.self.inside.executor).client = search rules in
    let text : c.send.new.out.items ≡ c.self.inside.out.waiting ++ command_bytes (client_sent c.self.inside.executor).lines =
    search rules in
    rw (done, text) (ap end_sent c.self.view_is)

pub returns-in-Some-clause-refused : goal.returns-in-Some-clause-refused
returns-in-Some-clause-refused c =
    let done : c.send.new.self ≡ (client_sent c.self.inside.executor).client = search rules in
    let text : c.send.new.out.items ≡ c.self.inside.out.waiting ++ command_bytes (client_sent c.self.inside.executor).lines =
    search rules in
    let can : is_some (due c.args.self.now.client) ≡ true = search rules in
    inr (can, (rw (done, text) (ap end_sent c.self.view_is)), search rules, search rules)
