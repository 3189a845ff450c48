use Rattle.client_core.proofs.Names.{◌∙◌, ap, client_read, effect_heard, opened_of, rules}
use Rattle.protocol_model.specs.Replies.{Mark}
use Rattle.dme_tags.specs.Opened.{heard}
use Rattle.client_core.proofs.Tables.{counted_read}
use Rattle.client_core.proofs.executor.Executor.count.Goals as goal

pub returns-in-Ok : goal.returns-in-Ok
returns-in-Ok c = (
  c.settle.ensures ∙ (counted_read c.self.inside.program c.self.inside.window c.self.inside.on c.self.inside.state
      c.self.inside.cause
      c.self.inside.commands c.complete.new.self c.self.inside.progress c.count.new.self c.self.inside.abort c.args.tag _
      c.args.kind c.args.given.now c.args.ends
      c.requires.standard c.in-Ok.ensures.ok (ap (λ x. effect_heard (heard (opened_of x) c.args.tag Mark.Done)) c.self.view_is
      ∙ c.requires.counts) (search rules) c.count.ensures.connection (search rules)
      ∙ ap (λ x. client_read x c.args.tag Mark.Done) c.self.view_is),
  tt,
)
