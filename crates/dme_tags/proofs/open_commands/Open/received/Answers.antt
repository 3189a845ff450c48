use Rattle.dme_tags.proofs.Names.{ap, Effect, IfErr-weaker, IfOk-weaker, Mark, not, OpenValue, rules, true}
use Rattle.dme_tags.proofs.Dues.{Agrees, agrees_standard, agrees_event, unknown_exactly}
use Rattle.dme_tags.proofs.Ends.{unread_exactly, receipt_named}
use Rattle.dme_tags.proofs.Refusals.{refused_standard, refused_event}
use Rattle.dme_tags.proofs.open_commands.Open.received.Goals as goal

pub returns-in-Std-clause-refused : goal.returns-in-Std-clause-refused
returns-in-Std-clause-refused c = (
  IfErr-weaker c.receive.result _ _
      (λ fault h. refused_standard c.args.self.now _ c.args.tag c.in-Std.field-0 Mark.Ack _ c.in-Std.is
      (ap (λ (o : OpenValue). o.standard) c.self.view_is) (h _))
      c.receive.ensures.refused,
  search rules,
)

pub returns-in-Event-clause-refused : goal.returns-in-Event-clause-refused
returns-in-Event-clause-refused c = (
  IfErr-weaker c.receive-in-Event.result _ _
      (λ fault h. refused_event c.args.self.now _ c.args.tag c.in-Event.field-0 Mark.Ack _ c.in-Event.is
      (ap (λ (o : OpenValue). o.event) c.self.view_is) (h _))
      c.receive-in-Event.ensures.refused,
  search rules,
)

-- what is known after the call on the list of one sort of tags
on_standard : (c : goal.After-receive) → Agrees c.args.self.now c.args.tag Mark.Ack c.receive.result
on_standard c =
    agrees_standard c.args.self.now _ _ _ c.args.tag c.in-Std.field-0 Mark.Ack (λ _. Effect.Quiet) _ c.in-Std.is
    (ap (λ (o : OpenValue). o.failed) c.self.view_is) (ap (λ (o : OpenValue). o.standard) c.self.view_is)
    (IfOk-weaker c.receive.result _ _ (λ _ h. h (not c.self.inside.failed)) c.receive.ensures.ok)
    (IfErr-weaker c.receive.result _ _ (λ _ h. h (not c.self.inside.failed)) c.receive.ensures.refused)

on_event : (c : goal.After-receive-in-Event) → Agrees c.args.self.now c.args.tag Mark.Ack c.receive-in-Event.result
on_event c =
    agrees_event c.args.self.now _ _ c.args.tag c.in-Event.field-0 Mark.Ack (λ _. Effect.Quiet) _ c.in-Event.is
    (ap (λ (o : OpenValue). o.event) c.self.view_is)
    (IfOk-weaker c.receive-in-Event.result _ _ (λ _ h. h true) c.receive-in-Event.ensures.ok)
    (IfErr-weaker c.receive-in-Event.result _ _ (λ _ h. h true) c.receive-in-Event.ensures.refused)

pub returns-in-Std-clause-due : goal.returns-in-Std-clause-due
returns-in-Std-clause-due c = unread_exactly c.args.self.now c.args.tag _ (on_standard c)

pub returns-in-Std-clause-unknown : goal.returns-in-Std-clause-unknown
returns-in-Std-clause-unknown c = unknown_exactly c.args.self.now c.args.tag Mark.Ack _ (on_standard c)

pub returns-in-Std-clause-named : goal.returns-in-Std-clause-named
returns-in-Std-clause-named c = receipt_named c.args.self.now c.args.tag _ (on_standard c)

pub returns-in-Event-clause-due : goal.returns-in-Event-clause-due
returns-in-Event-clause-due c = unread_exactly c.args.self.now c.args.tag _ (on_event c)

pub returns-in-Event-clause-unknown : goal.returns-in-Event-clause-unknown
returns-in-Event-clause-unknown c = unknown_exactly c.args.self.now c.args.tag Mark.Ack _ (on_event c)

pub returns-in-Event-clause-named : goal.returns-in-Event-clause-named
returns-in-Event-clause-named c = receipt_named c.args.self.now c.args.tag _ (on_event c)
