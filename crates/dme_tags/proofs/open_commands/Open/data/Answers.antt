use Rattle.dme_tags.proofs.Names.{ap, Effect, Mark, OpenValue}
use Rattle.dme_tags.proofs.Dues.{Agrees, agrees_standard, agrees_event, unknown_exactly, data_exactly, second_exactly, data_told}
use Rattle.dme_tags.proofs.open_commands.Open.data.Goals as goal

-- what is known after the call on the list of one sort of tags
on_standard : (c : goal.After-give) → Agrees c.args.self.now c.args.tag (Mark.Given c.args.datum) c.give.result
on_standard c =
    agrees_standard c.args.self.now _ _ _ c.args.tag c.in-Std.field-0 (Mark.Given c.args.datum) (λ _. Effect.Quiet) _ c.in-Std.is
    (ap (λ (o : OpenValue). o.failed) c.self.view_is) (ap (λ (o : OpenValue). o.standard) c.self.view_is) c.give.ensures.ok
    c.give.ensures.refused

on_event : (c : goal.After-give-in-Event) → Agrees c.args.self.now c.args.tag (Mark.Given c.args.datum) c.give-in-Event.result
on_event c =
    agrees_event c.args.self.now _ _ c.args.tag c.in-Event.field-0 (Mark.Given c.args.datum) (λ _. Effect.Quiet) _ c.in-Event.is
    (ap (λ (o : OpenValue). o.event) c.self.view_is) c.give-in-Event.ensures.ok c.give-in-Event.ensures.refused

pub returns-in-Std-clause-due : goal.returns-in-Std-clause-due
returns-in-Std-clause-due c = data_exactly c.args.self.now c.args.tag c.args.datum _ c.requires (on_standard c)

pub returns-in-Std-clause-unknown : goal.returns-in-Std-clause-unknown
returns-in-Std-clause-unknown c = unknown_exactly c.args.self.now c.args.tag (Mark.Given c.args.datum) _ (on_standard c)

pub returns-in-Std-clause-second : goal.returns-in-Std-clause-second
returns-in-Std-clause-second c = second_exactly c.args.self.now c.args.tag c.args.datum _ c.requires (on_standard c)

pub returns-in-Std-clause-named : goal.returns-in-Std-clause-named
returns-in-Std-clause-named c = data_told c.args.self.now c.args.tag c.args.datum _ (on_standard c)

pub returns-in-Event-clause-due : goal.returns-in-Event-clause-due
returns-in-Event-clause-due c = data_exactly c.args.self.now c.args.tag c.args.datum _ c.requires (on_event c)

pub returns-in-Event-clause-unknown : goal.returns-in-Event-clause-unknown
returns-in-Event-clause-unknown c = unknown_exactly c.args.self.now c.args.tag (Mark.Given c.args.datum) _ (on_event c)

pub returns-in-Event-clause-second : goal.returns-in-Event-clause-second
returns-in-Event-clause-second c = second_exactly c.args.self.now c.args.tag c.args.datum _ c.requires (on_event c)

pub returns-in-Event-clause-named : goal.returns-in-Event-clause-named
returns-in-Event-clause-named c = data_told c.args.self.now c.args.tag c.args.datum _ (on_event c)
