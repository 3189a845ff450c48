use Rattle.client_core.proofs.Names.{[], ◌++◌, ◌<◌, ◌∙◌, ◌∷◌, ◌≡◌, add-one, ap, append_assoc, arith, Cause, client_sent, command_bytes, false}
use Rattle.client_core.proofs.Names.{faulted, is_event_kind, kind_of, length, Line, List, next_tag, None, rules, seen, Sends, slice_index_or, sym}
use Rattle.client_core.proofs.Names.{written_command}
use Rattle.client_core.proofs.Sends.{sent_client, sent_lines, sent_none}
use Rattle.client_core.proofs.executor.Executor.send.Goals as goal

pub returns-in-Ok-clause-client : goal.returns-in-Ok-clause-client
returns-in-Ok-clause-client c =
    let within : c.self.inside.progress.unsent < length c.self.inside.progress.plan.items = search rules in
    let is : c.in-Some.planned.now ≡ slice_index_or c.self.inside.progress.plan.items c.self.inside.progress.unsent c.in-Some.planned.now =
    search rules in
    let standard : is_event_kind (kind_of c.in-Some.planned.now.command) ≡ false = search rules in (
      rw add-one (sent_client c.self.inside.program c.self.inside.window c.self.inside.on c.self.inside.state
          c.self.inside.cause c.self.inside.commands c.draw.new.self c.self.inside.progress
          c.self.inside.abort c.in-Some.planned.now c.in-Ok.tag within is standard (search rules) (search rules)
          ∙ ap (λ x. (client_sent x).client) c.self.view_is),
      tt,
    )

pub returns-in-Ok-clause-text : goal.returns-in-Ok-clause-text
returns-in-Ok-clause-text c =
    let within : c.self.inside.progress.unsent < length c.self.inside.progress.plan.items = search rules in
    let is : c.in-Some.planned.now ≡ slice_index_or c.self.inside.progress.plan.items c.self.inside.progress.unsent c.in-Some.planned.now =
    search rules in
    let standard : is_event_kind (kind_of c.in-Some.planned.now.command) ≡ false = search rules in
    let lines_are = sent_lines c.self.inside.program c.self.inside.window c.self.inside.on c.self.inside.state
    c.self.inside.cause c.self.inside.commands c.self.inside.progress
    c.self.inside.abort c.in-Some.planned.now c.in-Ok.tag within is standard (search rules) in (
      rw (c.write_line_end_reserved.ensures.text, c.write_command_reserved.ensures.text)
          (append_assoc c.args.out.now.items (written_command c.in-Ok.tag c.in-Some.planned.now.command) (13 ∷ 10 ∷ [])
          ∙ ap (λ (ls : List Line). c.args.out.now.items ++ command_bytes ls) (sym lines_are
          ∙ ap (λ x. (client_sent x).lines) c.self.view_is)),
      tt,
    )

pub returns-in-Err-TagsSpent : goal.returns-in-Err-TagsSpent
returns-in-Err-TagsSpent c =
    let within : c.self.inside.progress.unsent < length c.self.inside.progress.plan.items = search rules in
    let is : c.in-Some.planned.now ≡ slice_index_or c.self.inside.progress.plan.items c.self.inside.progress.unsent c.in-Some.planned.now =
    search rules in
    let standard : is_event_kind (kind_of c.in-Some.planned.now.command) ≡ false = search rules in
    let none : next_tag c.self.inside.commands (kind_of c.in-Some.planned.now.command) ≡ None = search rules in
    let whole = sent_none c.self.inside.program c.self.inside.window c.self.inside.on c.self.inside.state
    c.self.inside.cause c.self.inside.commands c.self.inside.progress c.self.inside.abort c.in-Some.planned.now
    within is standard none in
    let same : c.draw.new.self ≡ c.self.inside.commands = search rules in
    let lines_are : (client_sent c.args.self.now).lines ≡ [] = sym (ap (λ x. (client_sent x).lines) c.self.view_is)
    ∙ ap (λ (s : Sends). s.lines) whole in
    record {
      client = (
        c.fault.ensures ∙ (ap (λ o. faulted Cause.TagsSpent (seen c.self.inside.program c.self.inside.window c.self.inside.on
            c.self.inside.state c.self.inside.cause o c.self.inside.progress c.self.inside.abort))
            same
            ∙ (sym (ap (λ (s : Sends). s.client) whole) ∙ ap (λ x. (client_sent x).client) c.self.view_is)),
        tt,
      );
      text = (rw lines_are (search rules), tt);
      grows = (omega arith, omega arith);
    }
