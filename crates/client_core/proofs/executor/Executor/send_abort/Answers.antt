use Rattle.client_core.proofs.Names.{[], ◌++◌, ◌∙◌, ◌∷◌, ◌≡◌, ap, append_assoc, arith, Cause, client_aborted, Command, command_bytes, faulted, Kind}
use Rattle.client_core.proofs.Names.{Line, List, next_tag, None, rules, seen, Sends, sym, written_command}
use Rattle.client_core.proofs.Sends.{aborted_client, aborted_lines, aborted_none}
use Rattle.client_core.proofs.executor.Executor.send_abort.Goals as goal

pub returns-in-Ok-clause-client : goal.returns-in-Ok-clause-client
returns-in-Ok-clause-client c = (
  aborted_client c.self.inside.program c.self.inside.window c.self.inside.on c.self.inside.state c.self.inside.cause
      c.self.inside.commands c.draw.new.self c.self.inside.progress
      c.self.inside.abort c.in-Ok.tag (search rules) (search rules)
      ∙ ap (λ x. (client_aborted x).client) c.self.view_is,
  tt,
)

pub returns-in-Ok-clause-text : goal.returns-in-Ok-clause-text
returns-in-Ok-clause-text c =
    let lines_are = aborted_lines c.self.inside.program c.self.inside.window c.self.inside.on c.self.inside.state
    c.self.inside.cause c.self.inside.commands c.self.inside.progress
    c.self.inside.abort c.in-Ok.tag (search rules) in (
      rw (c.write_line_end_reserved.ensures.text, c.write_command_reserved.ensures.text)
          (append_assoc c.args.out.now.items (written_command c.in-Ok.tag Command.AbortE) (13 ∷ 10 ∷ [])
          ∙ ap (λ (ls : List Line). c.args.out.now.items ++ command_bytes ls) (sym lines_are
          ∙ ap (λ x. (client_aborted x).lines) c.self.view_is)),
      tt,
    )

pub returns-in-Err-TagsSpent : goal.returns-in-Err-TagsSpent
returns-in-Err-TagsSpent c =
    let none : next_tag c.self.inside.commands Kind.AbortE ≡ None = search rules in
    let whole = aborted_none c.self.inside.program c.self.inside.window c.self.inside.on c.self.inside.state
    c.self.inside.cause c.self.inside.commands c.self.inside.progress c.self.inside.abort none in
    let same : c.draw.new.self ≡ c.self.inside.commands = search rules in
    let lines_are : (client_aborted c.args.self.now).lines ≡ [] = sym (ap (λ x. (client_aborted x).lines) c.self.view_is)
    ∙ ap (λ (s : Sends). s.lines) whole in
    record {
      client = (
        c.fault.ensures ∙ (ap (λ o. faulted Cause.TagsSpent (seen c.self.inside.program c.self.inside.window c.self.inside.on
            c.self.inside.state c.self.inside.cause o c.self.inside.progress c.self.inside.abort))
            same
            ∙ (sym (ap (λ (s : Sends). s.client) whole) ∙ ap (λ x. (client_aborted x).client) c.self.view_is)),
        tt,
      );
      text = (rw lines_are (search rules), tt);
      grows = (omega arith, omega arith);
    }
