use Rattle.dme_tags.proofs.Names.{ap, err_from_is_err_and, Mark, not, OpenValue, rules, true}
use Rattle.dme_tags.proofs.Refusals.{refused_standard, refused_event}
use Rattle.dme_tags.proofs.Ends.{refused_unknown, refused_error, taken_standard, taken_event}
use Rattle.dme_tags.proofs.open_commands.Open.failed.Goals as goal

pub returns-in_err-fail-in-Std-clause-refused : goal.returns-in_err-fail-in-Std-clause-refused
returns-in_err-fail-in-Std-clause-refused c =
    let p = err_from_is_err_and c.from_residual.result c.from_residual.ensures.1 in
    rw (p.1, p.2) (
      refused_standard c.args.self.now _ c.args.tag c.in-Std.field-0 Mark.Error _ c.in-Std.is
          (ap (λ (o : OpenValue). o.standard) c.self.view_is) (c.in_err-fail-in-Std.ensures.refused _),
      search rules,
    )

pub returns-in_err-fail-in-Event-clause-refused : goal.returns-in_err-fail-in-Event-clause-refused
returns-in_err-fail-in-Event-clause-refused c =
    let p = err_from_is_err_and c.from_residual-in_err-fail-in-Event.result c.from_residual-in_err-fail-in-Event.ensures.1 in
    rw (p.1, p.2) (
      refused_event c.args.self.now _ c.args.tag c.in-Event.field-0 Mark.Error _ c.in-Event.is
          (ap (λ (o : OpenValue). o.event) c.self.view_is) (c.in_err-fail-in-Event.ensures.refused _),
      search rules,
    )

pub returns-in_err-fail-in-Std-clause-unknown : goal.returns-in_err-fail-in-Std-clause-unknown
returns-in_err-fail-in-Std-clause-unknown c =
    let p = err_from_is_err_and c.from_residual.result c.from_residual.ensures.1 in
    rw (p.1, p.2) (refused_unknown _ c.args.self.now c.args.tag Mark.Error _
    (refused_standard c.args.self.now _ c.args.tag c.in-Std.field-0 Mark.Error _ c.in-Std.is
    (ap (λ (o : OpenValue). o.standard) c.self.view_is) (c.in_err-fail-in-Std.ensures.refused _)))

pub returns-in_err-fail-in-Std-clause-named : goal.returns-in_err-fail-in-Std-clause-named
returns-in_err-fail-in-Std-clause-named c =
    let p = err_from_is_err_and c.from_residual.result c.from_residual.ensures.1 in
    rw (p.1, p.2) (refused_error c.args.self.now c.args.tag _
    (refused_standard c.args.self.now _ c.args.tag c.in-Std.field-0 Mark.Error _ c.in-Std.is
    (ap (λ (o : OpenValue). o.standard) c.self.view_is) (c.in_err-fail-in-Std.ensures.refused _)))

pub returns-in_err-fail-in-Event-clause-unknown : goal.returns-in_err-fail-in-Event-clause-unknown
returns-in_err-fail-in-Event-clause-unknown c =
    let p = err_from_is_err_and c.from_residual-in_err-fail-in-Event.result c.from_residual-in_err-fail-in-Event.ensures.1 in
    rw (p.1, p.2) (refused_unknown _ c.args.self.now c.args.tag Mark.Error _
    (refused_event c.args.self.now _ c.args.tag c.in-Event.field-0 Mark.Error _ c.in-Event.is
    (ap (λ (o : OpenValue). o.event) c.self.view_is)
    (c.in_err-fail-in-Event.ensures.refused _)))

pub returns-in_err-fail-in-Event-clause-named : goal.returns-in_err-fail-in-Event-clause-named
returns-in_err-fail-in-Event-clause-named c =
    let p = err_from_is_err_and c.from_residual-in_err-fail-in-Event.result c.from_residual-in_err-fail-in-Event.ensures.1 in
    rw (p.1, p.2) (refused_error c.args.self.now c.args.tag _
    (refused_event c.args.self.now _ c.args.tag c.in-Event.field-0 Mark.Error _ c.in-Event.is
    (ap (λ (o : OpenValue). o.event) c.self.view_is)
    (c.in_err-fail-in-Event.ensures.refused _)))

pub returns-then-branch-clause-unknown : goal.returns-then-branch-clause-unknown
returns-then-branch-clause-unknown c =
    taken_standard _ _ c.args.self.now _ _ c.args.tag c.in-Std.field-0 Mark.Error _ c.in-Std.is
    (ap (λ (o : OpenValue). o.standard) c.self.view_is) (c.in_ok-fail-in-Std.ensures.ok (not c.args.self.now.failed))

pub returns-else-branch-clause-unknown : goal.returns-else-branch-clause-unknown
returns-else-branch-clause-unknown c =
    taken_standard _ _ c.args.self.now _ _ c.args.tag c.in-Std.field-0 Mark.Error _ c.in-Std.is
    (ap (λ (o : OpenValue). o.standard) c.self.view_is) (c.in_ok-fail-in-Std.ensures.ok (not c.args.self.now.failed))

pub returns-in_ok-fail-in-Event-clause-unknown : goal.returns-in_ok-fail-in-Event-clause-unknown
returns-in_ok-fail-in-Event-clause-unknown c =
    taken_event _ _ c.args.self.now _ _ c.args.tag c.in-Event.field-0 Mark.Error _ c.in-Event.is
    (ap (λ (o : OpenValue). o.event) c.self.view_is) (c.in_ok-fail-in-Event.ensures.ok true)
