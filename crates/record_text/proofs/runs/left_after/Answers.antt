use Rattle.std.proofs.Common.{◌∙◌, sym}
use Rattle.record_text.proofs.ContactRuns.{drop_other, drop_one}
use Rattle.record_text.proofs.runs.left_after.Goals as goal

pub returns-then-not-is_contact : goal.returns-then-not-is_contact
returns-then-not-is_contact c n acts =
    drop_other c.args.left n c.args.act.now acts (sym c.is_contact.ensures ∙ c.if-not-is_contact.true)

pub returns : goal.returns
returns c n acts =
    drop_one c.args.left n c.args.act.now acts c.requires (sym c.is_contact.ensures ∙ c.if-not-is_contact.false)
