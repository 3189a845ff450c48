use Rattle.std.proofs.Common.{sym, ◌∙◌}
use Rattle.dmis_text.proofs.Bare.{bare_capitals, bare_role}
use Rattle.dmis_text.proofs.lines.examine_bare.Goals as goal

pub returns-else-is_all_blank-clause-role : goal.returns-else-is_all_blank-clause-role
returns-else-is_all_blank-clause-role c =
    bare_role c.args.line.now c.args.content.now (sym c.is_too_long.ensures ∙ c.if-is_too_long.false)
    c.requires.bare c.requires.content c.requires.clean (sym c.is_all_blank.ensures ∙ c.if-is_all_blank.false)

pub returns-else-is_all_blank-clause-flag : goal.returns-else-is_all_blank-clause-flag
returns-else-is_all_blank-clause-flag c = λ _. bare_capitals c.args.content.now c.requires.bare
