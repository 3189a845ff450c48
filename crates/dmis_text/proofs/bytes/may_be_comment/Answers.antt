use Rattle.dmis_text.proofs.Names.{◌∙◌, ap, arith, drop, eq-eqb, is_in_comment, length-drop, list_all, rules, sym}
use Rattle.dmis_text.proofs.Skipping.{all_in_run, all_in_run_from}
use Rattle.dmis_text.proofs.bytes.may_be_comment.Goals as goal

pub returns-then-is_filled_to_end : goal.returns-then-is_filled_to_end
returns-then-is_filled_to_end c = sym (all_in_run is_in_comment (drop c.args.at c.args.line.now) ∙ eq-eqb _ _
    (omega (arith, c.if-is_filled_to_end.ensures (search rules), length-drop c.args.at c.args.line.now, c.requires)))

pub returns : goal.returns
returns c = rw c.long_run_end.ensures.run (all_in_run_from is_in_comment c.split_at.result.1.now
    ∙ ap (list_all is_in_comment) c.split_at.ensures.back)
