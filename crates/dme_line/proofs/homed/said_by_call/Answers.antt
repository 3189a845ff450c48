use Rattle.dme_line.proofs.HomedLemmas.{other_name, no_word, not_said}
use Rattle.dme_line.proofs.homed.said_by_call.Goals as goal

pub returns-then-not-is_word-clause-err : goal.returns-then-not-is_word-clause-err
returns-then-not-is_word-clause-err c = other_name c.args.text.now c.cut_name.result.0.now c.cut_name.result.1.now c.cut_name.ensures (cc)

pub returns-in-Some-clause-err : goal.returns-in-Some-clause-err
returns-in-Some-clause-err c = not_said c.args.text.now c.cut_name.result.0.now c.cut_name.result.1.now c.in-Some.word.now
    c.said_by.result c.cut_name.ensures c.in-Some.ensures c.said_by.ensures.err

pub returns-in-None-clause-err : goal.returns-in-None-clause-err
returns-in-None-clause-err c = no_word c.args.text.now c.cut_name.result.0.now c.cut_name.result.1.now c.cut_name.ensures c.in-None.ensures
