use Rattle.std.proofs.Common.{rules}
use Rattle.session_telling.proofs.DialogueLemmas.{sends_all, sends_none, sends_one}
use Rattle.session_telling.proofs.dialogues.Dialogue.send.Goals as goal

pub loop-line-preserved : goal.loop-line-preserved
loop-line-preserved c = λ final rest more. c.loop-line.invariant final rest
    (sends_one _ c.in-Some.line.now c.in-Some.after.now _ _ final rest c.in-Some.ensures.line c.in-Some.ensures.ended
    (rw c.content.ensures at c.in_ok-send.ensures.ok) more)

pub returns : goal.returns
returns c = sends_all _ _ _ _ _ (c.loop-line.invariant _ _ (sends_none _ _ c.in_default.ensures.none)) (search rules) (search rules) (search rules)
