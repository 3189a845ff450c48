use Rattle.dme_line.proofs.TokenLemmas.{mark_first_of}
use Rattle.dme_line.proofs.tokens.take_mark.Goals as goal

pub returns-then-first-mark : goal.returns-then-first-mark
returns-then-first-mark c ts e = c.if-first-mark.true (mark_first_of c.args.bytes.now c.skip_spaces.result.now c.in_ok-first.first.now
    c.in_ok-first.rest.now c.args.mark ts c.skip_spaces.ensures.same c.skip_spaces.ensures.front c.in_ok-first.ensures.cases.0 c.requires e)
