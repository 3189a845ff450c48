use Rattle.dme_line.proofs.TokenLemmas.{is_end_by}
use Rattle.dme_line.proofs.tokens.is_end.Goals as goal

pub returns : goal.returns
returns c = is_end_by c.args.bytes.now c.skip_spaces.result.now c.is_empty.result c.skip_spaces.ensures.same c.skip_spaces.ensures.front
    c.is_empty.ensures
