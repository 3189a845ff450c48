use Rattle.std.proofs.Common.{sym, ◌∙◌}
use Rattle.dme_line.proofs.TokenLemmas.{no_word_first, word_first}
use Rattle.dme_line.proofs.tokens.take_word.Goals as goal

pub returns-then-count-eq0 : goal.returns-then-count-eq0
returns-then-count-eq0 c w ts e = no_word_first c.skip_spaces-text.result.now w ts c.skip_spaces-text.ensures.front
    (sym c.word_len-count.ensures.count ∙ c.if-count-eq0.true) (c.skip_spaces-text.ensures.same ∙ e)

pub returns : goal.returns
returns c =
    let first = word_first c.skip_spaces-text.result.now (λ h. c.if-count-eq0.false (c.word_len-count.ensures.count ∙ h)) in
    rw (c.split_at.ensures.front, c.split_at.ensures.back, c.word_len-count.ensures.count) (sym c.skip_spaces-text.ensures.same ∙ first)
