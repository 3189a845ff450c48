use Rattle.std.proofs.Common.{rules}
use Rattle.witness.proofs.JudgementNames.{◌++◌, ◌+◌, ◌∙◌, ◌≡◌, ap, append_assoc, commands_text, drop, drop_more, get_or, List, slice_get, string_bytes, sym, ℕ}
use Rattle.witness.proofs.judgement_writing.push_commands.Goals as goal
use Rattle.witness.specs.Counts.{kinds}
use Rattle.witness.specs.JudgementTexts.{count_text, word_of}

pub loop-at-preserved : goal.loop-at-preserved
loop-at-preserved c =
    let at = c.loop-at.at in
    let word : c.map_or-word.result.now ≡ word_of (slice_get kinds at) = search rules in
    let count = get_or c.args.counts.now at 0 in
    let more = commands_text (at + 1) (drop (at + 1) c.args.counts.now) in
    ap (λ (l : List ℕ). l ++ more) c.in_ok-push_count.ensures
    ∙ ap (λ (w : List ℕ). (string_bytes c.loop-at.text ++ count_text w count) ++ more) word
    ∙ append_assoc (string_bytes c.loop-at.text) (count_text (word_of (slice_get kinds at)) count) more
    ∙ ap (λ (l : List ℕ). string_bytes c.loop-at.text ++ commands_text at l) (sym (drop_more c.args.counts.now at 0 c.loop-at-test.true))
    ∙ c.loop-at.invariant
