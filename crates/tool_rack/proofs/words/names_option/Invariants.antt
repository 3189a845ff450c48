use Rattle.std.specs.Prelude.{◌≡◌, drop, map}
use Rattle.tool_rack.specs.Words.{names_option}
use Rattle.tool_rack.proofs.words.names_option.Given as goal

abbrev pub invariant-loop-word : goal.invariant-loop-word
invariant-loop-word l = names_option l.option (map (λ word. word.now) (drop l.word-index l.words))
    ≡ names_option l.option (map (λ word. word.now) l.words)
