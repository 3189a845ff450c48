use Rattle.std.specs.Prelude.{◌≡◌, ◌++◌, drop, map}
use Rattle.tool_rack.proofs.words.with_words.Given as goal

-- what is there and what is left are all words
abbrev pub invariant-loop-word : goal.invariant-loop-word
invariant-loop-word l = map (λ word. word.now) l.all.items ++ map (λ word. word.now) (drop l.word-index l.words)
    ≡ map (λ word. word.now) l.fn.all.items ++ map (λ word. word.now) l.words
