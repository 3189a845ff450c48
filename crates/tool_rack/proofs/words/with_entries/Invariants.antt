use Rattle.std.specs.Prelude.{◌≡◌, ◌++◌, drop, map}
use Rattle.tool_rack.specs.Words.{added}
use Rattle.tool_rack.proofs.words.with_entries.Given as goal

-- what is there and what is left are the words of all entries
abbrev pub invariant-loop-entry : goal.invariant-loop-entry
invariant-loop-entry l = map (λ word. word.now) l.all.items ++ added (drop l.entry-index l.entries) (map (λ word. word.now) l.words)
    ≡ map (λ word. word.now) l.fn.all.items ++ added l.entries (map (λ word. word.now) l.words)
