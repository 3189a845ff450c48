use Rattle.dme_words.proofs.Names.{◌++◌, ◌≡◌, length, map}
use Rattle.std.specs.Prelude.{string_bytes}
use Rattle.dme_words.proofs.values.copied_texts.Given as goal

abbrev pub invariant-loop-left : goal.invariant-loop-left
invariant-loop-left l = map string_bytes l.copies.items ++ map (λ text. text.now) l.left ≡ map (λ text. text.now) l.fn.texts

abbrev pub decreases-loop-left : goal.decreases-loop-left
decreases-loop-left l = length l.left
