use Rattle.std.specs.Prelude.{◌≡◌, drop, map}
use Rattle.dme_words.specs.Ordered.{controlled}
use Rattle.dme_words.proofs.words.controlled.Given as goal

abbrev pub invariant-loop-word : goal.invariant-loop-word
invariant-loop-word l = controlled (map (λ word. word.now) (drop l.word-index l.words)) ≡ controlled (map (λ word. word.now) l.words)
