use Rattle.std.proofs.Common.{◌≡◌, ◌++◌, drop}
use Rattle.dmis_text.proofs.elements.owned_texts.Given as goal

abbrev pub invariant-loop-text : goal.invariant-loop-text
invariant-loop-text l = l.made.items ++ drop l.text-index l.others ≡ l.fn.texts.items ++ l.others
