use Rattle.fixed_um.proofs.FrontLemmas.{AreTaken}
use Rattle.fixed_um.proofs.front.cut_whole.Given as goal

abbrev pub invariant-loop-index : goal.invariant-loop-index
invariant-loop-index l = AreTaken l.text l.index l.value
