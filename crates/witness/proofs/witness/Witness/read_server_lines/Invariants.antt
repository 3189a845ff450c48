use Rattle.witness.proofs.Names.{length, ReadsServer}
use Rattle.witness.proofs.witness.Witness.read_server_lines.Given as goal

abbrev pub invariant-loop-self : goal.invariant-loop-self
invariant-loop-self l = ReadsServer l.fn.self l.self

abbrev pub decreases-loop-self : goal.decreases-loop-self
decreases-loop-self l = length l.self.down.rest
