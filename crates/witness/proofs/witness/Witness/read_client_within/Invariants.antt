use Rattle.witness.proofs.Names.{length, ReadsClient, ReadsWithin}
use Rattle.witness.proofs.witness.Witness.read_client_within.Given as goal

abbrev pub invariant-loop-self : goal.invariant-loop-self
invariant-loop-self l = ReadsClient l.fn.self l.self × ReadsWithin l.most l.fn.self l.self

abbrev pub decreases-loop-self : goal.decreases-loop-self
decreases-loop-self l = length l.self.up.rest
