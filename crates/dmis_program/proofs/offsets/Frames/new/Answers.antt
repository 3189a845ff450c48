use Rattle.dmis_program.proofs.offsets.Frames.new.Goals as goal

pub invariant_of-result : goal.invariant_of-result
invariant_of-result c = rw c.new.ensures.items (record { once = tt; within = tt })
