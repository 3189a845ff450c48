use Rattle.dmis_program.proofs.Names.{◌≡◌, None, offset_of, rules}
use Rattle.dmis_program.proofs.OffsetLemmas.{frames_more}
use Rattle.dmis_program.proofs.offsets.Frames.add.Goals as goal

pub invariant_of-self-2 : goal.invariant_of-self-2
invariant_of-self-2 c =
    let new : offset_of c.self.inside.entries.items c.args.name ≡ None = search rules in
    rw c.in_ok-push.ensures.items (frames_more c.self.inside.entries.items _ c.args.point c.self.invariant c.requires new)
