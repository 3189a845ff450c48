-- Sound features are the first of the program, and the window is one, so the client is made.
use Rattle.dme_c.proofs.Names.{◌&&◌, ◌∙◌, ◌≡◌, ap, are_ours, Bool, false≢true}
use Rattle.dme_c.proofs.Ours.{sound_are_ours}
use Rattle.dme_c.proofs.record_making.continued.Goals as goal

pub unreachable-requires : goal.unreachable-requires
unreachable-requires c = false≢true (c.in-Err.ensures.can.1
    (ap (λ (b : Bool). b && are_ours c.args.program.features c.args.features) c.requires.window ∙ sound_are_ours _ _ _ c.requires.sound))
