use Rattle.std.proofs.Common.{rules, refl}
use Rattle.record_text.proofs.Pads.{is_padded}
use Rattle.record_text.proofs.macs.padded.Goals as goal

pub returns : goal.returns
returns c = is_padded c.args.byte c.loop-of_key.of_key-index c.args.key.now c.loop-of_key.pad.items c.split_at.result.1.now c.as_slice.result.now
    c.extend_from_slice.new.self.items c.loop-of_key.invariant (search rules) (search rules) c.split_at.ensures.back (search rules)
