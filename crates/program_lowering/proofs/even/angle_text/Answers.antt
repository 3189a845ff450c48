use Rattle.program_lowering.proofs.EvenLemmas.{angle_is}
use Rattle.program_lowering.proofs.even.angle_text.Goals as goal

pub returns : goal.returns
returns c =
    angle_is c.args.count c.args.touch c.in_ok-text.text.items c.push_number.new.out.items c.extend_from_slice.new.self.items
    c.push_number-2.new.out.items c.in_ok-text.ensures.items c.in_ok-push_number.ensures c.in_ok-extend_from_slice.ensures.items
    c.in_ok-push_number-2.ensures
