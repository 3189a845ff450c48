use Rattle.program_lowering.proofs.EvenLemmas.{touches_are}
use Rattle.program_lowering.proofs.words.push_touches.Goals as goal

pub returns : goal.returns
returns c =
    touches_are c.args.count.now c.args.name.now c.args.start.now c.args.out.now.items c.extend_from_slice.new.self.items
    c.extend_from_slice-2.new.self.items c.extend_from_slice-3.new.self.items c.extend_from_slice-4.new.self.items
    c.extend_from_slice-5.new.self.items c.extend_from_slice-6.new.self.items c.in_ok-extend_from_slice.ensures.items
    c.in_ok-extend_from_slice-2.ensures.items c.in_ok-extend_from_slice-3.ensures.items c.in_ok-extend_from_slice-4.ensures.items
    c.in_ok-extend_from_slice-5.ensures.items c.in_ok-extend_from_slice-6.ensures.items
