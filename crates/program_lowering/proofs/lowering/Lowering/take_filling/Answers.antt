use Rattle.program_lowering.proofs.Names.{rules}
use Rattle.program_lowering.proofs.EvenLemmas.{filling_first, filling_next}
use Rattle.program_lowering.proofs.lowering.Lowering.take_filling.Goals as goal

pub returns-then-self-eq0 : goal.returns-then-self-eq0
returns-then-self-eq0 c = filling_first c.args.frames.now c.args.choices c.args.self.now c.args.line c.args.filling.now (search rules)

pub returns : goal.returns
returns c =
    filling_next c.args.frames.now c.args.choices c.args.self.now c.note.new.self c.take_touches.new.self c.args.line c.args.filling.now
    c.filling.inside.end c.deref.result.now c.take_touches.result c.in_ok-note.ensures c.take_touches.ensures (search rules) (search rules)
    (search rules)
