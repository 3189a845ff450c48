use Rattle.run_session.proofs.Dues.{adds_note}
use Rattle.run_session.proofs.evidence.add_note.Goals as goal

pub returns-then-can-clause-adds : goal.returns-then-can-clause-adds
returns-then-can-clause-adds c = adds_note c.tell_note.result c.args.growth.now c.tell_note.new.self (c.args.note, c.args.text.now)
    (c.requires.said c.if-can.true) (c.requires.other c.if-can.true) c.tell_note.ensures.ok c.tell_note.ensures.err
