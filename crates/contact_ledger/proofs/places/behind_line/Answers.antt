use Rattle.contact_ledger.proofs.places.behind_line.Goals as goal

pub returns-in-Start-clause-next : goal.returns-in-Start-clause-next
returns-in-Start-clause-next c = rw c.in-Start.is (c.behind_header.ensures.next c.args.features.now)

pub returns-in-Start-clause-sound : goal.returns-in-Start-clause-sound
returns-in-Start-clause-sound c = c.behind_header.ensures.sound c.args.features.now

pub returns-in-Start-clause-damaged : goal.returns-in-Start-clause-damaged
returns-in-Start-clause-damaged c = rw c.in-Start.is c.behind_header.ensures.damaged

pub returns-in-Between-clause-next : goal.returns-in-Between-clause-next
returns-in-Between-clause-next c = rw c.in-Between.is (c.behind_opening.ensures.next c.args.features.now)

pub returns-in-Between-clause-sound : goal.returns-in-Between-clause-sound
returns-in-Between-clause-sound c = c.behind_opening.ensures.sound c.args.features.now

pub returns-in-Between-clause-damaged : goal.returns-in-Between-clause-damaged
returns-in-Between-clause-damaged c = rw c.in-Between.is c.behind_opening.ensures.damaged

pub returns-then-len-opening-clause-next : goal.returns-then-len-opening-clause-next
returns-then-len-opening-clause-next c = rw c.in-Within.is (c.behind_point.ensures.next c.args.features.now)

pub returns-then-len-opening-clause-sound : goal.returns-then-len-opening-clause-sound
returns-then-len-opening-clause-sound c = c.behind_point.ensures.sound c.args.features.now
