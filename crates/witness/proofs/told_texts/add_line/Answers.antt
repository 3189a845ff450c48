use Rattle.witness.proofs.ToldNames.{◌<◌, ◌≡◌, arith, last_number, sym}
use Rattle.witness.proofs.ToldReads.{fallen}
use Rattle.witness.proofs.told_texts.add_line.Goals as goal

pub returns-then-connection-last_number-clause-damaged : goal.returns-then-connection-last_number-clause-damaged
returns-then-connection-last_number-clause-damaged c n same =
    let read = rw c.in-Some.is at c.in_ok-connection.ensures in
    let below : c.in-Some.connection < last_number c.args.ledger.now =
    omega (arith, c.if-connection-last_number.true, c.last_number.ensures) in
    let number : c.args.number ≡ n = cc in (
      sym number,
      λ e h line low. fallen c.args.line.now (c.in-Some.connection, c.in-Some.told) e (last_number c.args.ledger.now)
          read.0 read.1 below h line low,
    )
