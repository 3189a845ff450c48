use Rattle.dme_line.proofs.HomedLemmas.{read_by_call}
use Rattle.dme_line.proofs.homed.read_homed.Goals as goal

pub returns-in-Err : goal.returns-in-Err
returns-in-Err c = read_by_call c.args.text.now c.said_by_call.result c.in-Err.ensures.err c.said_by_call.ensures.ok
    c.said_by_call.ensures.err
