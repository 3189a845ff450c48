use Rattle.dme_line.proofs.Names.{Err, HoldsResponseText, Ok, OnErr, Result, the_response}
use Rattle.dme_line.proofs.responses.read_response.Goals as goal

on_err : {A E : Type 0} (r : Result A E) (P : Type 0) → P → OnErr r P
on_err (Ok a) P p = tt
on_err (Err e) P p = p

pub returns-in_err-mark-in-Ok-clause-memory : goal.returns-in_err-mark-in-Ok-clause-memory
returns-in_err-mark-in-Ok-clause-memory c =
    let held : HoldsResponseText c.args.line.now = (the_response c.in-Ok.cut, c.in-Ok.ensures, c.in_err-mark-in-Ok.ensures.err) in
    on_err c.from_residual.result _ held
