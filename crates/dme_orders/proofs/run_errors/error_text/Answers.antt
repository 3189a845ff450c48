use Rattle.dme_orders.proofs.run_errors.error_text.Goals as goal

pub returns : goal.returns
returns c = rw (c.in_ok-shown.ensures, c.as_bytes.ensures) at c.format.ensures.ok
