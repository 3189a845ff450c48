use Rattle.std.proofs.Common.{rules}
use Rattle.dme_orders.proofs.OrderLemmas.{torn_as}
use Rattle.dme_orders.proofs.of_records.audit_record.Goals as goal

pub returns-in_err-write_text : goal.returns-in_err-write_text
returns-in_err-write_text g c = torn_as _ _ _ _ c.from_residual-in_err-write_text.result (search rules) (record {
  input = record { setup = c.in_ok-held.ensures.ok.0; held = c.in_ok-held.held; program = c.in_ok-held.program };
  read = (c.in_ok-held.ensures.ok.1, c.in_ok-held.ensures.sealed);
  end = (c.in_ok-status.status, record { part = c.in_ok-part.part; missing = c.in_ok-status.missing; errors = c.in_ok-errors.errors });
  text = c.as_slice.result.now;
  leaves = record { same = search rules; verdict = search rules; lacks = search rules; errors = search rules; part = search rules };
  front = search rules;
  fails = search rules;
})
