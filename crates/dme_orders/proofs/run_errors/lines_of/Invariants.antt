use Rattle.dme_orders.proofs.Names.{◌++◌, ◌≡◌, drop, flat_map, string_bytes}
use Rattle.dme_orders.specs.RunErrors.{error_line}
use Rattle.dme_orders.proofs.run_errors.lines_of.Given as goal

abbrev pub invariant-loop-error : goal.invariant-loop-error
invariant-loop-error l = string_bytes l.text ++ flat_map error_line (drop l.error-index l.errors) ≡ flat_map error_line l.errors
