use Rattle.dme_line.proofs.ReportLemmas.{no_third_axis}
use Rattle.dme_line.proofs.settings.read_report.Goals as goal

pub returns-in_err-rest-3 : goal.returns-in_err-rest-3
returns-in_err-rest-3 c =
    rw c.from_residual-in_err-rest-3.ensures (no_third_axis _ _ _ _ _ _ c.in_ok-rest.ensures.0 c.in_ok-rest-2.ensures.0
    c.in_ok-take_mark.ensures c.in_ok-rest.ensures.1 c.in_ok-take_mark-2.ensures c.in_ok-rest-2.ensures.1 c.in_ok-take_mark-3.ensures
    c.in_err-rest-3.ensures)
