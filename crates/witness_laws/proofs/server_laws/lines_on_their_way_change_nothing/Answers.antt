use Rattle.witness_laws.proofs.server.Transits.{all_reported, first_reported, recorded_reported}
use Rattle.witness_laws.proofs.server_laws.lines_on_their_way_change_nothing.Goals as goal

pub returns : goal.returns
returns c = record {
  all = all_reported c.recordings_claim_no_more.ensures.any;
  first = first_reported c.recordings_claim_no_more.ensures.any c.more_lines_report_more.ensures.order;
  recordings = recorded_reported c.recordings_claim_no_more.ensures.any c.more_lines_report_more.ensures.order;
}
