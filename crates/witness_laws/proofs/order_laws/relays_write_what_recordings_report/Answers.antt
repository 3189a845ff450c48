use Rattle.witness_laws.proofs.Names.{inl, inr}
use Rattle.witness_laws.proofs.orders.Arrivals.{written_came}
use Rattle.witness_laws.proofs.orders.Courses.{written_recorded, recordings_claim}
use Rattle.witness_laws.proofs.order_laws.relays_write_what_recordings_report.Goals as goal

pub returns : goal.returns
returns c = record {
  same = λ n course_is r course w all clear free recorded. elim clear [
    | inl read ↦ written_recorded c.what_is_written_was_reported.ensures n course_is r course w all read.0 read.1 free recorded
    | inr came ↦ written_came c.what_is_written_was_reported.ensures n course_is r course w all came.0 came.1 free recorded
  ];
  no_more = recordings_claim;
}
