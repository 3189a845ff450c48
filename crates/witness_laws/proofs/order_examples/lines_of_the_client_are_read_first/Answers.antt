use Rattle.witness_laws.proofs.Names.{[], fault_in, next_of, refl, stream_end, sym}
use Rattle.witness_laws.specs.OrderExamples.{home, received}
use Rattle.witness_laws.proofs.orders.Arrivals.{whole_none}
use Rattle.witness_laws.proofs.orders.Readings.{home_line, received_line, line_stream, line_whole}
use Rattle.witness_laws.proofs.order_examples.lines_of_the_client_are_read_first.Goals as goal

pub returns-clause-read : goal.returns-clause-read
returns-clause-read c = λ read. refl

pub returns-clause-came : goal.returns-clause-came
returns-clause-came c = λ read. rw (whole_none, line_whole home home_line, line_whole received received_line) refl

pub returns-clause-whole : goal.returns-clause-whole
returns-clause-whole c = record {
  up_rest = [];
  up_fault = fault_in (next_of []);
  up_lines = line_stream home home_line;
  down_rest = [];
  down_fault = fault_in (next_of []);
  down_lines = line_stream received received_line;
}

pub returns-clause-either : goal.returns-clause-either
returns-clause-either c = record {
  up_rest = [];
  up_fault = fault_in (next_of []);
  up_lines = line_stream home home_line;
  down_rest = [];
  down_fault = fault_in (next_of []);
  down_lines = line_stream received received_line;
}

pub returns-clause-missed : goal.returns-clause-missed
returns-clause-missed c = λ lines. lines.down_lines.no_more received [] received_line (sym lines.down_lines.parts)

pub returns-clause-torn : goal.returns-clause-torn
returns-clause-torn c = record {
  up_rest = home;
  up_fault = fault_in (next_of home);
  up_lines = stream_end home refl;
  down_rest = [];
  down_fault = fault_in (next_of []);
  down_lines = stream_end [] refl;
}
