use Rattle.witness.proofs.Courses.{both_parts, client_stays, few_stays}
use Rattle.witness.proofs.witness.Witness.read_within.Goals as goal

pub returns-in_err-read_server_lines-clause-reads : goal.returns-in_err-read_server_lines-clause-reads
returns-in_err-read_server_lines-clause-reads c =
    both_parts _ c.read_client_within.new.self c.read_server_lines.new.self c.in_ok-read_client_within.ensures.reads
    (c.in_ok-read_client_within.ensures.all c.if-branch.false) c.read_server_lines.ensures.reads

pub returns-clause-reads : goal.returns-clause-reads
returns-clause-reads c =
    both_parts _ c.read_client_within.new.self c.read_server_lines.new.self c.in_ok-read_client_within.ensures.reads
    (c.in_ok-read_client_within.ensures.all c.if-branch.false) c.read_server_lines.ensures.reads

pub returns-clause-client : goal.returns-clause-client
returns-clause-client c = λ within.
    client_stays c.read_client_within.new.self c.read_server_lines.new.self c.read_server_lines.ensures.reads
    (c.in_ok-read_client_within.ensures.all c.if-branch.false)

pub returns-clause-few : goal.returns-clause-few
returns-clause-few c = λ within. (
  few_stays c.read_client_within.new.self c.read_server_lines.new.self c.read_server_lines.ensures.reads
      (c.in_ok-read_client_within.ensures.few c.if-branch.false),
  c.in_ok-read_server_lines.ensures.few,
)
