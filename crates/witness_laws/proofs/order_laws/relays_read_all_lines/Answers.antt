use Rattle.witness_laws.proofs.orders.Courses.{read_lines, told_all}
use Rattle.witness_laws.proofs.order_laws.relays_read_all_lines.Goals as goal

pub returns : goal.returns
returns c = record { lines = read_lines; told = told_all }
