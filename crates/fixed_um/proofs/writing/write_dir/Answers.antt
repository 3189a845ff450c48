use Rattle.fixed_um.proofs.WrittenLemmas.{direction_reads_back}
use Rattle.fixed_um.proofs.writing.write_dir.Goals as goal

pub returns-in_err-ok_or-clause-reads_back : goal.returns-in_err-ok_or-clause-reads_back
returns-in_err-ok_or-clause-reads_back c = direction_reads_back c.args.direction

pub returns-in_err-reserve-clause-reads_back : goal.returns-in_err-reserve-clause-reads_back
returns-in_err-reserve-clause-reads_back c = direction_reads_back c.args.direction

pub returns-clause-reads_back : goal.returns-clause-reads_back
returns-clause-reads_back c = direction_reads_back c.args.direction
