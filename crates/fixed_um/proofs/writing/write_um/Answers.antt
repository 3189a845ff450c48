use Rattle.fixed_um.proofs.WrittenLemmas.{written_reads_back}
use Rattle.fixed_um.proofs.writing.write_um.Goals as goal

pub returns-in_err-reserve-clause-reads_back : goal.returns-in_err-reserve-clause-reads_back
returns-in_err-reserve-clause-reads_back c limit = written_reads_back limit c.args.value

pub returns-clause-reads_back : goal.returns-clause-reads_back
returns-clause-reads_back c limit = written_reads_back limit c.args.value
