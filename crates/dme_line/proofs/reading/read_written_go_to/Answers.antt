use Rattle.dme_line.proofs.NamedLemmas.{named_move}
use Rattle.dme_line.proofs.reading.read_written_go_to.Goals as goal

pub returns : goal.returns
returns c = named_move c.args.text.now c.in_ok-bytes.bytes.now c.read_written_move.result c.in_ok-bytes.ensures c.read_written_move.ensures
