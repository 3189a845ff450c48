use Rattle.dme_line.proofs.NameCutLemmas.{name_cut}
use Rattle.dme_line.proofs.reading.cut_name.Goals as goal

pub returns : goal.returns
returns c = rw (c.split_at.ensures.front, c.split_at.ensures.back, c.name_len.ensures.count) (name_cut c.args.text.now)
