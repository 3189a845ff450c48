use Rattle.dme_line.proofs.Names.{is_word, kind_name}
use Rattle.dme_line.proofs.KindLemmas.{kind_found}
use Rattle.dme_line.proofs.reading.kind_named.Goals as goal

pub returns : goal.returns
returns c = kind_found (λ kind. is_word (kind_name kind) c.args.name.now) c.find_kind.result c.find_kind.ensures
