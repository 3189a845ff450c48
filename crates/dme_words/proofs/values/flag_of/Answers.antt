use Rattle.dme_words.proofs.Names.{found_of, one_text-rows, rows_of}
use Rattle.dme_words.proofs.NumberLemmas.{flag_reads}
use Rattle.dme_words.proofs.values.flag_of.Goals as goal

pub returns : goal.returns
returns c = flag_reads c.args.id.now (rows_of (found_of c.args.values.now)) _ c.get_flag.result
    (one_text-rows (found_of c.args.values.now) c.args.id.now) c.requires c.get_flag.ensures.value c.get_flag.ensures.other
