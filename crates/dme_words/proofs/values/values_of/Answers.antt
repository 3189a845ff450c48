use Rattle.dme_words.proofs.Names.{◌∙◌, found_of, raw_values-rows}
use Rattle.dme_words.proofs.values.values_of.Goals as goal

pub returns : goal.returns
returns c = c.get_strs.ensures ∙ raw_values-rows (found_of c.args.values.now) c.args.id.now
