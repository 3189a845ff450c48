use Rattle.dme_words.proofs.Names.{◌∙◌, first_value-rows, found_of}
use Rattle.dme_words.proofs.values.value_of.Goals as goal

pub returns : goal.returns
returns c = c.get_str.ensures ∙ first_value-rows (found_of c.args.values.now) c.args.id.now
