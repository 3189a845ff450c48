use Rattle.dmis_text.proofs.Bare.{bare_capitals, bare_unquoted}
use Rattle.dmis_text.proofs.elements.Statement.split_bare.Goals as goal

pub split_as-requires-clause-capitals : goal.split_as-requires-clause-capitals
split_as-requires-clause-capitals c = λ _. bare_capitals c.args.text.now c.requires.bare

pub split_as-requires-clause-bare : goal.split_as-requires-clause-bare
split_as-requires-clause-bare c = λ _. bare_unquoted c.args.text.now c.requires.bare
