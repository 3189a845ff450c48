use Rattle.drawings.proofs.Escapes.{plain}
use Rattle.drawings.proofs.markup.escaped_texts_are_plain.Goals as goal

pub returns : goal.returns
returns c = plain
