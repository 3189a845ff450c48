use Rattle.std.proofs.Common.{refl}
use Rattle.dme_words.proofs.line.first_lines.Goals as goal

pub returns : goal.returns
returns c = refl
