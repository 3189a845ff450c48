use Rattle.std.proofs.Common.{refl}
use Rattle.program_review.proofs.examples.places_have_two_lines.Goals as goal

pub returns : goal.returns
returns c = record { whole = refl }
