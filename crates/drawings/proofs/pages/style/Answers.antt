use Rattle.std.proofs.Common.{refl}
use Rattle.drawings.specs.Pages.{style}
use Rattle.drawings.proofs.pages.style.Goals as goal

pub returns : goal.returns
unfolding style
returns c = refl
