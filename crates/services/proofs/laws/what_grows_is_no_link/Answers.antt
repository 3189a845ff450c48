use Rattle.services.proofs.Leading.{all_seen}
use Rattle.services.proofs.laws.what_grows_is_no_link.Goals as goal

pub returns : goal.returns
returns c = λ first s past o is led. (all_seen first past s o is led).1
