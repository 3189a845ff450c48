use Rattle.record_text.proofs.KeptErrors.{fits}
use Rattle.record_text.proofs.laws.errors_are_kept_in_whole_bytes.Goals as goal

pub returns-clause-whole : goal.returns-clause-whole
returns-clause-whole c text = fits 400 text
