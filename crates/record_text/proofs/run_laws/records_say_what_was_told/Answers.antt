use Rattle.record_text.proofs.Killed.{says_what_was_told}
use Rattle.record_text.proofs.run_laws.records_say_what_was_told.Goals as goal

pub returns : goal.returns
returns c = says_what_was_told
