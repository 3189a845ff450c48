use Rattle.dme_words.proofs.Names.{length}
use Rattle.dme_words.proofs.values.+push_answers.Given as goal

abbrev pub decreases-push_answers : goal.decreases-push_answers
decreases-push_answers l = length l.words.now
