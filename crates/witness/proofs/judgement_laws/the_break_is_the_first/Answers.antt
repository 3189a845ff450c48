use Rattle.witness.specs.JudgementNames.{client_rule, server_rule}
use Rattle.witness.proofs.FirstBreaks.{is_first}
use Rattle.witness.proofs.judgement_laws.the_break_is_the_first.Goals as goal

pub returns-clause-client : goal.returns-clause-client
returns-clause-client c = λ seen up down. is_first (client_rule seen up down) up

pub returns-clause-server : goal.returns-clause-server
returns-clause-server c = λ seen up down. is_first (server_rule seen up) down
