use Rattle.witness_laws.proofs.Names.{◌∙◌, ◌∷◌, [], answered, ap, client_lines, Command, command_texts, Dialogue, Event, None, NotResponse, refl}
use Rattle.witness_laws.proofs.Names.{Response, Result, sending_after, server_answered, silence, Std, true}
use Rattle.witness.specs.declared.lines.SentCommand.TheVariants.{Known}
use Rattle.record_text.specs.ToldExamples.{completed}
use Rattle.witness_laws.specs.ClientExamples.{watching}
use Rattle.witness_laws.proofs.client.ExampleLines.{completed_reads, home_one, abort_one}
use Rattle.witness_laws.proofs.client.Seeing.{written_is}
use Rattle.witness_laws.proofs.client_examples.witnessed_rows.Goals as goal

pub returns-clause-read : goal.returns-clause-read
returns-clause-read c =
    ap (λ (r : Result Response NotResponse). (server_answered watching completed (answered r)).reported) completed_reads

pub returns-clause-sent : goal.returns-clause-sent
returns-clause-sent c =
    ap (λ (d : Dialogue). (client_lines d (command_texts (record { tag = Event 1; command = Command.AbortE } ∷ []))).uses)
    (written_is (silence true) (Std 1) Command.Home home_one refl)
    ∙ ap (λ (d : Dialogue). d.uses)
    (written_is (sending_after (silence true) (Std 1) (Known Command.Home) None) (Event 1) Command.AbortE abort_one refl)
