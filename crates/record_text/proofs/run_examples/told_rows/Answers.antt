use Rattle.record_text.proofs.RunNames.{[], ◌++◌, ◌∷◌, ◌≡◌, Act, ap, arith, ClientEnd, codes, Connected, Leave, line_read, List, NotResponse, Ok, refl}
use Rattle.record_text.proofs.RunNames.{Response, Result, told_behind, told_between, ℕ}
use Rattle.dme_line.specs.declared.tags.Tag.TheVariants.{Std}
use Rattle.line_framing.specs.Framing.{no_bytes}
use Rattle.client_core.proofs.Readings.{one_response}
use Rattle.record_text.specs.ToldExamples.{changing, completed}
use Rattle.record_text.proofs.run_examples.told_rows.Goals as goal
use Rattle.dme_line.specs.declared.responses.Mark.{Mark}

-- the client after the line was read as a response
abbrev read_as : Result Response NotResponse → ClientEnd
read_as r = record { client = line_read (changing 3 (Act.Homed ∷ [])).client r; input = no_bytes; out = [] }

abbrev told_as : Result Response NotResponse → List (ℕ × Act)
told_as r = told_between (changing 3 (Act.Homed ∷ [])) (read_as r) ++ told_behind (Leave ∷ Connected 4 ∷ []) (read_as r)

pub returns-clause-completed : goal.returns-clause-completed
returns-clause-completed c =
    ap told_as (one_response completed (Ok (record { tag = Std 7; mark = Mark.Done })) (record {
      text = 37 ∷ [];
      tagged = omega arith;
      parts = refl;
      marked = ([], refl, refl);
    }))

pub returns-clause-connected : goal.returns-clause-connected
returns-clause-connected c = refl

pub returns-clause-restarted : goal.returns-clause-restarted
returns-clause-restarted c = refl
