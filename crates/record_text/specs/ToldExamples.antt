-- Examples of reported acts: clients that are written out, and what calls report to them (this profile). No law cites these definitions.
use Rattle.std.specs.Prelude.{ℕ, true, List, [], ◌∷◌, ◌++◌, codes, None}
use Rattle.contact_ledger.specs.declared.acts.Act.{Act}
use Rattle.contact_ledger.specs.declared.acts.Act.TheVariants as act
use Rattle.dme_line.specs.declared.commands.Command.TheVariants as command
use Rattle.dme_line.specs.declared.commands.Kind.TheVariants as kind
use Rattle.dme_line.specs.declared.tags.Tag.TheVariants.{Std}
use Rattle.dmis_program.specs.Meaning.{Meaning, meaning_with}
use Rattle.protocol_model.specs.Client.{new_client, no_tally}
use Rattle.protocol_model.specs.Ends.{ClientEnd}
use Rattle.protocol_model.specs.Plan.{planned}
use Rattle.protocol_model.specs.declared.held.Stage.{Stage}
use Rattle.protocol_model.specs.declared.plans.Does.{Does}
use Rattle.protocol_model.specs.declared.states.State.{State}

-- the program without statements
abbrev pub empty : Meaning
empty = meaning_with []

-- the line that completes the command under the tag 00007
abbrev pub completed : List ℕ
completed = codes "00007 %"

-- a client on the connection of this number that has counted these acts; a change to the tool P1 is received, and the line that completes
-- it has come
abbrev pub changing : ℕ → List Act → ClientEnd
changing n counted = record {
  client = record (new_client empty [] 1) {
    on = true;
    last = n;
    state = State.Running;
    table = record {
      standard = record { tag = Std 7; kind = kind.ChangeTool; stage = Stage.Received } ∷ [];
      event = [];
      tally = record (no_tally n []) {
        counted = counted;
        todo = planned (command.ChangeTool (codes "P1")) (Does.Changes (codes "P1")) ∷ planned command.EndSession Does.Nothing ∷ [];
      };
    };
  };
  input = record { rest = completed ++ 13 ∷ 10 ∷ []; fault = None };
  out = [];
}
