-- Examples of recordings: clients that are written out, and their records (this profile). No law cites these definitions.
use Rattle.std.specs.Prelude.{ℕ, pos, true, false, List, [], ◌∷◌, codes, Option, None, Some}
use Rattle.fixed_um.specs.declared.frames.Frame.TheVariants.{Machine}
use Rattle.contact_ledger.specs.declared.acts.Act.{Act}
use Rattle.contact_ledger.specs.declared.acts.Act.TheVariants as act
use Rattle.contact_ledger.specs.declared.features.Feature.{Feature}
use Rattle.dmis_program.specs.Meaning.{Meaning}
use Rattle.dmis_program.specs.declared.features.Touch.{Touch}
use Rattle.protocol_model.specs.Client.{new_client, no_tally}
use Rattle.protocol_model.specs.Ends.{ClientEnd, new_client_end}
use Rattle.protocol_model.specs.declared.states.State.{State}
use Rattle.record_text.specs.Growths.{Growth, begun}

-- a touch on the x axis, without a direction
abbrev pub touch : Touch
touch = record { target = record { x = pos 1000; y = pos 0; z = pos 0 }; dir = None; tool = codes "P1"; frame = Machine }

-- a program that wants one feature, of two such touches
abbrev pub program : Meaning
program = record { features = record { label = codes "C"; touches = touch ∷ touch ∷ [] } ∷ []; steps = [] }

-- a contact that serves the touch
abbrev pub contact : Act
contact = act.Contact touch.target None (codes "P1") Machine (record { x = pos 1002; y = pos 0; z = pos 0 })

-- a client of that program on connection 3 that has counted these acts, and is halted
abbrev pub halted : List Act → List Feature → ClientEnd
halted counted features = record (new_client_end program [] 1) {
  client = record (new_client program [] 1) {
    on = true;
    last = 3;
    state = State.Halted;
    table = record {
      standard = [];
      event = [];
      tally = record (no_tally 3 features) { session = true; counted = counted };
    };
  };
}

-- a record on connection 3 in which nothing has its lines yet
abbrev pub empty : Growth
empty = begun 3 0 0 []

-- the feature that the two contacts complete
abbrev pub feature : Feature
feature = record {
  label = codes "C";
  points = record { x = pos 1002; y = pos 0; z = pos 0 } ∷ record { x = pos 1002; y = pos 0; z = pos 0 } ∷ [];
  origin = None;
}
