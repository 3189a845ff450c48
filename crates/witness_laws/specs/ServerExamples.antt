-- Examples: acts, and servers and witnesses that are written out (this profile). No law cites these definitions.
use Rattle.std.specs.Prelude.{ℕ, true, List, [], ◌∷◌, ◌++◌, codes, Option, Some, None, pos, Ok}
use Rattle.fixed_um.specs.declared.lengths.Point.{Point}
use Rattle.fixed_um.specs.declared.frames.Frame.TheVariants.{Machine}
use Rattle.contact_ledger.specs.declared.acts.Act.{Act}
use Rattle.contact_ledger.specs.declared.acts.Act.TheVariants as act
use Rattle.dme_line.specs.declared.commands.Command.{Command}
use Rattle.dme_line.specs.declared.tags.Tag.TheVariants.{Std}
use Rattle.protocol_model.specs.Ends.{ServerEnd}
use Rattle.protocol_model.specs.Server.{new_server}
use Rattle.protocol_model.specs.declared.lines.Line.{Line}
use Rattle.protocol_model.specs.declared.lines.Waiting.{Waiting}

-- points of the examples
abbrev pub at : ℕ → Point
at x = record { x = pos x; y = pos 0; z = pos 0 }

-- a contact with the tool P1, in the machine's frame
abbrev pub contact : Act
contact = act.Contact (at 4) None (codes "P1") Machine (at 5)

-- a server on connection 1 in a session, with this command that runs, these that wait, and these bytes
abbrev pub serving : Option Line → List Waiting → List ℕ → ServerEnd
serving running waiting bytes = record {
  server = record (new_server []) { on = true; last = 1; session = true; running = running; waiting = waiting };
  input = record { rest = bytes; fault = None };
  out = [];
}

-- a command under the tag 00007, as it runs, and as it waits
abbrev pub runs : Command → Option Line
runs c = Some (record { tag = Std 7; command = c })

abbrev pub waits : Command → List Waiting
waits c = record { tag = Std 7; reading = Ok c } ∷ []

-- a line with its end
abbrev pub line : List ℕ → List ℕ
line text = text ++ 13 ∷ 10 ∷ []
