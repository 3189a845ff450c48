-- What the calls of a server do to its ledger (this profile).
use Rattle.std.specs.Prelude.{◌≡◌, ℕ, Option, Some, None, List, [], ◌∷◌, ◌++◌}
use Rattle.fixed_um.specs.Points.{point_difference}
use Rattle.fixed_um.specs.declared.lengths.Point.{Point}
use Rattle.dme_line.specs.declared.tags.Tag.{Tag}
use Rattle.dme_line.specs.declared.commands.Command.TheVariants as command
use Rattle.contact_ledger.specs.declared.acts.Act.{Act}
use Rattle.protocol_model.specs.Replies.{Reply}
use Rattle.protocol_model.specs.Lines.{reply_bytes}
use Rattle.protocol_model.specs.Claims.{MadeContact}
use Rattle.protocol_model.specs.Server.{offset}
use Rattle.protocol_model.specs.Ends.{ServerEnd, serving_machined}
use Rattle.protocol_model.specs.declared.held.Datum.TheVariants as datum
use Rattle.protocol_model.specs.declared.machine.Outcome.{Outcome}
use Rattle.protocol_model.specs.declared.machine.Outcome.TheVariants as outcome

-- a ledger with one act after it, on the connection of this number, or as it is
abbrev pub with_act : ℕ → Option Act → List (ℕ × Act) → List (ℕ × Act)
with_act n None acts = acts
with_act n (Some a) acts = acts ++ (n, a) ∷ []

-- what was appended to a ledger is at most one act, on the connection of this number
pub record IsOneMore (n : ℕ) (old new : List (ℕ × Act)) : Type 0 where
  pub act : Option Act
  pub whole : new ≡ with_act n act old

-- a contact was made as the running command asked: it is a touch with the contact's target and direction, the machine touched, the contact
-- is on the present connection, with the tool in the probe head and the selected frame, its point is the touched one as seen from the
-- frame's zero point, and the call answers the data line with this point and the touch's end, and nothing else
pub record IsCommanded (e : ServerEnd) (ended : Outcome) (made : MadeContact) : Type 0 where
  pub tag : Tag
  pub at : Point
  pub ran : e.server.running ≡ Some (record { tag = tag; command = command.PtMeas made.target made.dir })
  pub touched : ended ≡ outcome.Touched at
  pub on : made.connection ≡ e.server.last
  pub tool : e.server.tool ≡ Some made.tool
  pub frame : made.frame ≡ e.server.frame
  pub point : made.point ≡ point_difference at (offset made.frame)
  pub said : (serving_machined ended e).out ≡ e.out ++ reply_bytes (Reply.Given tag (datum.Point made.point) ∷ Reply.Done tag ∷ [])
