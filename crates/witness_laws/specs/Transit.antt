-- The lines of such a course in another order, while further lines are on their way (this profile).
use Rattle.std.specs.Prelude.{◌≡◌, ℕ, if◌then◌else◌, List, [], ◌∷◌, ◌++◌, map}
use Rattle.contact_ledger.specs.declared.acts.Act.{Act}
use Rattle.protocol_model.specs.Ends.{ServerEnd}
use Rattle.protocol_model.specs.Lines.{reply_texts, reply_bytes}
use Rattle.server_core.specs.Calls.{Call, behind_call, Feed}
use Rattle.witness.specs.declared.lines.Reported.{Reported}
use Rattle.witness_laws.specs.Orders.{Line, Up, Down}
use Rattle.witness_laws.specs.Lockstep.{line_read, answered}
use Rattle.witness_laws.specs.Reports.{AreReportsOf}
use Rattle.server_core.specs.Serving.{may_feed}

-- the lines of both ends, in the order in which a server reads and answers them
abbrev pub lines_seen : List Call → ServerEnd → List Line
lines_seen [] e = []
lines_seen (call ∷ calls) e =
    map Up (line_read call e) ++ (map Down (reply_texts (answered call e)) ++ lines_seen calls (behind_call call e))

-- the bytes that calls feed, while the server takes any, and those that they answer
abbrev pub fed_by : Call → ServerEnd → List ℕ
fed_by (Feed bytes) e = if may_feed e then bytes else []
fed_by _ e = []

abbrev pub all_fed : List Call → ServerEnd → List ℕ
all_fed [] e = []
all_fed (call ∷ calls) e = fed_by call e ++ all_fed calls (behind_call call e)

abbrev pub all_written : List Call → ServerEnd → List ℕ
all_written [] e = []
all_written (call ∷ calls) e = reply_bytes (answered call e) ++ all_written calls (behind_call call e)

-- reports are those of the first of these acts, one for one, in order
pub record AreReportsOfFirst (reports : List Reported) (acts : List Act) : Type 0 where
  pub first : List Act
  pub others : List Act
  pub parts : acts ≡ first ++ others
  pub are : AreReportsOf reports first
