-- Examples of reports: ledgers and reports that are written out (this profile). Lengths are in micrometres.
-- No theorem cites these definitions: they show what is reported, and how it reads.
use Rattle.std.specs.Prelude.{ℕ, pos, true, false, List, [], ◌∷◌, ◌++◌, codes}
use Rattle.std.specs.List.{flat_map}
use Rattle.fixed_um.specs.declared.lengths.Point.{Point}
use Rattle.fixed_um.specs.declared.frames.Frame.TheVariants as frame
use Rattle.contact_ledger.specs.declared.acts.Act.{Act}
use Rattle.contact_ledger.specs.declared.acts.Act.TheVariants as act
use Rattle.protocol_model.specs.Examples.{at, neg, part, tool, from_above, feature_on}
use Rattle.protocol_model.specs.LedgerRows.{contact_of}
use Rattle.protocol_model.specs.declared.states.State.{State}
use Rattle.link_world.specs.Reports.{reported}
use Rattle.link_world.specs.declared.texts.reports.Report.{Report}
use Rattle.link_world.specs.declared.texts.reports.Reported.{Reported}

-- a contact as it is reported: its number, its connection and its point
abbrev pub contact : ℕ → ℕ → Point → Reported
contact number connection point = record { number = number; connection = connection; point = point }

-- a text of these lines
abbrev pub text_of : List (List ℕ) → List ℕ
text_of lines = flat_map (λ l. l ++ 10 ∷ []) lines

-- the point that is measured of a feature of one touch
abbrev pub measured_point : Point
measured_point = at (pos 10002) (pos 20000) (pos 25000)

-- what a server did for a program of one point
abbrev pub one_point_ledger : List (ℕ × Act)
one_point_ledger =
    (1, act.HomedIs false) ∷ (1, act.Homed) ∷ (1, act.Framed frame.Machine) ∷ (1, act.Changed tool)
    ∷ (1, act.Moved (at (pos 10000) (pos 20000) (pos 30000)) frame.Machine)
    ∷ contact_of 1 (at (pos 10000) (pos 20000) (pos 25000)) from_above tool frame.Machine measured_point ∷ []

-- the report of a client that has measured it
abbrev pub one_point_report : Report
one_point_report = record {
  state = State.Done;
  counted = 6;
  features = feature_on 1 frame.Machine (codes "A") (measured_point ∷ []) ∷ [];
  contacts = reported one_point_ledger;
}

-- what a server did before it was left after the first of three touches
abbrev pub left_ledger : List (ℕ × Act)
left_ledger =
    (1, act.HomedIs false) ∷ (1, act.Homed) ∷ (1, act.Framed frame.Machine) ∷ (1, act.Changed tool)
    ∷ contact_of 1 (at (pos 1000) (pos 0) (pos 0)) from_above tool frame.Machine (at (pos 1002) (pos 0) (pos 0)) ∷ []

-- the report of a client that has left before it read of the touch
abbrev pub left_report : Report
left_report = record { state = State.Apart; counted = 4; features = []; contacts = reported left_ledger }

-- contacts on two connections, with moves between them, and the last with another target than the reported point
abbrev pub parted_ledger : List (ℕ × Act)
parted_ledger =
    (1, act.Homed) ∷ contact_of 1 (at (pos 1000) (pos 0) (pos 0)) from_above tool frame.Machine (at (pos 1002) (pos 0) (pos 0))
    ∷ (1, act.Moved (at (pos 0) (pos 0) (pos 5000)) frame.Machine)
    ∷ contact_of 1 (at (pos 0) (pos 1000) (pos 0)) from_above tool frame.Machine (at (pos 0) (pos 1000) (pos 4))
    ∷ (7, act.HomedIs true) ∷ (7, act.Framed (frame.Part part)) ∷ (7, act.Moved (at (pos 0) (pos 0) (pos 5000)) (frame.Part part))
    ∷ contact_of 7 (at (neg 1000) (pos 0) (pos 0)) from_above tool (frame.Part part) (at (neg 1001) (pos 1) (pos 0)) ∷ []

-- the report of a client of two features, the first of two points, against a server with no contacts of its own
abbrev pub featured_report : Report
featured_report = record {
  state = State.Halted;
  counted = 0;
  features = feature_on 3 frame.Machine (codes "A") (at (pos 1) (neg 1) (pos 0) ∷ at (neg 1001) (pos 12345678) (pos 999) ∷ [])
      ∷ feature_on 9 (frame.Part part) (codes "B-2") (at (pos 0) (pos 0) (neg 4000000000) ∷ []) ∷ [];
  contacts = [];
}
