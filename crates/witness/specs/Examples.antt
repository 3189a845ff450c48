-- Examples: lines of a client and of a server as values (this profile). No contract but theirs cites these definitions.
use Rattle.std.specs.Prelude.{ℕ, Bool, false, List, [], ◌∷◌, ◌++◌, codes, reverse, Option, Some, None, Ok, pos}
use Rattle.fixed_um.specs.declared.frames.Frame.{Frame}
use Rattle.fixed_um.specs.declared.lengths.Point.{Point}
use Rattle.dme_line.specs.declared.commands.Command.{Command}
use Rattle.dme_line.specs.declared.commands.Command.TheVariants as command
use Rattle.dme_line.specs.declared.commands.Csy.TheVariants.{MachineCsy, PartCsy}
use Rattle.dme_line.specs.declared.tags.Tag.TheVariants.{Std, Event}
use Rattle.contact_ledger.specs.declared.acts.Act.{Act}
use Rattle.contact_ledger.specs.declared.acts.Act.TheVariants as act
use Rattle.witness.specs.Asking.{Line, Sends, Answers, Signal, Ack, Given, Done, Error}
use Rattle.witness.specs.Rules.{all_reported}
use Rattle.witness.specs.declared.lines.Reported.{Reported}
use Rattle.witness.specs.declared.lines.Reported.TheVariants as reports
use Rattle.witness.specs.declared.lines.SentCommand.{SentCommand}
use Rattle.witness.specs.declared.lines.SentCommand.TheVariants as sends

-- ---- what is known of each contact

abbrev pub of_act : Act → List (Option (List ℕ) × Option Frame)
of_act (act.Contact p d tool frame at) = (Some tool, Some frame) ∷ []
of_act _ = []

abbrev pub of_one : Reported → List (Option (List ℕ) × Option Frame)
of_one (reports.Did a) = of_act a
of_one (reports.Touched p d tool frame at) = (tool, frame) ∷ []
of_one _ = []

abbrev pub of_each : List Reported → List (Option (List ℕ) × Option Frame)
of_each [] = []
of_each (r ∷ rs) = of_one r ++ of_each rs

abbrev pub joined : List (List Line) → List Line
joined [] = []
joined (some ∷ more) = some ++ joined more

-- of lines in the order in which they came
abbrev pub known_in : Bool → List (List Line) → List (Option (List ℕ) × Option Frame)
known_in ordered lines = of_each (all_reported ordered (reverse (joined lines)))

-- ---- lines

abbrev pub point : ℕ → Point
point x = record { x = pos x; y = pos 0; z = pos 0 }

-- the client sends a command under a tag
abbrev pub asks : ℕ → Command → List Line
asks n c = Sends [] (Some (Std n, sends.Known c)) ∷ []

abbrev pub tool : ℕ → List Line
tool n = asks n (command.ChangeTool (codes "P1"))

abbrev pub other_tool : ℕ → List Line
other_tool n = asks n (command.ChangeTool (codes "P2"))

abbrev pub machine : ℕ → List Line
machine n = asks n (command.SetCoordSystem MachineCsy)

abbrev pub part : ℕ → List Line
part n = asks n (command.SetCoordSystem PartCsy)

abbrev pub zero_point : ℕ → ℕ → List Line
zero_point n x = asks n (command.SetCsyTransformation (point x))

abbrev pub touch : ℕ → List Line
touch n = asks n (command.PtMeas (point 4) None)

abbrev pub foreign : ℕ → List Line
foreign n = Sends (codes "x") (Some (Std n, sends.Foreign (codes "x"))) ∷ []

abbrev pub asking : ℕ → List Line
asking n = Sends [] (Some (Std n, sends.Asking)) ∷ []

abbrev pub event : ℕ → SentCommand → List Line
event n what = Sends (codes "x") (Some (Event n, what)) ∷ []

abbrev pub untagged : List Line
untagged = Sends (codes "x") None ∷ []

-- the server answers
abbrev pub hears : ℕ → Signal → List Line
hears n signal = Answers (codes "z") (Some (Std n, signal)) ∷ []

abbrev pub hears_event : ℕ → Signal → List Line
hears_event n signal = Answers (codes "z") (Some (Event n, signal)) ∷ []

abbrev pub given : Signal
given = Given (Ok (point 5)) (Ok false)

abbrev pub ack : ℕ → List Line
ack n = hears n Ack

abbrev pub gives : ℕ → List Line
gives n = hears n given

abbrev pub ends : ℕ → List Line
ends n = hears n Done

abbrev pub fails : ℕ → List Line
fails n = hears n Error

abbrev pub done : ℕ → List Line
done n = ack n ++ ends n

abbrev pub touched : ℕ → List Line
touched n = ack n ++ (gives n ++ ends n)

abbrev pub no_response : List Line
no_response = Answers (codes "z") None ∷ []

-- the tool P1 and the machine's frame, under the tags 1 and 2, with their answers
abbrev pub ready : List Line
ready = tool 1 ++ (machine 2 ++ (done 1 ++ done 2))

-- ---- what is known

abbrev pub both : Option (List ℕ) × Option Frame
both = (Some (codes "P1"), Some Frame.Machine)

abbrev pub neither : Option (List ℕ) × Option Frame
neither = (None, None)
