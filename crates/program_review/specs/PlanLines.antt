-- The commands of a plan that carry out statements of a program, and the lines of these (ISO 22093, I++ DME Interface version 1; the plan is
-- this profile).
use Rattle.std.specs.Prelude.{◌≡◌, ◌⊎◌, ℕ, List, [], ◌∷◌, codes, Option, Some, None, if◌then◌else◌}
use Rattle.dmis_text.specs.declared.elements.Statement.{Statement}
use Rattle.fixed_um.specs.Points.{point_opposite}
use Rattle.fixed_um.specs.declared.lengths.Point.{Point}
use Rattle.dme_line.specs.Kinds.{kind_of}
use Rattle.dme_line.specs.declared.commands.Csy.TheVariants.{MachineCsy, PartCsy}
use Rattle.dme_line.specs.declared.commands.Command.{Command}
use Rattle.dme_line.specs.declared.commands.Command.TheVariants as command
use Rattle.dmis_program.specs.Keywords.{keyword_of}
use Rattle.dmis_program.specs.Offsets.{offset_of}
use Rattle.dmis_program.specs.declared.sayings.StatementMeaning.{StatementMeaning}
use Rattle.dmis_program.specs.declared.sayings.StatementMeaning.TheVariants as said
use Rattle.protocol_model.specs.declared.plans.Planned.{Planned}
use Rattle.session_telling.specs.Sessions.{is_task}
use Rattle.program_review.specs.UnderSetup.{meaning_with}

-- the commands of a plan that carry out statements
abbrev pub statement_commands : List Planned → List Command
statement_commands [] = []
statement_commands (p ∷ ps) = if is_task (kind_of p.command) then p.command ∷ statement_commands ps else statement_commands ps

-- a statement that says this is carried out by a command, under these stored frames
abbrev pub IsCarriedBy : List (List ℕ × Point) → Option StatementMeaning → Command → Type 0
IsCarriedBy frames None c = ⊥
IsCarriedBy frames (Some (said.Goes target)) c = c ≡ command.GoTo target
IsCarriedBy frames (Some (said.Begins name count)) c = ⊥
IsCarriedBy frames (Some (said.Touches target direction)) c = c ≡ command.PtMeas target direction
IsCarriedBy frames (Some said.Ends) c = ⊥
IsCarriedBy frames (Some (said.Selects name)) c = c ≡ command.ChangeTool name
IsCarriedBy frames (Some (said.Recalls name)) c = (offset : Point) × (offset_of frames name ≡ Some offset)
    × ((c ≡ command.SetCsyTransformation (point_opposite offset)) ⊎ (c ≡ command.SetCoordSystem PartCsy))
IsCarriedBy frames (Some said.Closes) c = ⊥
IsCarriedBy frames (Some said.Passes) c = ⊥

-- one of the statements begins on this line and is carried out by a command
abbrev pub IsOn : List (List ℕ × Point) → List Statement → ℕ → Command → Type 0
IsOn frames [] line c = ⊥
IsOn frames (s ∷ statements) line c =
    ((s.line ≡ line) × IsCarriedBy frames (meaning_with (keyword_of s.word) s) c) ⊎ IsOn frames statements line c

-- a command has the line of a statement that it carries out, or none, if it selects the machine's own frame
abbrev pub HasLine : List (List ℕ × Point) → List Statement → Command → Option ℕ → Type 0
HasLine frames statements c None = c ≡ command.SetCoordSystem MachineCsy
HasLine frames statements c (Some line) = IsOn frames statements line c

-- the commands have these lines, one for one
abbrev pub HaveLines : List (List ℕ × Point) → List Statement → List Command → List (Option ℕ) → Type 0
HaveLines frames statements [] [] = Unit {0}
HaveLines frames statements [] (line ∷ lines) = ⊥
HaveLines frames statements (c ∷ cs) [] = ⊥
HaveLines frames statements (c ∷ cs) (line ∷ lines) = HasLine frames statements c line × HaveLines frames statements cs lines

-- an example: `RECALL/..` on the first line, `SNSLCT/S(P1)` on the second, `PTMEAS/CART,1,2,3` on the third
abbrev pub unlabelled : ℕ → List ℕ → List (List ℕ) → Statement
unlabelled line word params = record { line = line; label = None; word = word; params = params }

abbrev pub recalling : List ℕ → List Statement
recalling what = unlabelled 1 (codes "RECALL") (what ∷ []) ∷ (unlabelled 2 (codes "SNSLCT") (codes "S(P1)" ∷ [])
    ∷ (unlabelled 3 (codes "PTMEAS") (codes "CART" ∷ (codes "1" ∷ (codes "2" ∷ (codes "3" ∷ [])))) ∷ []))
