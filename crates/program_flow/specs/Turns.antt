-- How the code holds a turn: no public clause cites it.
use Rattle.std.specs.Prelude.{ℕ, Bool, List, ◌∷◌, drop, Option, Some, None, if◌then◌else◌}
use Rattle.dmis_text.specs.declared.elements.Statement.{Statement}
use Rattle.program_flow.specs.Blocks.{around}
use Rattle.program_flow.specs.Flow.{Control, Header, Turn, assigns, first_text, next_text, to}
use Rattle.program_flow.specs.Flow.Turn.{Stops, Passes, Gives}
use Rattle.program_flow.specs.declared.blocks.Block.{Block}
use Rattle.program_flow.specs.declared.blocks.Move.{Move}
use Rattle.program_flow.specs.declared.blocks.Move.TheVariants.{Stay, Enter, Leave, Jump}
use Rattle.program_flow.specs.declared.turns.Turned.{Turned}
use Rattle.program_flow.specs.declared.turns.Turned.TheVariants as code
use Rattle.program_flow.specs.declared.turns.Header as code_header

-- where a move leads
abbrev pub moved : List Block → Move → Control
moved blocks (Stay place) = to place blocks
moved blocks (Enter b) = to b.start (b ∷ blocks)
moved blocks (Leave place) = to place (drop 1 blocks)
moved blocks (Jump place) = to place (around place blocks)

abbrev pub passed : List Block → Statement → Option Move → Turn
passed blocks s None = Stops s
passed blocks s (Some move) = Passes (moved blocks move)

abbrev pub seen_header : code_header.Header → Header
seen_header h = record { name = h.name.now; first = h.first.now; limit = h.limit.now; step = h.step.now }

abbrev pub assigned_text : code_header.Header → Bool → List ℕ
assigned_text h again = if again then next_text (seen_header h) else first_text (seen_header h)

abbrev pub turned : List Block → Statement → Option Turned → Turn
turned blocks s None = Stops s
turned blocks s (Some (code.Passes move)) = Passes (moved blocks move)
turned blocks s (Some (code.Gives move)) = Gives s (moved blocks move)
turned blocks s (Some (code.Assigns h again move)) = assigns s (assigned_text h again) (moved blocks move)
