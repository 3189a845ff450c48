use Rattle.std.proofs.Common.{◌≡◌, ◌++◌, [], ℕ, List, length}
use Rattle.session_telling.specs.Dialogues.{Reported, ReportsLines}
use Rattle.session_telling.proofs.dialogues.Dialogue.hear.Given as goal

-- what the lines that are left report, all of them report
abbrev pub invariant-loop-line : goal.invariant-loop-line
invariant-loop-line l = (final : List Reported) (rest : List ℕ) → ReportsLines l.fn.self.sent l.rest l.reports.items final rest
    → ReportsLines l.fn.self.sent (l.fn.self.hearing ++ l.bytes) [] final rest

abbrev pub decreases-loop-line : goal.decreases-loop-line
decreases-loop-line l = length l.rest
