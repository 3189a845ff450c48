use Rattle.std.proofs.Common.{◌++◌, ℕ, List, length}
use Rattle.session_telling.specs.Dialogues.{SendsLines}
use Rattle.session_telling.specs.declared.sessions.Sent.{Sent}
use Rattle.session_telling.proofs.dialogues.Dialogue.send.Given as goal

-- what the lines that are left lead to, all of them lead to
abbrev pub invariant-loop-line : goal.invariant-loop-line
invariant-loop-line l = (final : List Sent) (rest : List ℕ) → SendsLines l.rest l.self-inside.1.0 final rest
    → SendsLines (l.fn.self.sending ++ l.bytes) l.fn.self.sent final rest

abbrev pub decreases-loop-line : goal.decreases-loop-line
decreases-loop-line l = length l.rest
