use Rattle.witness.proofs.JudgementNames.{◌++◌, ◌≡◌, commands_text, drop, string_bytes}
use Rattle.witness.proofs.judgement_writing.push_commands.Given as goal

-- what is written, and the counts that are left
abbrev pub invariant-loop-at : goal.invariant-loop-at
invariant-loop-at l =
    string_bytes l.text ++ commands_text l.at (drop l.at l.counts) ≡ string_bytes l.fn.text ++ commands_text 0 l.counts
