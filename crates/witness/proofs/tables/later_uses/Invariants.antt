use Rattle.witness.proofs.JudgementNames.{◌-◌, AreFirst, AreNext, length}
use Rattle.witness.proofs.tables.later_uses.Given as goal

-- the lines from a place on were noted
abbrev pub invariant-loop-passed : goal.invariant-loop-passed
invariant-loop-passed l =
    AreFirst l.up (length l.up - l.passed) l.first.items × AreNext l.up (length l.up - l.passed) l.next.items
