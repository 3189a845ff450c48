use Rattle.witness.proofs.JudgementNames.{[], ◌≡◌, drop, first_break, reverse, take}
use Rattle.witness.specs.ClientRules.{AreAbove, client_rule}
use Rattle.witness.proofs.client.client_break.Given as goal

-- the first line that breaks a rule is among those that are left
abbrev pub invariant-loop-at : goal.invariant-loop-at
invariant-loop-at l =
    (first_break (client_rule l.both.seen.now l.both.up.now (reverse l.both.down.now)) (reverse (take l.at l.both.up.now)) (drop l.at l.both.up.now)
    ≡ first_break (client_rule l.both.seen.now l.both.up.now (reverse l.both.down.now)) [] l.both.up.now)
    × AreAbove l.both.up.now (reverse l.both.down.now) (reverse (take l.at l.both.up.now)) l.above
