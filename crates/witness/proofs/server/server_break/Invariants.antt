use Rattle.witness.proofs.JudgementNames.{[], ◌≡◌, drop, first_break, IsCourse, IsStanding, option_or, reverse, server_rule, take}
use Rattle.witness.proofs.server.server_break.Given as goal

-- the first line that breaks a rule is the one that was found, or among those that are left
abbrev pub invariant-loop-at : goal.invariant-loop-at
invariant-loop-at l =
    (option_or l.found (first_break (server_rule l.seen l.up) (reverse (take l.at l.down)) (drop l.at l.down)) ≡ first_break (server_rule l.seen l.up) [] l.down)
    × IsCourse l.up (reverse (take l.at l.down)) l.course
    × IsStanding l.up (reverse (take l.at l.down)) l.standing
