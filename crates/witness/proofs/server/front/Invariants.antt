use Rattle.witness.proofs.JudgementNames.{◌≡◌, drop, first_from, front, is_sought_after, reverse}
use Rattle.witness.proofs.server.front.Given as goal

abbrev pub invariant-loop-at : goal.invariant-loop-at
invariant-loop-at l =
    first_from (is_sought_after l.sought l.up (reverse l.above)) l.at (drop l.at l.up) ≡ front l.sought l.up (reverse l.above)
