use Rattle.watched_ends.proofs.Names.{◌≡◌, client_lines, drop, false, server_lines}
use Rattle.witness.specs.Dialogues.{silence}
use Rattle.watched_ends.proofs.turns.heard.Given as goal

-- what is left leads to the same
abbrev pub invariant-loop-line : goal.invariant-loop-line
invariant-loop-line l = client_lines l.dialogue (drop l.line-index l.up) ≡ client_lines (silence false) l.up

abbrev pub invariant-loop-line-2 : goal.invariant-loop-line-2
invariant-loop-line-2 l = server_lines l.dialogue (drop l.line-index l.down) ≡ server_lines (client_lines (silence false) l.up) l.down
