use Rattle.watched_ends.proofs.Names.{AreTaken, arith, length, List, subst, take, take_all, ℕ}
use Rattle.watched_ends.proofs.TurnLemmas.{all_taken}
use Rattle.watched_ends.proofs.turns.heard_in_turn.Goals as goal

pub returns : goal.returns
returns c =
    let read = c.in_ok-read_to-2.ensures (take c.loop-line.line-index c.args.down.now) c.loop-line.invariant.0 in
    all_taken c.args.up.now c.args.down.now c.read_to-2.new.dialogue
    (subst (λ (l : List (List ℕ)). AreTaken c.args.up.now (length c.args.up.now) l c.read_to-2.new.dialogue)
    (take_all c.loop-line.line-index c.args.down.now (omega (arith, c.loop-line-test.false))) read)
