use Rattle.std.proofs.Common.{rules}
use Rattle.watched_ends.proofs.Names.{[], ◌++◌, ◌∷◌, AreLast, AreTaken, arith, length, subst, sym}
use Rattle.watched_ends.proofs.TurnLemmas.{answer_is, taken_down, taken_other, other_is}
use Rattle.watched_ends.proofs.turns.read_one.Goals as goal

pub returns-in_ok-server_line-in-Ok-clause-taken : goal.returns-in_ok-server_line-in-Ok-clause-taken
returns-in_ok-server_line-in-Ok-clause-taken c = λ down taken.
    subst (AreTaken c.args.up.now c.in_ok-read-in-Ok.read (down ++ c.args.line.now ∷ [])) (sym c.in_ok-server_line-in-Ok.ensures.ok)
    (taken_down c.args.up.now c.args.later.now.quiet c.in_ok-read-in-Ok.read down c.read_for.new.dialogue c.args.line.now c.in-Ok.response.tag _
    (c.in_ok-read-in-Ok.ensures.taken down taken) c.requires.quiet (omega (arith, c.requires.read, c.in_ok-read-in-Ok.ensures.later))
    (answer_is c.args.line.now c.in-Ok.response.tag _ c.in-Ok.ensures)
    c.in_ok-read-in-Ok.ensures.behind (c.is_unclear.ensures c.args.up.now
    (subst (AreLast c.args.up.now (length c.args.up.now)) (sym c.as_slice-places.ensures.value) c.requires.last) (search rules)))

pub returns-in_ok-server_line-in-Err-clause-taken : goal.returns-in_ok-server_line-in-Err-clause-taken
returns-in_ok-server_line-in-Err-clause-taken c = λ down taken.
    subst (AreTaken c.args.up.now c.args.next (down ++ c.args.line.now ∷ [])) (sym c.in_ok-server_line-in-Err.ensures.ok)
    (taken_other c.args.up.now c.args.later.now.quiet c.args.next down c.args.dialogue.now c.args.line.now c.in-Err.field-0 taken
    c.requires.quiet c.requires.read (other_is c.args.line.now c.in-Err.field-0 c.in-Err.ensures))
