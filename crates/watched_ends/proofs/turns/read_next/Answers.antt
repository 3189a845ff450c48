use Rattle.watched_ends.proofs.Names.{[], ◌+◌, ◌∙◌, AreTaken, Err, Ok, OnOk, Result, subst, sym}
use Rattle.watched_ends.proofs.PlaceLemmas.{same_item}
use Rattle.watched_ends.proofs.TurnLemmas.{taken_up}
use Rattle.watched_ends.proofs.turns.read_next.Goals as goal

if_ok : {A E P Q : Type 0} (r : Result A E) → OnOk r P → (P → Q) → OnOk r Q
if_ok (Ok x) p f = f p
if_ok (Err e) p f = tt

pub returns : goal.returns
returns c = λ down taken.
    let there = sym (same_item c.args.up.now c.args.next [] c.index-up-next.result c.requires ∙ sym c.index-up-next.is ∙ sym c.as_slice.ensures.bytes) in
    if_ok c.client_line.result c.client_line.ensures.ok (λ new_is.
    subst (AreTaken c.args.up.now (c.args.next + 1) down) (sym new_is)
    (taken_up c.args.up.now c.args.next down c.args.dialogue.now c.as_slice.result.now taken there c.requires))
