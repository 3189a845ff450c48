use Rattle.record_text.proofs.Names.{◌+◌, ◌<◌, ◌∙◌, ◌≡◌, ◌≤◌, ap, arith, is_contact, length, List, ltb-true, refl, sym, Touch, true}
use Rattle.std.proofs.lemmas.Option.{slice_get_read}
use Rattle.record_text.proofs.ToldLines.{counts_last}
use Rattle.record_text.proofs.telling.Telling.count.Goals as goal
use Rattle.record_text.proofs.telling.Telling.count.Goals.{else-self-count-via-then-self-count+else-count-self-gt1, else-self-count-via-else-self-count}

pub returns : goal.returns
returns c =
    let touch : is_contact c.args.act.now ≡ true = sym c.is_contact.ensures ∙ c.if-not-is_contact.false in
    let found = c.in-Some.ensures.lookup in
    let within : c.self.inside.features < length c.args.wanted.now = ltb-true _ _ (sym found.0) in
    let long : length c.as_slice-count.result.now ≡ length c.in-Some.next.now.touches =
    ap (λ (ts : List Touch). length ts) c.as_slice-count.ensures in
    let enough : length c.in-Some.next.now.touches ≤ c.self.inside.points + 1 = elim c.else-self-count.branch [
      | else-self-count-via-then-self-count+else-count-self-gt1 w ↦ omega (arith, w.if-self-count.true, w.if-count-self-gt1.false, long)
      | else-self-count-via-else-self-count w ↦ omega (arith, w.if-self-count.false, long)
    ] in
    rw (← c.self.view_is) (counts_last c.args.wanted.now c.self.inside.connection c.self.inside.features c.self.inside.points
    c.args.act.now c.in-Some.next.now _ _ touch (slice_get_read c.args.wanted.now _ c.self.inside.features _ refl within found.1) enough
    c.in_ok-add_completed.ensures)
