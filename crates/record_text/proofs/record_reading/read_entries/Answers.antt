use Rattle.record_text.proofs.Names.{◌∙◌, ◌≡◌, ap, arith, Asking, FollowsLine, List, subst, Wanted}
use Rattle.record_text.proofs.EntryReads.{one_read, all_read}
use Rattle.record_text.proofs.record_reading.read_entries.Goals as goal

pub loop-line-preserved : goal.loop-line-preserved
loop-line-preserved c =
    let asked : c.deref.result.now ≡ c.args.head.now.asked = c.deref.ensures.value ∙ ap (λ (h : Asking). h.asked) c.head.view_is in
    let follows = subst (λ (ws : List Wanted). FollowsLine ws c.loop-line.body c.in-Some.line.now c.add_line.new.body) asked
    c.in_ok-add_line.ensures.follows in
    let count = c.loop-line.invariant.count in
    let shorter = c.in-Some.ensures.shorter in
    record {
      read = one_read _ _ _ _ c.in-Some.line.now c.args.above c.loop-line.number _ _ c.loop-line.body c.add_line.new.body
          c.loop-line.invariant.read c.in-Some.ensures.cut follows;
      count = omega (arith, count, shorter);
    }

pub returns-clause-read : goal.returns-clause-read
returns-clause-read c = all_read _ _ _ c.args.above c.loop-line.number _ _ c.loop-line.body c.loop-line.invariant.read c.in_default.ensures.cut
