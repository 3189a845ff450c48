use Rattle.record_text.proofs.Names.{◌+◌, ◌≡◌, ap, drop, Telling}
use Rattle.record_text.proofs.HeadLines.{drop_item}
use Rattle.record_text.proofs.ToldLines.{told_text, told_count}
use Rattle.record_text.proofs.telling.Telling.add.Goals as goal

pub loop-act-preserved : goal.loop-act-preserved
loop-act-preserved c =
    let step = drop_item c.loop-act.act-index c.args.acts.now c.act-item.result c.loop-act-test.true c.act-item.is in
    let i = c.loop-act.invariant in
    let number : c.self.inside.connection ≡ c.loop-act.self.connection = ap (λ (t : Telling). t.connection) c.self.view_is in
    let rest = drop (c.loop-act.act-index + 1) c.args.acts.now in
    record {
      text = told_text c.args.wanted.now c.loop-act.self c.count.new.self c.self.inside.connection c.act-item.result rest c.loop-act.text.items
          c.add_entry.new.text.items c.count.new.text.items _ number c.in_ok-count.ensures
          c.in_ok-add_entry.ensures.text (rw step at i.text);
      counts = told_count c.args.wanted.now c.loop-act.self c.count.new.self _ c.act-item.result rest _ _ c.in_ok-count.ensures
          (rw step at i.counts);
      acts = λ rest. i.acts (rw step (c.in_ok-add_entry.ensures.act, rest));
    }
