use Rattle.record_text.proofs.HeadLines.{drop_item, asked_step}
use Rattle.record_text.proofs.head_writing.add_asked.Goals as goal

pub loop-feature-preserved : goal.loop-feature-preserved
loop-feature-preserved c =
    let step = drop_item c.loop-feature.feature-index c.args.wanted.now c.feature-item.result c.loop-feature-test.true
    c.feature-item.is in
    let i = c.loop-feature.invariant in
    record {
      text = asked_step c.loop-feature.text.items c.add_wanted.new.text.items _ _ c.feature-item.result (rw step at i.text)
          c.in_ok-add_wanted.ensures.text;
      asked = λ all.
          let left = rw step at i.asked all in
          (left.0.1, λ rest. left.1 (c.in_ok-add_wanted.ensures.asked (left.0.0.some, left.0.0.few), rest));
    }
