use Rattle.contact_ledger.proofs.WrittenTexts.{features_step, drop_item}
use Rattle.contact_ledger.proofs.feature_writing.add_features.Goals as goal

pub add_feature-requires : goal.add_feature-requires
add_feature-requires c = (rw (drop_item c.loop-feature.feature-index c.args.features.now c.feature-item.result c.loop-feature-test.true
    c.feature-item.is) at c.loop-feature.invariant.owed).0

pub loop-feature-preserved : goal.loop-feature-preserved
loop-feature-preserved c =
    let step = drop_item c.loop-feature.feature-index c.args.features.now c.feature-item.result c.loop-feature-test.true
    c.feature-item.is in
    let i = c.loop-feature.invariant in
    record {
      text = features_step c.loop-feature.text.items c.add_feature.new.text.items _ _ c.feature-item.result (rw step at i.text)
          c.in_ok-add_feature.ensures.text;
      features = λ rest. i.features (rw step (c.in_ok-add_feature.ensures.feature, rest));
      owed = (rw step at i.owed).1;
    }
