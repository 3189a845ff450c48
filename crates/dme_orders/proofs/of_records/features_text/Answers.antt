use Rattle.dme_orders.proofs.RecordLemmas.{ours_can_be_written}
use Rattle.dme_orders.proofs.of_records.features_text.Goals as goal

pub write_features-requires : goal.write_features-requires
write_features-requires c =
    ours_can_be_written c.args.program.now c.args.features.now c.features-wanted.ensures.program c.in_ok-rows_of.ensures.ours c.requires
