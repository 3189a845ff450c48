use Rattle.std.proofs.lemmas.Slice.Eq.{strip_prefix_is}
use Rattle.record_text.proofs.RecordFields.{byte_test}
use Rattle.record_text.proofs.entry_reading.after_prefix.Goals as goal

pub returns : goal.returns
returns c = strip_prefix_is byte_test c.args.text.now c.args.prefix.now c.strip_prefix.result c.strip_prefix.ensures.cases
