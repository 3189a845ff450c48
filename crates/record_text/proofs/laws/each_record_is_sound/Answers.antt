use Rattle.contact_ledger.specs.Lines.{whole_lines}
use Rattle.record_text.proofs.RecordFacts.{record_holds}
use Rattle.record_text.proofs.laws.each_record_is_sound.Goals as goal

pub returns : goal.returns
returns c bytes r h = record_holds (whole_lines bytes) r h
