use Rattle.contact_ledger.specs.Lines.{whole_lines}
use Rattle.record_text.proofs.RecordFacts.{record_holds}
use Rattle.record_text.proofs.Sounds.{sound_as, found_record}
use Rattle.record_text.proofs.opening.begin_record.Goals as goal

pub continued-requires : goal.continued-requires
continued-requires c =
    let found = found_record c.args.bytes.now _ c.in-Ok-Some.found c.in-Ok-Some.field-0-is c.in-Ok-Some.ensures in
    let holds = record_holds (whole_lines c.args.bytes.now) c.in-Ok-Some.found found in
    holds.last

pub returns-in_ok-begun-in-Ok-Some-clause-sound : goal.returns-in_ok-begun-in-Ok-Some-clause-sound
returns-in_ok-begun-in-Ok-Some-clause-sound c =
    let found = found_record c.args.bytes.now _ c.in-Ok-Some.found c.in-Ok-Some.field-0-is c.in-Ok-Some.ensures in
    let begun = c.in_ok-begun-in-Ok-Some.ensures in
    let same = c.in_ok-is_same-in-Ok-Some.ensures.same in
    sound_as c.in-Ok-Some.found c.args.program.now.features c.in_ok-begun-in-Ok-Some.begun.features c.in_ok-begun-in-Ok-Some.begun.told
    (record_holds (whole_lines c.args.bytes.now) c.in-Ok-Some.found found) same.asked_is begun.features begun.told
