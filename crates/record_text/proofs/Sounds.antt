-- What a record gives a run is sound for the program that is run.
use Rattle.std.proofs.Common.{◌≡◌, ℕ, List, subst, sym, Option, Some, Ok}
use Rattle.contact_ledger.specs.declared.acts.Act.{Act}
use Rattle.contact_ledger.specs.declared.features.Feature.{Feature}
use Rattle.dmis_program.specs.declared.features.Wanted.{Wanted}
use Rattle.protocol_model.specs.Claims.{Sound}
use Rattle.record_text.specs.Records.{Recorded, IsRecorded}
use Rattle.record_text.specs.Reading.{IsRecord, ReadsRecord}

pub sound_as : (r : Recorded) (wanted : List Wanted) (features : List Feature) (told : List (ℕ × Act)) → IsRecorded r → r.asked ≡ wanted
    → features ≡ r.features → told ≡ r.told → Sound wanted features told
sound_as r wanted features told h a f t =
    subst (λ (ws : List Wanted). Sound ws features told) a (subst (λ (fs : List Feature). Sound r.asked fs told) (sym f)
    (subst (λ (l : List (ℕ × Act)). Sound r.asked r.features l) (sym t) h.sound))

-- what was read is a record
pub found_record : (bytes : List ℕ) (x : Option Recorded) (r : Recorded) → x ≡ Some r → ReadsRecord bytes (Ok x) → IsRecord bytes r
found_record bytes x r e h = subst (λ (y : Option Recorded). ReadsRecord bytes (Ok y)) e h
