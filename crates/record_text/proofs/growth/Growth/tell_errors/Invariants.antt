use Rattle.std.proofs.Common.{◌≡◌, map, take}
use Rattle.record_text.specs.Growths.{with_notes}
use Rattle.record_text.specs.Entries.{error_note}
use Rattle.record_text.proofs.growth.Growth.tell_errors.Given as goal

abbrev pub invariant-loop-error : goal.invariant-loop-error
invariant-loop-error l = (l.self-inside.text.items ≡ (with_notes (map error_note (take l.error-index (map (λ e. e.items) l.errors))) l.fn.self).text)
    × (l.self-inside.telling ≡ l.fn.self.telling) × (l.self-inside.told ≡ l.fn.self.told)
