use Rattle.std.proofs.Common.{◌≡◌, ◌||◌, drop}
use Rattle.session_telling.specs.Arriving as spec
use Rattle.session_telling.proofs.arriving.line_came.Given as goal

abbrev pub invariant-loop-byte : goal.invariant-loop-byte
invariant-loop-byte l = (spec.seen_after_all l.seen (drop l.byte-index l.bytes) ≡ spec.seen_after_all l.fn.seen l.bytes)
    × ((l.is_asked || spec.ends_asked l.seen (drop l.byte-index l.bytes)) ≡ spec.ends_asked l.fn.seen l.bytes)
