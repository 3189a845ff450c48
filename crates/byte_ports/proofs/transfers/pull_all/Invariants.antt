use Rattle.std.proofs.Common.{◌≡◌, ◌≤◌, ◌<◌, ◌*◌, true, false, vec_len}
use Rattle.std.specs.Io.KnownBytes.{Consumes}
use Rattle.byte_ports.specs.Transfers.{GaveTimes}
use Rattle.byte_ports.proofs.transfers.pull_all.Given as goal

abbrev pub invariant-loop : goal.invariant-loop
invariant-loop g l =
    (vec_len l.piece ≡ 65536) × Consumes (g.R.Source.left l.initial.source) (g.R.Source.left l.source) l.text.items
    × GaveTimes g.R.Source.left g.R.Source.has_failed l.counter l.initial.source l.source
    × (l.counter ≤ vec_len l.text) × (vec_len l.text ≤ l.counter * 65536)
    × (g.R.Source.has_failed l.initial.source ≡ true → g.R.Source.has_failed l.source ≡ true)
    × (g.R.Source.has_failed l.initial.source ≡ false → g.R.Source.has_failed l.source ≡ false)
    × (0 < l.counter → g.R.Source.has_failed l.source ≡ false)
