use Rattle.std.proofs.Common.{◌≡◌, ◌++◌, string_bytes, drop}
use Rattle.std.specs.List.{flat_map}
use Rattle.session_telling.specs.Visible.{visible}
use Rattle.session_telling.proofs.showing.visible.Given as goal

-- what is written and what is left are all bytes
abbrev pub invariant-loop-byte : goal.invariant-loop-byte
invariant-loop-byte l = string_bytes l.text ++ flat_map visible (drop l.byte-index l.bytes) ≡ flat_map visible l.bytes
