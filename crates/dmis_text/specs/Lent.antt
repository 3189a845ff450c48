-- The bytes of an element, lent or its own: no public clause cites it.
use Rattle.std.specs.Prelude.{ℕ, List}
use Rattle.dmis_text.specs.declared.elements.Bytes.{Bytes}
use Rattle.dmis_text.specs.declared.elements.Bytes.TheVariants.{Lent, Own}

-- the same list of both
abbrev pub bytes_of : Bytes → List ℕ
bytes_of (Lent bytes) = bytes.now
bytes_of (Own bytes) = bytes.items
