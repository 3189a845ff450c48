-- What a handle owns.
use Rattle.std.specs.Prelude.{Option, None, Some}
use base.Fml.{Fml, ftrue}
use denote.RattleType.{RattleType}
use Rattle.std.specs.Ptr.{Ptr}
use Rattle.std.specs.Box.Ownership.{box_owns}
use Rattle.libc.specs.Heap.{chunk}

-- the boxed value of C's heap, if the handle holds one
abbrev pub held_at : (R : RattleType) → Ptr → Option R.Denot → Fml
held_at R at None = ftrue
held_at R at (Some x) = box_owns chunk R at x
