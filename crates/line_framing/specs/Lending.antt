-- The vector of a queue while it is lent (this profile).
use Rattle.std.specs.Prelude.{ℕ, ◌-◌, Vec, vec_len, vec_capacity}
use Rattle.std.specs.Borrow.{RattleType, u8}
use Rattle.std.specs.contracts.alloc.Global as global
use Rattle.std.specs.contracts.vec.Vec as vec
use Rattle.std.specs.contracts.impls.GlobalAllocator.TheImpl.{ghosts}
use Rattle.line_framing.specs.Queue.{QueueValue}

-- a vector of bytes as the logic holds it
abbrev pub bytes_row : RattleType
bytes_row = vec.the_row u8 global.the_row ghosts

-- a queue whose vector holds just the bytes that wait
abbrev pub queued_of : {Z : Type 0} → Vec ℕ Z → QueueValue
queued_of bytes = record { waiting = bytes.items; room = vec_capacity bytes - vec_len bytes }
