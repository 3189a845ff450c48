-- Which measurement block is open before a line (ISO 22093, `MEAS`, `PTMEAS` and `ENDMES`).
use Rattle.std.specs.Prelude.{ℕ, ◌+◌, ◌-◌, ◌^◌, List, [], ◌∷◌, min, nat_le, codes, Option, None, slice_get, if◌then◌else◌}
use Rattle.std.specs.Option.{option_map}
use Rattle.std.specs.Str.{bytes_eq}
use Rattle.dmis_text.specs.declared.elements.Statement.{Statement}
use Rattle.program_review.specs.declared.blocks.Block.{Block}

-- an open block: the line of its `MEAS`, the count that it names, as it is written there, and how many touches it has
pub record OpenBlock : Type 0 where
  pub line : ℕ
  pub wanted : List ℕ
  pub touches : ℕ

-- how the code keeps it
abbrev pub opened_by : Block → OpenBlock
opened_by block = record { line = block.line; wanted = block.wanted.now; touches = block.touches }

-- the nearest number that 64 bits can hold
abbrev pub in_64_bits : ℕ → ℕ
in_64_bits n = min n (2 ^ 64 - 1)

-- a `MEAS` names its count in its third parameter
abbrev pub begun : Statement → Option OpenBlock
begun s = option_map (λ count. record { line = s.line; wanted = count; touches = 0 }) (slice_get s.params 2)

-- one touch more
abbrev pub one_touch_more : OpenBlock → OpenBlock
one_touch_more block = record { line = block.line; wanted = block.wanted; touches = in_64_bits (block.touches + 1) }

-- the open block after a statement, if this one is open before it
abbrev pub block_after : Option OpenBlock → Statement → Option OpenBlock
block_after block s = if bytes_eq s.word (codes "MEAS") then begun s else if bytes_eq s.word (codes "ENDMES") then None else
    if bytes_eq s.word (codes "PTMEAS") then option_map one_touch_more block else block

-- the block that is open after this one and those of the statements that begin above line n
abbrev pub open_from : Option OpenBlock → ℕ → List Statement → Option OpenBlock
open_from block n [] = block
open_from block n (s ∷ statements) = if nat_le n s.line then block else open_from (block_after block s) n statements

-- the block that these statements open and leave open before line n
abbrev pub open_block : List Statement → ℕ → Option OpenBlock
open_block statements n = open_from None n statements
