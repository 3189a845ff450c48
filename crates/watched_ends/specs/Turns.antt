-- Lines of the client that are read only when a response needs them (this profile). No clause of a public call speaks of this.
use Rattle.std.specs.Prelude.{◌≡◌, ℕ, ◌+◌, ◌<◌, ◌≤◌, true, false, List, [], ◌++◌, length, take, drop, map, get_or, Option, Some, None, Ok}
use Rattle.dme_line.specs.declared.tags.Tag.{Tag}
use Rattle.dme_line.specs.declared.responses.Mark.{Mark}
use Rattle.protocol_model.specs.Readings.{response_of}
use Rattle.witness.specs.Dialogues.{Dialogue, silence}
use Rattle.witness.specs.JudgedUses.{found}
use Rattle.witness_laws.specs.Orders.{Line, Up, said_all, ups, downs, sends, at_once_line, IsCausal, IsClear}

-- a place is before the one that a table has, if it has one
abbrev pub IsBefore : ℕ → Option ℕ → Type 0
IsBefore at None = ⊥
IsBefore at (Some place) = at < place

-- of the first lines of the client, those under a tag come before the place that the table has for it
pub record AreLast (up : List (List ℕ)) (count : ℕ) (places : List (Option ℕ)) : Type 0 where
  pub each : (tag : Tag) (at : ℕ) → at < count → sends tag (get_or up at []) ≡ true → IsBefore at (found places tag)

-- of the first lines of the client, those from a place on are not carried out at once
pub record AreQuiet (up : List (List ℕ)) (count place : ℕ) : Type 0 where
  pub each : (at : ℕ) → at < count → place ≤ at → at_once_line (get_or up at []) ≡ false

-- the first lines of the client and some of the server were read in an order that is causal and clear, if the client's others come later
pub record AreTaken (up : List (List ℕ)) (next : ℕ) (down : List (List ℕ)) (d : Dialogue) : Type 0 where
  pub lines : List Line
  pub dialogue : d ≡ said_all (silence false) lines
  pub ups_are : ups lines ≡ take next up
  pub downs_are : downs lines ≡ down
  pub causal : IsCausal (silence false) (lines ++ map Up (drop next up))
  pub clear : IsClear (silence false) (lines ++ map Up (drop next up))

-- a line of the server is a response under a tag, with a mark
pub record IsAnswer (line : List ℕ) (tag : Tag) (mark : Mark) : Type 0 where
  pub reads : response_of line ≡ Ok (record { tag = tag; mark = mark })
