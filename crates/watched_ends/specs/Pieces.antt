-- The order in which the bytes of both ends of a connection came, as a text (this profile), and what they report in that order.
use Rattle.std.specs.Prelude.{◌≡◌, ◌⊎◌, ℕ, ◌≤◌, Bool, List, [], ◌∷◌, ◌++◌, length, take, map, codes, decimal}
use Rattle.std.specs.List.{AllByRecursion}
use Rattle.contact_ledger.specs.Lines.{whole_lines}
use Rattle.witness.specs.declared.lines.Side.{Side}
use Rattle.witness.specs.declared.lines.Side.TheVariants.{Client, Server}
use Rattle.witness.specs.Texts.{side_field}
use Rattle.witness.specs.Orders.{Pieces, bytes_of, HasFirst, AreOthers}
use Rattle.watched_ends.specs.Limits.{Limited, fresh, client_came, server_came, IsRead, due_of}

-- the first line of the text
abbrev pub header : List ℕ
header = codes "DME-ORDER 1"

-- bytes of one end came at once: the mark of the end, and their count
abbrev pub piece_line : Side × ℕ → List ℕ
piece_line p = side_field p.0 ++ 32 ∷ decimal p.1

-- one piece more of the client, or of the server
abbrev pub with_up : Pieces → ℕ → Pieces
with_up pieces count = pieces ++ (Client, count) ∷ []

abbrev pub with_down : Pieces → ℕ → Pieces
with_down pieces count = pieces ++ (Server, count) ∷ []

-- the text says that pieces came in this order
abbrev pub IsOrder : List ℕ → Pieces → Type 0
IsOrder text pieces = whole_lines text ≡ header ∷ map piece_line pieces

-- a piece has a byte at least, and its count fits in 64 bits
abbrev pub IsPiece : Side × ℕ → Type 0
IsPiece p = (1 ≤ p.1) × (p.1 ≤ 18446744073709551615)

-- no such pieces came in the order of the text
abbrev pub IsNoOrder : List ℕ → Type 0
IsNoOrder text = (pieces : Pieces) → AllByRecursion IsPiece pieces → IsOrder text pieces → ⊥

-- or they are not those of these recordings
abbrev pub IsUnfit : (up down text : List ℕ) → Type 0
IsUnfit up down text = IsNoOrder text ⊎ ((pieces : Pieces) × IsOrder text pieces × AreOthers up down pieces)

-- a relay, and what it has become once pieces have come, after each of which it read what waits: the pieces, and the bytes of the client and
-- of the server
pub data Relayed (first : Limited) : Pieces → List ℕ → List ℕ → Limited → Type 0 where
  begun : Relayed first [] [] [] first
  client : (pieces : Pieces) (up down bytes : List ℕ) (r new : Limited) → Relayed first pieces up down r
      → IsRead (client_came r bytes) new → Relayed first (with_up pieces (length bytes)) (up ++ bytes) down new
  server : (pieces : Pieces) (up down bytes : List ℕ) (r new : Limited) → Relayed first pieces up down r
      → IsRead (server_came r bytes) new → Relayed first (with_down pieces (length bytes)) up (down ++ bytes) new

-- the text of what a relay reports, to which these bytes came in pieces
pub record AreReported (first : Limited) (up down : List ℕ) (pieces : Pieces) (text : List ℕ) : Type 0 where
  pub relay : Limited
  pub relayed : Relayed first pieces up down relay
  pub text_is : text ≡ codes "DME-TOLD 1\n" ++ due_of relay

-- likewise of a new relay, by the text of the order of two recordings, which may have only the first of their bytes
pub record IsReportedIn (connection : ℕ) (up down order text : List ℕ) (is_whole : Bool) : Type 0 where
  pub pieces : Pieces
  pub order_is : IsOrder order pieces
  pub first : HasFirst up down pieces is_whole
  pub reported : AreReported (fresh connection) (take (bytes_of Client pieces) up) (take (bytes_of Server pieces) down) pieces text
