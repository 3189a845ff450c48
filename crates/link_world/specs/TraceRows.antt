-- Examples of traced lines: lines, and connections that are written out (this profile). No theorem cites these definitions.
use Rattle.std.specs.Prelude.{ℕ, Option, List, [], ◌∷◌, ◌++◌, codes}
use Rattle.std.specs.List.{flat_map}
use Rattle.protocol_model.specs.World.{World, Link}
use Rattle.link_world.specs.declared.worlds.standing.Standing.{Standing}

-- lines as the sides write them: each ends with CR and LF
abbrev pub written : List (List ℕ) → List ℕ
written lines = flat_map (λ line. line ++ 13 ∷ 10 ∷ []) lines

-- rows, each followed by LF
abbrev pub text : List (List ℕ) → List ℕ
text lines = flat_map (λ line. line ++ 10 ∷ []) lines

-- both sides before an event, on these connections
abbrev pub sides : (client server : Option ℕ) (taken up down : ℕ) → Standing
sides client server taken up down = record { client = client; server = server; taken = taken; up = up; down = down }

-- the same world with other connections
abbrev pub with_links : World → List Link → World
with_links w links = record w { links = links }

-- a connection on which these bytes wait, up and down
abbrev pub waiting : (up down : List ℕ) → Link
waiting up down = record { up = up; down = down }
