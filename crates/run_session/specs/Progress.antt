-- How far a run is, as one line on a terminal (this profile).
use Rattle.std.specs.Prelude.{ℕ, ◌*◌, ◌/◌, ◌%◌, ◌-◌, ◌==◌, nat_lt, map, Bool, List, [], ◌∷◌, ◌++◌, Option, Some, None, codes, decimal, max, if◌then◌else◌}
use Rattle.run_session.specs.declared.progress.Pace.{Pace}

-- the full ones of twenty cells: the touches that were made by all of them, rounded down
abbrev pub full_cells : Pace → ℕ
full_cells p = p.touches * 20 / max p.all 1

abbrev pub cells : List ℕ
cells = 0 ∷ 1 ∷ 2 ∷ 3 ∷ 4 ∷ 5 ∷ 6 ∷ 7 ∷ 8 ∷ 9 ∷ 10 ∷ 11 ∷ 12 ∷ 13 ∷ 14 ∷ 15 ∷ 16 ∷ 17 ∷ 18 ∷ 19 ∷ []

abbrev pub cell : ℕ → ℕ → ℕ
cell full at = if nat_lt at full then 35 else 45

abbrev pub bar : Pace → List ℕ
bar p = map (cell (full_cells p)) cells

-- minutes, and seconds with two digits
unfoldable pub clock : ℕ → List ℕ
clock seconds = decimal (seconds / 60) ++ (codes ":" ++ (decimal (seconds % 60 / 10) ++ decimal (seconds % 60 % 10)))

-- the seconds that are left if each touch takes as long as those of this run did on average
abbrev pub left : Pace → Option ℕ
left p = if p.touches - p.before == 0 then None else Some (p.gone * (p.all - p.touches) / (p.touches - p.before) / 1000)

abbrev pub left_words : Option ℕ → List ℕ
left_words None = []
left_words (Some seconds) = codes ", " ++ (clock seconds ++ codes " left")

-- the line takes the place of the one above it if that is asked: the cursor goes up, and the line there is erased (ECMA-48). It is cut at the
-- right margin: one that went on in the next row could not be erased (autowrap, DEC private mode 7)
abbrev pub anew : Bool → List ℕ
anew is_anew = if is_anew then 27 ∷ 91 ∷ 49 ∷ 65 ∷ 27 ∷ 91 ∷ 50 ∷ 75 ∷ 27 ∷ 91 ∷ 63 ∷ 55 ∷ 108 ∷ [] else 27 ∷ 91 ∷ 63 ∷ 55 ∷ 108 ∷ []

abbrev pub line_end : List ℕ
line_end = 27 ∷ 91 ∷ 63 ∷ 55 ∷ 104 ∷ 10 ∷ []

unfoldable pub counts : List ℕ → Pace → List ℕ
counts bar p = codes "[" ++ (bar ++ (codes "] " ++ (decimal p.measured ++ (codes " of " ++ (decimal p.asked ++ (codes " features, "
    ++ (decimal p.touches ++ (codes " of " ++ (decimal p.all ++ codes " touches, ")))))))))

unfoldable pub times : Pace → List ℕ
times p = clock (p.gone / 1000) ++ (codes " gone" ++ (left_words (left p) ++ line_end))

unfoldable pub pace_line : Bool → Pace → List ℕ
pace_line is_anew p = anew is_anew ++ (counts (bar p) p ++ times p)

-- an example of a pace
abbrev pub paced : Pace
paced = record { measured = 3; asked = 8; before = 4; touches = 17; all = 40; gone = 42000 }
