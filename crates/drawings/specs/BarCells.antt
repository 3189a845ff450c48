-- A bar for a deviation along the normal: to the right if it is above zero, to the left if it is below; the longest of a part fills half of
-- its cell.
use Rattle.std.specs.Prelude.{ℕ, ◌*◌, ◌/◌, min, max, fold, List, ◌++◌, codes, decimal, ℤ, pos, negsuc, unsigned_abs, Option, Some, None}
use Rattle.deviations.specs.Rows.{Row}
use Rattle.drawings.specs.Texts.{markup}

-- the magnitude of a deviation; that of none is zero
abbrev pub magnitude : Option ℤ → ℕ
magnitude (Some along) = unsigned_abs along
magnitude None = 0

-- the greatest magnitude of rows, at least one micrometre
abbrev pub greatest : List Row → ℕ
greatest rows = fold (λ most r. max most (magnitude r.along)) 1 rows

-- how long a bar is, in units of which 50 are half of the cell
abbrev pub bar_length : ℕ → ℕ → ℕ
bar_length most n = min (n * 50 / most) 50

-- a bar of a deviation below zero is turned to the left
abbrev pub turn : ℤ → List ℕ
turn (pos _) = codes "1"
turn (negsuc _) = codes "-1"

unfoldable pub bar_of : List ℕ → ℕ → List ℕ
bar_of turned length = markup (codes "<td><svg class=\"bar\" viewBox=\"-51 -5 102 10\"><path d=\"M0-5V5\"/><g transform=\"scale(")
    ++ (turned ++ (markup (codes " 1)\"><rect y=\"-3\" height=\"6\" width=\"")
    ++ (decimal length ++ markup (codes "\"/></g></svg></td>"))))

abbrev pub along_bar : ℕ → ℤ → List ℕ
along_bar most along = bar_of (turn along) (bar_length most (unsigned_abs along))

-- the bar of a deviation in a cell of its own; an empty cell if there is no deviation
abbrev pub bar_cell : ℕ → Option ℤ → List ℕ
bar_cell most (Some along) = along_bar most along
bar_cell most None = markup (codes "<td></td>")
