-- What a statement's parameters say: names in parentheses, counts, texts (ISO 22093; the limits are this profile's).
use Rattle.std.specs.Prelude.{ℕ, ◌-◌, Bool, false, not, ◌&&◌, ◌||◌, List, [], ◌∷◌, length, take, drop, slice_index, codes, Option, Some}
use Rattle.std.specs.Prelude.{None, nat_lt, nat_le, ◌==◌, nat_eq, if◌then◌else◌, option_and_then}
use Rattle.std.specs.List.{list_all, starts_with}
use Rattle.std.specs.Char.{is_ascii_digit, is_ascii_alphabetic}
use Rattle.std.specs.Str.{bytes_eq}
use Rattle.std.specs.Str.Parse.{digits_value}
use Rattle.fixed_um.specs.Names.{is_name_text, folded}

-- a word of letters
abbrev pub is_letters : List ℕ → Bool
is_letters text = nat_lt 0 (length text) && list_all is_ascii_alphabetic text

-- whether the first of some parameters begins with these bytes
abbrev pub begins : List ℕ → List ℕ → Bool
begins front text = starts_with nat_eq text front

-- what precedes a `)` at the end
abbrev pub before_close : List ℕ → Option (List ℕ)
before_close text = if slice_index text (length text - 1) == 41 then Some (take (length text - 1) text) else None

-- the name that a text writes
abbrev pub name_of : List ℕ → Option (List ℕ)
name_of text = if is_name_text text then Some (folded text) else None

-- the name between these bytes and a `)`: `F(name)`, `S(name)`, `SA(name)` or `D(name)`
unfoldable pub name_within : List ℕ → List ℕ → Option (List ℕ)
name_within front text = if begins front text then option_and_then name_of (before_close (drop (length front) text)) else None

-- the count of touches that a block asks for: digits with a value from 1 to 10,000
abbrev pub within_count : ℕ → Option ℕ
within_count n = if nat_le 1 n && nat_le n 10000 then Some n else None

unfoldable pub count_of : List ℕ → Option ℕ
count_of text = if list_all is_ascii_digit text then within_count (digits_value 10 text) else None

-- the parameters after a first `CART`
abbrev pub without_cart : List (List ℕ) → List (List ℕ)
without_cart [] = []
without_cart (first ∷ rest) = if bytes_eq first (codes "CART") then rest else first ∷ rest

-- a first parameter that names another kind of coordinates than `CART`
abbrev pub is_other_coordinates : List (List ℕ) → Bool
is_other_coordinates [] = false
is_other_coordinates (first ∷ rest) = is_ascii_alphabetic (slice_index first 0) && not (bytes_eq first (codes "CART"))

-- a first parameter that recalls nothing which this profile knows
abbrev pub is_other_recall : List (List ℕ) → Bool
is_other_recall [] = false
is_other_recall (first ∷ rest) = not (begins (codes "D(") first || (begins (codes "S(") first || begins (codes "SA(") first))
