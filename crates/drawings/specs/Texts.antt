-- Texts of SVG (W3C SVG 1.1), which is XML 1.0, and of HTML (WHATWG HTML).
use Rattle.std.specs.Prelude.{◌≡◌, ℕ, Bool, not, ◌&&◌, List, [], ◌∷◌, ◌++◌, ◌-◌, ◌/◌, ◌%◌, codes, decimal, pos, length, take, nat_le, ◌==◌, if◌then◌else◌}
use Rattle.fixed_um.specs.Written.{written, last_digit, three_digits}
use Rattle.drawings.specs.Sheet.{Spot}

-- a byte of a text between tags or in an attribute: `&`, `<`, `>` and `"` are written as entities
abbrev pub escaped_byte : ℕ → List ℕ
escaped_byte b =
    if b == 38 then codes "&amp;" else
    if b == 60 then codes "&lt;" else
    if b == 62 then codes "&gt;" else
    if b == 34 then codes "&quot;" else b ∷ []

abbrev pub escaped : List ℕ → List ℕ
escaped [] = []
escaped (b ∷ text) = escaped_byte b ++ escaped text

-- a byte that neither begins nor ends a tag or an attribute
abbrev pub is_plain : ℕ → Bool
is_plain b = not (b == 60) && (not (b == 62) && not (b == 34))

-- a name of at most 26 bytes unchanged, a longer one by its first 24 bytes and two points, escaped
abbrev pub shown_name : List ℕ → List ℕ
shown_name name = if nat_le (length name) 26 then escaped name else escaped (take 24 name) ++ codes ".."

-- a position in millimetres, in the form of a list of points
abbrev pub spot_text : Spot → List ℕ
spot_text p = written (pos p.across) ++ (codes "," ++ written (pos p.down))

-- a text with some property is appended to another
pub record Adds (Is : List ℕ → Type 0) (old new : List ℕ) : Type 0 where
  pub text : List ℕ
  pub is : Is text
  pub added : new ≡ old ++ text

-- markup, written unchanged: it has a name of its own so that no proof unfolds long constants
unfoldable pub markup : List ℕ → List ℕ
markup text = text

-- an attribute that is a length: what comes before it, the length in millimetres, and the closing quote
unfoldable pub attribute : List ℕ → ℕ → List ℕ
attribute name length = name ++ (written (pos length) ++ codes "\"")

-- a disc: its centre and its radius
unfoldable pub disc_text : Spot → ℕ → List ℕ
disc_text centre radius = attribute (codes "<circle cx=\"") centre.across ++ (attribute (codes " cy=\"") centre.down
    ++ (attribute (codes " r=\"") radius ++ markup (codes "/>\n")))

-- a line: its two ends
unfoldable pub line_text : Spot → Spot → List ℕ
line_text from to = attribute (codes "<line x1=\"") from.across ++ (attribute (codes " y1=\"") from.down
    ++ (attribute (codes " x2=\"") to.across ++ (attribute (codes " y2=\"") to.down ++ markup (codes "/>\n"))))

-- a rectangle: its left upper corner, and how far to the right and below it its other corner is
unfoldable pub frame_text : Spot → Spot → List ℕ
frame_text first last = attribute (codes "<rect x=\"") first.across ++ (attribute (codes " y=\"") first.down
    ++ (attribute (codes " width=\"") (last.across - first.across)
    ++ (attribute (codes " height=\"") (last.down - first.down) ++ markup (codes "/>\n"))))

-- the start of an element of text at a position, and its end
unfoldable pub text_start : Spot → List ℕ
text_start at = attribute (codes "<text x=\"") at.across ++ (attribute (codes " y=\"") at.down ++ codes ">")

abbrev pub text_end : List ℕ
text_end = markup (codes "</text>\n")

-- an element of text: its position, and its characters, escaped
unfoldable pub text_element : Spot → List ℕ → List ℕ
text_element at text = text_start at ++ (escaped text ++ text_end)

-- the decimals of a length in millimetres up to the last that is not zero, and no point if all are zero
abbrev pub needed_decimals : ℕ → List ℕ
needed_decimals n =
    if n % 1000 == 0 then [] else
    if n % 100 == 0 then codes "." ++ last_digit (n / 100) ∷ [] else
    if n % 10 == 0 then codes "." ++ last_digit (n / 100) ∷ last_digit (n / 10) ∷ [] else codes "." ++ three_digits n

-- a length in millimetres with as many decimals as it needs
unfoldable pub millimetres : ℕ → List ℕ
millimetres n = decimal (n / 1000) ++ needed_decimals n
