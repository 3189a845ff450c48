-- What is written as a field has no space and no line end.
use Rattle.contact_ledger.proofs.Names.{[], ◌++◌, ◌/◌, ◌<◌, ◌^◌, ◌∙◌, ◌∷◌, ◌≡◌, ◌≤◌, AllByRecursion, AllDigits, and_from, and_parts, arith, Bool}
use Rattle.contact_ledger.proofs.Names.{codes, component_limit, decimal, decimal_is_IsNumeral, Direction, direction_fields, Frame, frame_fields}
use Rattle.contact_ledger.proofs.Names.{is_name_byte, IsFrame, IsLength, IsName, IsOnWire, IsTouch, last_digit, le-leb, List, list_all}
use Rattle.contact_ledger.proofs.Names.{list_all-append, Machine, minus_sign, nat_le, negsuc, None, Option, Part, Point, point_fields, pos, refl}
use Rattle.contact_ledger.proofs.Names.{six_digits, Some, three_digits, true, unsigned_abs, ℕ, ℤ}
use Rattle.std.specs.Char.{digit_value}
use Rattle.fixed_um.specs.Written.{written, written_component}
use Rattle.fixed_um.proofs.DigitLemmas.{value-digit}

-- a byte that is no space and no line end: from 33 on
abbrev pub is_plain : ℕ → Bool
is_plain c = nat_le 33 c

pub record IsPlain (field : List ℕ) : Type 0 where
  pub plain : list_all is_plain field ≡ true

abbrev pub ArePlain : List (List ℕ) → Type 0
ArePlain fields = AllByRecursion IsPlain fields

pub plain_append : (a b : List ℕ) → IsPlain a → IsPlain b → IsPlain (a ++ b)
plain_append a b f g = record { plain = list_all-append is_plain a b ∙ and_from _ _ f.plain g.plain }

pub plain_fields_append : (a b : List (List ℕ)) → ArePlain a → ArePlain b → ArePlain (a ++ b)
plain_fields_append [] b f g = g
plain_fields_append (x ∷ xs) b f g = (f.0, plain_fields_append xs b f.1 g)

all_weaker : (p q : ℕ → Bool) (xs : List ℕ) → ((c : ℕ) → p c ≡ true → q c ≡ true) → list_all p xs ≡ true → list_all q xs ≡ true
all_weaker p q [] h all = refl
all_weaker p q (x ∷ xs) h all = let s = and_parts (p x) (list_all p xs) all in and_from _ _ (h x s.0) (all_weaker p q xs h s.1)

-- ---- numerals

last_digit-plain : (n : ℕ) → is_plain (last_digit n) ≡ true
last_digit-plain n = le-leb 33 (last_digit n) (omega arith)

digit_plain : (c : ℕ) → digit_value c < 10 → is_plain c ≡ true
digit_plain c h = let d = value-digit c h in le-leb 33 c (omega (arith, d.0))

digits_plain : (ds : List ℕ) → AllDigits 10 ds → list_all is_plain ds ≡ true
digits_plain [] h = refl
digits_plain (d ∷ ds) h = and_from _ _ (digit_plain d h.0) (digits_plain ds h.1)

three-plain : (n : ℕ) → IsPlain (three_digits n)
three-plain n = record {
  plain = and_from _ _ (last_digit-plain (n / 100)) (and_from _ _ (last_digit-plain (n / 10)) (and_from _ _ (last_digit-plain n) refl));
}

minus-plain : (z : ℤ) → IsPlain (minus_sign z)
minus-plain (pos n) = record { plain = refl }
minus-plain (negsuc n) = record { plain = refl }

pub decimal_plain : (n : ℕ) → n < 2 ^ 64 → IsPlain (decimal n)
decimal_plain n small = let d = decimal_is_IsNumeral n small in record { plain = digits_plain (decimal n) d.0.1 }

numeral_plain : (whole : ℕ) (z : ℤ) (decimals : List ℕ) → whole < 2 ^ 64 → IsPlain decimals
    → IsPlain (minus_sign z ++ (decimal whole ++ (codes "." ++ decimals)))
numeral_plain whole z decimals small all = plain_append (minus_sign z) _ (minus-plain z)
    (plain_append (decimal whole) _ (decimal_plain whole small) (plain_append (codes ".") decimals (record { plain = refl }) all))

pub written_plain : (z : ℤ) → IsLength z → IsPlain (written z)
unfolding written
written_plain z within = numeral_plain (unsigned_abs z / 1000) z (three_digits (unsigned_abs z)) (omega arith) (three-plain
    (unsigned_abs z))

pub component_plain : (z : ℤ) → unsigned_abs z ≤ component_limit → IsPlain (written_component z)
unfolding written_component
component_plain z within = numeral_plain (unsigned_abs z / 1000000) z (six_digits (unsigned_abs z)) (omega arith)
    (plain_append (three_digits (unsigned_abs z / 1000)) (three_digits (unsigned_abs z)) (three-plain (unsigned_abs z / 1000))
    (three-plain (unsigned_abs z)))

-- ---- names, points, frames and directions

name_byte-plain : (c : ℕ) → is_name_byte c ≡ true → is_plain c ≡ true
name_byte-plain c h = (and_parts (nat_le 33 c) _ h).0

pub name_plain : (name : List ℕ) → IsName name → IsPlain name
name_plain name h =
    let more = (and_parts _ _ h.named).1 in
    let all = (and_parts _ _ more).1 in
    record { plain = all_weaker is_name_byte is_plain name name_byte-plain all }

pub point_plain : (p : Point) → IsOnWire p → ArePlain (point_fields p)
point_plain p h = (written_plain p.x h.x, (written_plain p.y h.y, (written_plain p.z h.z, tt)))

pub frame_plain : (f : Frame) → IsFrame f → ArePlain (frame_fields f)
frame_plain Machine h = (record { plain = refl }, tt)
frame_plain (Part offset) h = (record { plain = refl }, point_plain offset h)

pub direction_plain : (d : Option Direction) → IsTouch d → ArePlain (direction_fields d)
direction_plain None h = (record { plain = refl }, tt)
direction_plain (Some d) h = (
  record { plain = refl },
  (
    component_plain d.i h.i_within,
    (
      component_plain d.j h.j_within,
      (component_plain d.k h.k_within, tt),
    ),
  ),
)
