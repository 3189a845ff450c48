-- What is written can be in a line, and its numerals and names are words.
use Rattle.dme_line.proofs.Names.{[], ◌&&◌, ◌++◌, ◌+◌, ◌/◌, ◌<◌, ◌==◌, ◌^◌, ◌∙◌, ◌∷◌, ◌≡◌, ◌≢◌, ◌≤◌, and_from, and_parts, ap, arith, Bool, codes}
use Rattle.dme_line.proofs.Names.{component_limit, decimal, digit_value, Event, false, false≢true, four_digits, is_content, is_name_byte}
use Rattle.dme_line.proofs.Names.{is_word_byte, IsName, IsOnWire, IsWireText, last_digit, le-leb, leb-true, length, length-append, List, list_all}
use Rattle.dme_line.proofs.Names.{list_all-append, minus_sign, nat_le, nat_tests, ne_eqb, negsuc, Point, pos, quoted, refl, six_digits, Std, sym, Tag}
use Rattle.dme_line.proofs.Names.{three_digits, true, unsigned_abs, whole-short, wire_limit, written_point, written_tag, ℕ, ℤ}
use Rattle.std.specs.Str.Parse.{AllDigits}
use Rattle.std.proofs.lemmas.Fmt.{decimal_is_IsNumeral}
use Rattle.fixed_um.specs.Written.{written, written_component}
use Rattle.fixed_um.proofs.DigitLemmas.{value-digit}

-- ---- texts one after another

pub wire_append : (m n k : ℕ) (a b : List ℕ) → IsWireText m a → IsWireText n b → m + n ≤ k → IsWireText k (a ++ b)
wire_append m n k a b f g le = record {
  free = list_all-append is_content a b
      ∙ and_from _ _ f.free g.free;
  short = omega (arith, length-append a b, f.short, g.short);
}

-- a text of a word's bytes is one of a line
pub all_weaker : (p q : ℕ → Bool) (xs : List ℕ) → ((c : ℕ) → p c ≡ true → q c ≡ true) → list_all p xs ≡ true → list_all q xs ≡ true
all_weaker p q [] h all = refl
all_weaker p q (x ∷ xs) h all = let s = and_parts (p x) (list_all p xs) all in and_from _ _ (h x s.0) (all_weaker p q xs h s.1)

-- ---- numerals

-- a byte of a written numeral: a minus, a point or a digit
abbrev pub is_plain : ℕ → Bool
is_plain c = nat_le 45 c && nat_le c 57

pub plain_word : (c : ℕ) → is_plain c ≡ true → is_word_byte c ≡ true
plain_word c h = grind (arith, nat_tests)

plain_content : (c : ℕ) → is_plain c ≡ true → is_content c ≡ true
plain_content c h = grind (arith, nat_tests)

last_digit-plain : (n : ℕ) → is_plain (last_digit n) ≡ true
last_digit-plain n = and_from _ _ (le-leb 45 (last_digit n) (omega arith)) (le-leb (last_digit n) 57 (omega arith))

digit_plain : (c : ℕ) → digit_value c < 10 → is_plain c ≡ true
digit_plain c h = let d = value-digit c h in and_from _ _ (le-leb 45 c (omega (arith, d.0))) (le-leb c 57 (omega (arith, d.1)))

digits_plain : (ds : List ℕ) → AllDigits 10 ds → list_all is_plain ds ≡ true
digits_plain [] h = refl
digits_plain (d ∷ ds) h = and_from _ _ (digit_plain d h.0) (digits_plain ds h.1)

three-plain : (n : ℕ) → list_all is_plain (three_digits n) ≡ true
three-plain n = and_from _ _ (last_digit-plain (n / 100)) (and_from _ _ (last_digit-plain (n / 10))
    (and_from _ _ (last_digit-plain n) refl))

four-plain : (n : ℕ) → list_all is_plain (four_digits n) ≡ true
four-plain n = and_from _ _ (last_digit-plain (n / 1000)) (three-plain n)

minus-plain : (z : ℤ) → list_all is_plain (minus_sign z) ≡ true
minus-plain (pos n) = refl
minus-plain (negsuc n) = refl

minus-short : (z : ℤ) → length (minus_sign z) ≤ 1
minus-short (pos n) = omega arith
minus-short (negsuc n) = omega arith

append_plain : (a b : List ℕ) → list_all is_plain a ≡ true → list_all is_plain b ≡ true → list_all is_plain (a ++ b) ≡ true
append_plain a b f g = list_all-append is_plain a b ∙ and_from _ _ f g

-- a word: not empty, of bytes that a written numeral can have, and short
pub record IsPlainWord (limit : ℕ) (text : List ℕ) : Type 0 where
  pub plain : list_all is_plain text ≡ true
  pub some : 0 < length text
  pub short : length text ≤ limit

pub word_bytes : (limit : ℕ) (text : List ℕ) → IsPlainWord limit text → list_all is_word_byte text ≡ true
word_bytes limit text h = all_weaker is_plain is_word_byte text plain_word h.plain

pub word_wire : (limit : ℕ) (text : List ℕ) → IsPlainWord limit text → IsWireText limit text
word_wire limit text h = record { free = all_weaker is_plain is_content text plain_content h.plain; short = h.short }

decimal_plain : (n : ℕ) → n < 10 ^ 7 → IsPlainWord 7 (decimal n)
decimal_plain n small =
    let d = decimal_is_IsNumeral n (omega arith) in
    record { plain = digits_plain (decimal n) d.0.1; some = omega (arith, d.0.0); short = whole-short n small }

numeral_word : (whole : ℕ) (z : ℤ) (decimals : List ℕ) (k : ℕ) → whole < 10 ^ 7 → list_all is_plain decimals ≡ true → length decimals ≡ k
    → IsPlainWord (9 + k) (minus_sign z ++ (decimal whole ++ (codes "." ++ decimals)))
numeral_word whole z decimals k small all long =
    let d = decimal_plain whole small in
    let m = minus-short z in
    let behind = codes "." ++ decimals in
    let lengths = length-append (decimal whole) behind in
    let all_lengths = length-append (minus_sign z) (decimal whole ++ behind) in
    record {
      plain = append_plain (minus_sign z) (decimal whole ++ behind) (minus-plain z)
          (append_plain (decimal whole) behind d.plain (and_from _ _ refl all));
      some = omega (arith, lengths, all_lengths, d.some);
      short = omega (arith, lengths, all_lengths, d.short, m, long);
    }

pub written-word : (z : ℤ) → unsigned_abs z ≤ wire_limit → IsPlainWord 12 (written z)
unfolding written
written-word z within = numeral_word (unsigned_abs z / 1000) z (three_digits (unsigned_abs z)) 3 (omega arith)
    (three-plain (unsigned_abs z)) refl

pub component-word : (z : ℤ) → unsigned_abs z ≤ component_limit → IsPlainWord 15 (written_component z)
unfolding written_component
component-word z within = numeral_word (unsigned_abs z / 1000000) z (six_digits (unsigned_abs z)) 6 (omega arith)
    (append_plain (three_digits (unsigned_abs z / 1000)) (three_digits (unsigned_abs z)) (three-plain (unsigned_abs z / 1000))
    (three-plain (unsigned_abs z))) refl

-- ---- tags, points and names

pub four_digits-wire : (n : ℕ) → IsWireText 4 (four_digits n)
four_digits-wire n = record { free = all_weaker is_plain is_content (four_digits n) plain_content (four-plain n); short = omega arith }

pub tag-wire : (t : Tag) → IsWireText 5 (written_tag t)
tag-wire (Std n) = record {
  free = and_from _ _ (plain_content (last_digit (n / 10000)) (last_digit-plain (n / 10000)))
      (four_digits-wire n).free;
  short = omega arith;
}
tag-wire (Event n) = record { free = and_from _ _ refl (four_digits-wire n).free; short = omega arith }

pub point-wire : (p : Point) → IsOnWire p → IsWireText 49 (written_point p)
point-wire p h =
    let x = word_wire 12 (written p.x) (written-word p.x h.x) in
    let y = word_wire 12 (written p.y) (written-word p.y h.y) in
    let z = word_wire 12 (written p.z) (written-word p.z h.z) in
    let end : IsWireText 1 (codes ")") = record { free = refl; short = omega arith } in
    let z_text = wire_append 12 1 13 (written p.z) (codes ")") z end (omega arith) in
    let z_all = wire_append 5 13 18 (codes "), Z(") (written p.z ++ codes ")") (record { free = refl; short = omega arith }) z_text
    (omega arith) in
    let y_text = wire_append 12 18 30 (written p.y) (codes "), Z(" ++ (written p.z ++ codes ")")) y z_all (omega arith) in
    let y_all = wire_append 5 30 35 (codes "), Y(") (written p.y ++ (codes "), Z(" ++ (written p.z ++ codes ")")))
    (record { free = refl; short = omega arith }) y_text (omega arith) in
    let x_text = wire_append 12 35 47 (written p.x) (codes "), Y(" ++ (written p.y ++ (codes "), Z(" ++ (written p.z ++ codes ")")))) x
    y_all (omega arith) in
    wire_append 2 47 49 (codes "X(") (written p.x ++ (codes "), Y(" ++ (written p.y ++ (codes "), Z(" ++ (written p.z ++ codes ")")))))
    (record { free = refl; short = omega arith }) x_text (omega arith)

name_not : (m b : ℕ) → b ≡ m → is_name_byte m ≡ false → is_name_byte b ≡ true → ⊥
name_not m b e f h = false≢true (sym f ∙ ap is_name_byte (sym e) ∙ h)

-- a byte of a name is no mark, no space, and ends no line
name_range : (b : ℕ) → is_name_byte b ≡ true → (33 ≤ b) × (b ≢ 40) × (b ≢ 41) × (b ≢ 44)
name_range b h = (grind (arith, nat_tests), λ e. name_not 40 b e refl h, λ e. name_not 41 b e refl h, λ e. name_not 44 b e refl h)

name_word : (b : ℕ) → is_name_byte b ≡ true → is_word_byte b ≡ true
name_word b h =
    let r = name_range b h in
    let space : (b == 32) ≡ false = ne_eqb b 32 (λ e. omega (arith, e, r.0)) in
    rw (space, ne_eqb b 40 r.1, ne_eqb b 41 r.2, ne_eqb b 44 r.3) refl

name_content : (b : ℕ) → is_name_byte b ≡ true → is_content b ≡ true
name_content b h =
    let r = name_range b h in
    let return : (b == 13) ≡ false = ne_eqb b 13 (λ e. omega (arith, e, r.0)) in
    let feed : (b == 10) ≡ false = ne_eqb b 10 (λ e. omega (arith, e, r.0)) in
    rw (return, feed) refl

-- a name in quotes is one word
pub record IsNameWord (name : List ℕ) : Type 0 where
  pub words : list_all is_word_byte (quoted name) ≡ true
  pub wire : IsWireText 66 (quoted name)

pub name-word : (name : List ℕ) → IsName name → IsNameWord name
name-word name h =
    let p = and_parts (nat_le 1 (length name)) (nat_le (length name) 64 && list_all is_name_byte name) h.named in
    let q = and_parts (nat_le (length name) 64) (list_all is_name_byte name) p.1 in
    let short : length name ≤ 64 = leb-true _ _ q.0 in
    let words = all_weaker is_name_byte is_word_byte name name_word q.1 in
    let free = all_weaker is_name_byte is_content name name_content q.1 in
    record {
      words = and_from _ _ refl (list_all-append is_word_byte name (34 ∷ []) ∙ and_from _ _ words refl);
      wire = record {
        free = and_from _ _ refl (list_all-append is_content name (34 ∷ []) ∙ and_from _ _ free refl);
        short = omega (arith, short, length-append name (34 ∷ []));
      };
    }
