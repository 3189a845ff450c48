-- A tag has one text.
use Rattle.dme_line.proofs.Names.{[], ◌&&◌, ◌++◌, ◌+◌, ◌/◌, ◌∙◌, ◌∷◌, ◌≡◌, ◌≤◌, and_from, and_parts, ap, arith, Event, false, false≢true, four_digits}
use Rattle.dme_line.proofs.Names.{is_ascii_digit, IsNumbered, IsTag, last_digit, List, nat_tests, Std, sym, Tag, true, written_tag, ℕ}

-- a number of that many digits is written in one way
four_apart : (m n : ℕ) → m ≤ 9999 → n ≤ 9999 → last_digit (m / 1000) ≡ last_digit (n / 1000) → last_digit (m / 100) ≡ last_digit (n / 100)
    → last_digit (m / 10) ≡ last_digit (n / 10) → last_digit m ≡ last_digit n → m ≡ n
four_apart m n f g a b c d = omega (arith, a, b, c, d)

five_apart : (m n : ℕ) → m ≤ 99999 → n ≤ 99999 → last_digit (m / 10000) ≡ last_digit (n / 10000)
    → last_digit (m / 1000) ≡ last_digit (n / 1000) → last_digit (m / 100) ≡ last_digit (n / 100)
    → last_digit (m / 10) ≡ last_digit (n / 10) → last_digit m ≡ last_digit n → m ≡ n
five_apart m n f g a b c d e = omega (arith, a, b, c, d, e)

no_letter : (n : ℕ) → last_digit n ≡ 69 → ⊥
no_letter n e = omega (arith, e)

-- four bytes that are digits, and four that are not
range_of : (c : ℕ) → is_ascii_digit c ≡ true → (48 ≤ c) × (c ≤ 57)
range_of c h = (grind (arith, nat_tests), grind (arith, nat_tests))

digit_of : (n : ℕ) → is_ascii_digit (last_digit n) ≡ true
digit_of n = grind (arith, nat_tests)

pub four_ranges : (a b c d : ℕ) → (((is_ascii_digit a && is_ascii_digit b) && is_ascii_digit c) && is_ascii_digit d) ≡ true
    → ((48 ≤ a) × (a ≤ 57)) × ((48 ≤ b) × (b ≤ 57)) × ((48 ≤ c) × (c ≤ 57)) × ((48 ≤ d) × (d ≤ 57))
four_ranges a b c d h =
    let p = and_parts _ _ h in
    let q = and_parts _ _ p.0 in
    let r = and_parts _ _ q.0 in
    (range_of a r.0, range_of b r.1, range_of c q.1, range_of d p.1)

pub no_four_digits : (a b c d n : ℕ) → (((is_ascii_digit a && is_ascii_digit b) && is_ascii_digit c) && is_ascii_digit d) ≡ false
    → four_digits n ≡ a ∷ b ∷ c ∷ d ∷ [] → ⊥
no_four_digits a b c d n h e =
    let p : last_digit (n / 1000) ≡ a = cc in
    let q : last_digit (n / 100) ≡ b = cc in
    let r : last_digit (n / 10) ≡ c = cc in
    let s : last_digit n ≡ d = cc in
    let is_a : is_ascii_digit a ≡ true = sym (ap is_ascii_digit p) ∙ digit_of (n / 1000) in
    let is_b : is_ascii_digit b ≡ true = sym (ap is_ascii_digit q) ∙ digit_of (n / 100) in
    let is_c : is_ascii_digit c ≡ true = sym (ap is_ascii_digit r) ∙ digit_of (n / 10) in
    let is_d : is_ascii_digit d ≡ true = sym (ap is_ascii_digit s) ∙ digit_of n in
    false≢true (sym h ∙ and_from _ _ (and_from _ _ (and_from _ _ is_a is_b) is_c) is_d)

-- a tag and what follows it
pub record SameTagged (t u : Tag) (a b : List ℕ) : Type 0 where
  pub tag : t ≡ u
  pub behind : a ≡ b

pub one_tag : (t u : Tag) (a b : List ℕ) → IsTag t → IsTag u → written_tag t ++ a ≡ written_tag u ++ b → SameTagged t u a b
one_tag (Std m) (Std n) a b f g e =
    let p : last_digit (m / 10000) ≡ last_digit (n / 10000) = cc in
    let q : last_digit (m / 1000) ≡ last_digit (n / 1000) = cc in
    let r : last_digit (m / 100) ≡ last_digit (n / 100) = cc in
    let s : last_digit (m / 10) ≡ last_digit (n / 10) = cc in
    let t : last_digit m ≡ last_digit n = cc in
    record { tag = ap (λ (k : ℕ). Std k) (five_apart m n f g p q r s t); behind = cc }
one_tag (Std m) (Event n) a b f g e = let p : last_digit (m / 10000) ≡ 69 = cc in absurd (no_letter (m / 10000) p)
one_tag (Event m) (Std n) a b f g e = let p : last_digit (n / 10000) ≡ 69 = cc in absurd (no_letter (n / 10000) p)
one_tag (Event m) (Event n) a b f g e =
    let q : last_digit (m / 1000) ≡ last_digit (n / 1000) = cc in
    let r : last_digit (m / 100) ≡ last_digit (n / 100) = cc in
    let s : last_digit (m / 10) ≡ last_digit (n / 10) = cc in
    let t : last_digit m ≡ last_digit n = cc in
    record { tag = ap (λ (k : ℕ). Event k) (four_apart m n f g q r s t); behind = cc }

pub tag_numbered : (t : Tag) → IsNumbered t → IsTag t
tag_numbered (Std n) h = h.1
tag_numbered (Event n) h = h.1
