-- A length at the start of a text.
use Rattle.fixed_um.proofs.Names.{[], ◌*◌, ◌++◌, ◌+◌, ◌-◌, ◌<◌, ◌^◌, ◌∙◌, ◌∷◌, ◌≡◌, ◌≤◌, AllDigits, and_from, ap, append-nil, append_assoc, arith}
use Rattle.fixed_um.proofs.Names.{BeginsWithDecimals, BeginsWithDigits, BeginsWithLength, Bool, codes, digit_value, digits_value, digits_value_after}
use Rattle.fixed_um.proofs.Names.{drop, false, get_or, is_ascii_digit, is_length_byte, IsNumeral, IsSign, le-leb, length, length-append, length-take}
use Rattle.fixed_um.proofs.Names.{List, list_all, minus, minus_if, none, nothing, Numeral, one-le-pow, pointed, refl, signed, StandsFor, sym, take}
use Rattle.fixed_um.proofs.Names.{take-append-drop, take_more, true, ℕ}
use Rattle.std.proofs.lemmas.List.Folds.{list_all-append}
use Rattle.fixed_um.proofs.DigitLemmas.{AllDigits-append, digits_value_after-append, digits_value-below, digit-from_test, value-digit}
use Rattle.fixed_um.proofs.PlainLemmas.{rest_of}
use Rattle.fixed_um.proofs.ReadLemmas.{stands}
use Rattle.fixed_um.proofs.RoundingLemmas.{rounds_exact, abs-signed}

-- ---- the loop over the whole part

-- what is known of the digits so far
abbrev pub AreTaken : List ℕ → ℕ → ℕ → Type 0
AreTaken text i value = AllDigits 10 (take i text) × (value ≡ digits_value_after 10 0 (take i text))

-- so far there are at most seven
pub taken_small : (text : List ℕ) (i value : ℕ) → AreTaken text i value → i ≤ 7 → value < 10 ^ 7
taken_small text i value h few = rw h.1 (digits_value-below 7 (take i text) h.0 (omega (arith, few, length-take i text)))

-- one digit more
pub taken_more : (text : List ℕ) (i value : ℕ) → AreTaken text i value → i < length text → is_ascii_digit (get_or text i 0) ≡ true
    → AreTaken text (i + 1) (value * 10 + (get_or text i 0 - 48))
taken_more text i value h within is =
    let c = get_or text i 0 in
    let digit = digit-from_test c is in
    let value_is : digits_value_after 10 0 (take i text ++ (c ∷ [])) ≡ value * 10 + digit_value c =
    digits_value_after-append 0 (take i text) (c ∷ []) ∙ ap (λ (v : ℕ). digits_value_after 10 v (c ∷ [])) (sym h.1) in
    rw (take_more text i 0 within) (
      AllDigits-append (take i text) (c ∷ []) h.0 (digit, tt),
      omega (arith, value_is, (value-digit c digit).2),
    )

pub digits_taken : (text rest : List ℕ) (i value : ℕ) → AreTaken text i value → i ≤ 7 → rest ≡ drop i text → BeginsWithDigits text rest value
digits_taken text rest i value h few is =
    record {
      digits = take i text;
      parts = sym (take-append-drop i text) ∙ ap (λ (r : List ℕ). take i text ++ r) (sym is);
      all = h.0;
      few = omega (arith, few, length-take i text);
      value_is = h.1;
      small = taken_small text i value h few;
    }

-- ---- its decimals

pub four_rest : (xs : List ℕ) → 4 ≤ length xs → get_or xs 0 0 ≡ 46
    → xs ≡ codes "." ++ (get_or xs 1 0 ∷ get_or xs 2 0 ∷ get_or xs 3 0 ∷ take (length xs - 4) (drop 4 xs))
four_rest [] long h = absurd (omega arith)
four_rest (x ∷ []) long h = absurd (omega arith)
four_rest (x ∷ a ∷ []) long h = absurd (omega arith)
four_rest (x ∷ a ∷ b ∷ []) long h = absurd (omega arith)
four_rest (x ∷ a ∷ b ∷ c ∷ cs) long h = rw (rest_of (x ∷ a ∷ b ∷ c ∷ cs) 4) (ap (λ (y : ℕ). y ∷ a ∷ b ∷ c ∷ cs) h)

pub three_decimals : (text rest : List ℕ) (a b c x y z : ℕ) → text ≡ codes "." ++ (a ∷ b ∷ c ∷ rest) → x ≡ digit_value a → y ≡ digit_value b
    → z ≡ digit_value c → x < 10 → y < 10 → z < 10 → BeginsWithDecimals text rest (x * 100 + y * 10 + z)
three_decimals text rest a b c x y z e p q r f g h =
    record {
      digits = a ∷ b ∷ c ∷ [];
      parts = e;
      all = (omega (arith, p, f), (omega (arith, q, g), (omega (arith, r, h), tt)));
      three = refl;
      goes_on = λ front. omega (arith, p, q, r);
      small = omega (arith, f, g, h);
    }

-- ---- all together

digit_byte : (c : ℕ) → digit_value c < 10 → is_length_byte c ≡ true
digit_byte c h = let d = value-digit c h in and_from _ _ (le-leb 45 c (omega (arith, d.0))) (le-leb c 57 (omega (arith, d.1)))

digit_bytes : (ds : List ℕ) → AllDigits 10 ds → list_all is_length_byte ds ≡ true
digit_bytes [] h = refl
digit_bytes (d ∷ ds) h = and_from _ _ (digit_byte d h.0) (digit_bytes ds h.1)

both_bytes : (a b : List ℕ) → list_all is_length_byte a ≡ true → list_all is_length_byte b ≡ true → list_all is_length_byte (a ++ b) ≡ true
both_bytes a b f g = list_all-append is_length_byte a b ∙ and_from _ _ f g

-- sign, digits, point and digits in front of a rest, put together
joined : (s w d rest : List ℕ) → s ++ (w ++ (codes "." ++ (d ++ rest))) ≡ (s ++ (w ++ (codes "." ++ d))) ++ rest
joined s w d rest = sym (append_assoc s (w ++ (codes "." ++ d)) rest
    ∙ ap (λ (t : List ℕ). s ++ t) (append_assoc w (codes "." ++ d) rest))

front_stands : (s w d : List ℕ) (negative : Bool) (a p : ℕ) → IsSign s negative → AllDigits 10 w → length w ≤ 7 → a ≡ digits_value_after 10 0 w
    → AllDigits 10 d → length d ≡ 3 → ((front : ℕ) → digits_value_after 10 front d ≡ front * 1000 + p)
    → StandsFor 3 (s ++ (w ++ (codes "." ++ d))) (signed negative (a * 1000 + p))
front_stands s w d negative a p is all few value decimals three goes_on =
    let n : Numeral = record { negative = negative; digits = w ++ d; places = length d; raised = 0; lowered = 0 } in
    let spelled : IsNumeral (s ++ (w ++ (codes "." ++ d))) n = record {
      sign = s;
      whole = w;
      point = codes "." ++ d;
      fraction = d;
      exponent = [];
      parts = ap (λ (t : List ℕ). s ++ (w ++ t)) (sym (append-nil (codes "." ++ d)));
      is_sign = is;
      is_whole = all;
      is_fraction = pointed d decimals refl;
      is_exponent = nothing refl;
      digits_are = refl;
      places_are = refl;
      some_digit = omega (arith, length-append w d, three);
    } in
    let digits : a * 1000 + p ≡ digits_value 10 n.digits = sym (digits_value_after-append 0 w d
    ∙ ap (λ (v : ℕ). digits_value_after 10 v d) (sym value) ∙ goes_on a) in
    let exact = rounds_exact (a * 1000 + p) (10 ^ 3) (omega (arith, one-le-pow 3 10 (omega arith))) in
    stands 3 (s ++ (w ++ (codes "." ++ d))) n (a * 1000 + p) (a * 1000 + p) spelled (omega (arith, length-append w d, few, three)) digits
    (rw three exact)

sign_is : (negative : Bool) → IsSign (minus_if negative) negative
sign_is true = minus refl
sign_is false = none refl

sign_bytes : (negative : Bool) → list_all is_length_byte (minus_if negative) ≡ true
sign_bytes true = refl
sign_bytes false = refl

pub length_in_front : (limit : ℕ) (text unsigned behind rest : List ℕ) (negative : Bool) (a p : ℕ) → text ≡ minus_if negative ++ unsigned
    → BeginsWithDigits unsigned behind a → BeginsWithDecimals behind rest p → a * 1000 + p ≤ limit
    → BeginsWithLength limit text rest (signed negative (a * 1000 + p))
length_in_front limit text unsigned behind rest negative a p is w d within =
    let s = minus_if negative in
    record {
      numeral = s ++ (w.digits ++ (codes "." ++ d.digits));
      parts = is ∙ (ap (λ (t : List ℕ). s ++ t) (w.parts ∙ ap (λ (t : List ℕ). w.digits ++ t) d.parts)
          ∙ joined s w.digits d.digits rest);
      some = omega (arith, length-append s (w.digits ++ (codes "." ++ d.digits)), length-append w.digits (codes "." ++ d.digits), d.three);
      bytes = both_bytes s (w.digits ++ (codes "." ++ d.digits)) (sign_bytes negative)
          (both_bytes w.digits (codes "." ++ d.digits) (digit_bytes w.digits w.all)
          (both_bytes (codes ".") d.digits refl (digit_bytes d.digits d.all)));
      reads = (
        front_stands s w.digits d.digits negative a p (sign_is negative) w.all w.few w.value_is d.all d.three d.goes_on,
        rw (abs-signed negative (a * 1000 + p)) within,
      );
    }
