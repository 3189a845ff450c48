-- Numerals that one machine word takes.
use Rattle.fixed_um.proofs.Names.{[], ◌*◌, ◌++◌, ◌+◌, ◌-◌, ◌<◌, ◌^◌, ◌∙◌, ◌∷◌, ◌≡◌, ◌≤◌, add-one, add-zero, ap, append-nil, arith, digit_value}
use Rattle.fixed_um.proofs.Names.{digits_behind, digits_front, digits_value_after, drop, drop-cons, false, get_or, is_ascii_digit, IsPlain, length}
use Rattle.fixed_um.proofs.Names.{length-append, length-drop, List, lt-ltb, prefix_len, refl, RoundsUp, signed, StandsFor, starts_with_minus, subst}
use Rattle.fixed_um.proofs.Names.{sym, take, take-append-drop, take_all, true, without_leading_sign, ℕ}
use Rattle.fixed_um.specs.Scan.{exponent_of, numeral_of}
use Rattle.fixed_um.specs.declared.plain.Plain.{Plain}
use Rattle.fixed_um.proofs.DigitLemmas.{AllDigits-front, AllDigits-append, digit-from_test, digits_value-below, digits_value-parts}
use Rattle.fixed_um.proofs.DigitLemmas.{digits_value_after-ge, value-digit, one_more}
use Rattle.fixed_um.proofs.GrammarLemmas.{numeral_found}
use Rattle.fixed_um.proofs.ReadLemmas.{stands}

-- ---- slices

-- what follows the first n elements, as a slice to the end
pub rest_of : (xs : List ℕ) (i : ℕ) → take (length xs - i) (drop i xs) ≡ drop i xs
rest_of xs i = take_all (length xs - i) (drop i xs) (omega (arith, length-drop i xs))

pub pointed_rest : (xs : List ℕ) → get_or xs 0 0 ≡ 46 → xs ≡ 46 ∷ take (length xs - 1) (drop 1 xs)
pointed_rest [] h = absurd (omega (arith, h))
pointed_rest (c ∷ cs) h = rw (rest_of (c ∷ cs) 1) (ap (λ (x : ℕ). x ∷ cs) h)

pub no_rest : (xs : List ℕ) → length xs < 1 → xs ≡ []
no_rest [] h = refl
no_rest (c ∷ cs) h = absurd (omega (arith, h))

-- ---- the loop over digits

-- the digits of a text that begins with one, and with none
front-digit : (c : ℕ) (cs : List ℕ) → is_ascii_digit c ≡ true → digits_front (c ∷ cs) ≡ c ∷ digits_front cs
front-digit c cs h = rw (h, one_more (prefix_len is_ascii_digit cs)) refl

behind-digit : (c : ℕ) (cs : List ℕ) → is_ascii_digit c ≡ true → digits_behind (c ∷ cs) ≡ digits_behind cs
behind-digit c cs h = rw (h, one_more (prefix_len is_ascii_digit cs)) refl

front-other : (c : ℕ) (cs : List ℕ) → is_ascii_digit c ≡ false → digits_front (c ∷ cs) ≡ []
front-other c cs h = rw h refl

behind-other : (c : ℕ) (cs : List ℕ) → is_ascii_digit c ≡ false → digits_behind (c ∷ cs) ≡ c ∷ cs
behind-other c cs h = rw h refl

at_place : (text : List ℕ) (i : ℕ) → i < length text → drop i text ≡ get_or text i 0 ∷ drop (i + 1) text
at_place text i within = rw (add-one, drop-cons text i 0) refl

-- what the loop knows at a digit
pub record DigitHere (value front : ℕ) (text : List ℕ) (i c : ℕ) : Type 0 where
  pub value_is : digit_value c ≡ c - 48
  pub high : 48 ≤ c
  pub more : digits_value_after 10 (value * 10 + (c - 48)) (digits_front (drop (i + 1) text))
      ≡ digits_value_after 10 front (digits_front text)
  pub behind : digits_behind (drop (i + 1) text) ≡ digits_behind text
  pub small : value * 10 + (c - 48) ≤ digits_value_after 10 front (digits_front text)

pub digit_here : (value front : ℕ) (text : List ℕ) (i : ℕ) → i < length text → is_ascii_digit (get_or text i 0) ≡ true
    → digits_value_after 10 value (digits_front (drop i text)) ≡ digits_value_after 10 front (digits_front text)
    → digits_behind (drop i text) ≡ digits_behind text → DigitHere value front text i (get_or text i 0)
digit_here value front text i within h e b =
    let c = get_or text i 0 in
    let is = value-digit c (digit-from_test c h) in
    let more : digits_value_after 10 (value * 10 + (c - 48)) (digits_front (drop (i + 1) text))
    ≡ digits_value_after 10 front (digits_front text) =
    rw (sym is.2) (rw (at_place text i within, front-digit c (drop (i + 1) text) h) at e) in
    record {
      value_is = is.2;
      high = is.0;
      more = more;
      behind = rw (at_place text i within, behind-digit c (drop (i + 1) text) h) at b;
      small = subst (λ (n : ℕ). value * 10 + (c - 48) ≤ n) more (digits_value_after-ge (value * 10 + (c - 48)) (digits_front (drop (i + 1) text)));
    }

-- at another byte the digits have ended
pub ended_here : (value front : ℕ) (text : List ℕ) (i : ℕ) → i < length text → is_ascii_digit (get_or text i 0) ≡ false
    → digits_value_after 10 value (digits_front (drop i text)) ≡ digits_value_after 10 front (digits_front text)
    → digits_behind (drop i text) ≡ digits_behind text
    → (value ≡ digits_value_after 10 front (digits_front text)) × (drop i text ≡ digits_behind text)
ended_here value front text i within h e b =
    let c = get_or text i 0 in (
      rw (at_place text i within, front-other c (drop (i + 1) text) h) at e,
      rw (sym (at_place text i within)) at (rw (at_place text i within, behind-other c (drop (i + 1) text) h) at b),
    )

-- ---- the digits of a text and what follows them

parts : (text : List ℕ) → length (digits_front text) + length (digits_behind text) ≡ length text
parts text = sym (length-append (digits_front text) (digits_behind text))
    ∙ ap (λ (t : List ℕ). length t) (take-append-drop (prefix_len is_ascii_digit text) text)

front_length : (text : List ℕ) → length (digits_front text) ≤ length text
front_length text = omega (arith, parts text)

text_length : (text fraction : List ℕ) → digits_behind text ≡ 46 ∷ fraction → length (digits_front text) + (length fraction + 1) ≡ length text
text_length text fraction e =
    let p : length (digits_front text) + length (46 ∷ fraction) ≡ length text = rw e at (parts text) in
    omega (arith, p)

front_all : (text : List ℕ) → digits_behind text ≡ [] → digits_front text ≡ text
front_all text e = sym (append-nil (digits_front text)) ∙ ap (λ (t : List ℕ). digits_front text ++ t) (sym e)
    ∙ take-append-drop (prefix_len is_ascii_digit text) text

-- ---- the value fits

pub whole_fits : (text : List ℕ) → length text ≤ 19 → digits_value_after 10 0 (digits_front text) < 10 ^ 19
whole_fits text few = digits_value-below 19 (digits_front text) (AllDigits-front text)
    (omega (arith, few, front_length text))

pub fraction_fits : (text fraction : List ℕ) → length text ≤ 19 → digits_behind text ≡ 46 ∷ fraction
    → digits_value_after 10 (digits_value_after 10 0 (digits_front text)) (digits_front fraction) < 10 ^ 19
fraction_fits text fraction few e = rw (digits_value-parts (digits_front text) (digits_front fraction))
    (digits_value-below 19 (digits_front text ++ digits_front fraction)
    (AllDigits-append (digits_front text) (digits_front fraction) (AllDigits-front text) (AllDigits-front fraction))
    (omega (arith, few, text_length text fraction e, front_length fraction, length-append (digits_front text) (digits_front fraction))))

-- ---- the numeral that is found

-- a text whose digits go to its end
pub whole_is_plain : (bytes : List ℕ) (p : Plain) → length (without_leading_sign bytes) ≤ 19 → 0 < length (without_leading_sign bytes)
    → digits_behind (without_leading_sign bytes) ≡ [] → starts_with_minus bytes ≡ p.negative
    → digits_value_after 10 0 (digits_front (without_leading_sign bytes)) ≡ p.digits → p.places ≡ 0 → IsPlain bytes p
unfolding numeral_of exponent_of
whole_is_plain bytes p few some e negative digits places =
    let text = without_leading_sign bytes in
    let all = front_all text e in
    record {
      numeral = record { negative = starts_with_minus bytes; digits = digits_front text ++ []; places = 0; raised = 0; lowered = 0 };
      found = rw (e, lt-ltb 0 (length (digits_front text ++ [])) (rw (append-nil (digits_front text), all) some)) refl;
      short = rw (append-nil (digits_front text), all) few;
      negative_is = negative;
      value_is = rw (append-nil (digits_front text)) digits;
      places_are = sym places;
      few_places = omega (arith, places);
      not_raised = refl;
      not_lowered = refl;
    }

-- a text whose digits continue after a point to its end
pub fraction_is_plain : (bytes fraction : List ℕ) (p : Plain) → length (without_leading_sign bytes) ≤ 19
    → 1 < length (without_leading_sign bytes) → digits_behind (without_leading_sign bytes) ≡ 46 ∷ fraction → digits_behind fraction ≡ []
    → starts_with_minus bytes ≡ p.negative
    → digits_value_after 10 (digits_value_after 10 0 (digits_front (without_leading_sign bytes))) (digits_front fraction) ≡ p.digits
    → p.places ≡ length fraction → IsPlain bytes p
unfolding numeral_of exponent_of
fraction_is_plain bytes fraction p few some e ended negative digits places =
    let text = without_leading_sign bytes in
    let all = front_all fraction ended in
    let sum : length (digits_front text ++ fraction) + 1 ≡ length text =
    omega (arith, length-append (digits_front text) fraction, text_length text fraction e) in
    record {
      numeral = record {
        negative = starts_with_minus bytes;
        digits = digits_front text ++ fraction;
        places = length fraction;
        raised = 0;
        lowered = 0;
      };
      found = rw (e, ended, all, lt-ltb 0 (length (digits_front text ++ fraction)) (omega (arith, sum, some))) refl;
      short = omega (arith, sum, few);
      negative_is = negative;
      value_is = sym (digits_value-parts (digits_front text) fraction) ∙ (rw all at digits);
      places_are = sym places;
      few_places = omega (arith, places, text_length text fraction e, few);
      not_raised = refl;
      not_lowered = refl;
    }

-- ---- what it stands for

pub plain_stands : (scale : ℕ) (text : List ℕ) (p : Plain) (m : ℕ) → IsPlain text p → RoundsUp (p.digits * 10 ^ scale) (10 ^ p.places) m
    → StandsFor scale text (signed p.negative m)
plain_stands scale text p m h r =
    rw h.negative_is at
    (stands scale text h.numeral p.digits m (numeral_found text h.numeral h.found) (omega (arith, h.short)) (sym h.value_is)
    (rw (h.not_raised, h.not_lowered, h.places_are, add-zero, add-zero) r))
