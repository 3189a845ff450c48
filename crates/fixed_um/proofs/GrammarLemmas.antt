-- The steps of the readers find a numeral exactly where the grammar has one, so a text says one numeral at most.
use Rattle.fixed_um.proofs.Names.{[], ◌++◌, ◌<◌, ◌==◌, ◌||◌, ◌∙◌, ◌∷◌, ◌≡◌, ◌≢◌, ◌≤◌, ◌⊎◌, absent, AllDigits, and_from, ap, arith, Bool, codes, cond}
use Rattle.fixed_um.proofs.Names.{cond_some, digit_value, digits_behind, digits_front, digits_value, drop, drop_at, eqb-true, exponent_digits, false}
use Rattle.fixed_um.proofs.Names.{fraction_behind, fraction_front, given, if◌then◌else◌, inl, inr, is_ascii_digit, is_short_number, IsExponent}
use Rattle.fixed_um.proofs.Names.{IsFraction, IsNumeral, IsSign, le-leb, length, List, lt-ltb, ltb-true, minus, nat_lt, ne_eqb, None, none, nothing}
use Rattle.fixed_um.proofs.Names.{Numeral, numeral_with, Option, or_cases, plus, pointed, prefix_len, refl, same_Some, slice_index, Some}
use Rattle.fixed_um.proofs.Names.{starts_with_minus, subst, sym, take-append-drop, take_at, true, without_leading_sign, ℕ}
use Rattle.fixed_um.specs.Scan.{exponent_of, numeral_of}
use Rattle.fixed_um.proofs.DigitLemmas.{AllDigits-front, AllDigits-to_test, short_number, digit-to_test, value-digit}

-- ---- from the steps to the grammar

-- a text is its sign and what follows it
record SignSplit (text : List ℕ) : Type 0 where
  sign : List ℕ
  whole : text ≡ sign ++ without_leading_sign text
  is : IsSign sign (starts_with_minus text)

sign_step : (c : ℕ) (cs : List ℕ) (b d : Bool) → (c == 45) ≡ b → (c == 43) ≡ d → (sign : List ℕ)
    × ((c ∷ cs) ≡ sign ++ cond b (drop 1 (c ∷ cs)) (drop (cond d 1 0) (c ∷ cs))) × IsSign sign b
sign_step c cs true d p q = (codes "-", ap (λ (x : ℕ). x ∷ cs) (eqb-true c 45 p), minus refl)
sign_step c cs false true p q = (codes "+", ap (λ (x : ℕ). x ∷ cs) (eqb-true c 43 q), plus refl)
sign_step c cs false false p q = ([], refl, none refl)

sign_split : (text : List ℕ) → SignSplit text
sign_split [] = record { sign = []; whole = refl; is = none refl }
sign_split (c ∷ cs) =
    let s = sign_step c cs (c == 45) (c == 43) refl refl in
    record { sign = s.0; whole = s.1; is = s.2 }

-- a text is its point with digits and what follows them
record FractionSplit (text : List ℕ) : Type 0 where
  point : List ℕ
  whole : text ≡ point ++ fraction_behind text
  is : IsFraction point (fraction_front text)

fraction_step : (c : ℕ) (cs : List ℕ) (b : Bool) → (c == 46) ≡ b → (point : List ℕ)
    × ((c ∷ cs) ≡ point ++ cond b (digits_behind (drop 1 (c ∷ cs))) (c ∷ cs))
    × IsFraction point (cond b (digits_front (drop 1 (c ∷ cs))) [])
fraction_step c cs true p = (
  46 ∷ digits_front cs,
  rw (eqb-true c 46 p) (ap (λ (x : List ℕ). 46 ∷ x) (sym (take-append-drop (prefix_len is_ascii_digit cs) cs))),
  pointed (digits_front cs) (AllDigits-front cs) refl,
)
fraction_step c cs false p = ([], refl, absent refl)

fraction_split : (text : List ℕ) → FractionSplit text
fraction_split [] = record { point = []; whole = refl; is = absent refl }
fraction_split (c ∷ cs) =
    let s = fraction_step c cs (c == 46) refl in
    record { point = s.0; whole = s.1; is = s.2 }

abbrev the_exponent : ℕ × ℕ → Option (ℕ × ℕ)
the_exponent e = Some e

exponent_digits_found : (mark more : List ℕ) (b : Bool) (e : ℕ × ℕ) → (mark ≡ codes "E") ⊎ (mark ≡ codes "e")
    → is_short_number (without_leading_sign more) ≡ b → cond b
    (the_exponent (
      if (starts_with_minus more) then 0 else (digits_value 10 (without_leading_sign more)),
      if (starts_with_minus more) then (digits_value 10 (without_leading_sign more)) else 0,
    )) None ≡ Some e
    → IsExponent (mark ++ more) e.0 e.1
exponent_digits_found mark more false e m h p = absurd cc
exponent_digits_found mark more true e m h p =
    let s = sign_split more in
    let n = short_number (without_leading_sign more) h in
    subst (λ (x : ℕ × ℕ). IsExponent (mark ++ more) x.0 x.1) (same_Some _ _ p)
    (given mark s.sign (without_leading_sign more) (starts_with_minus more) m s.is n.all n.some n.few
    (ap (λ (x : List ℕ). mark ++ x) s.whole))

mark_is : (c : ℕ) → (c == 69 || c == 101) ≡ true → ((c ∷ []) ≡ codes "E") ⊎ ((c ∷ []) ≡ codes "e")
mark_is c h =
    elim (or_cases (c == 69) (c == 101) h) [
      | inl p ↦ inl (ap (λ (x : ℕ). x ∷ []) (eqb-true c 69 p))
      | inr p ↦ inr (ap (λ (x : ℕ). x ∷ []) (eqb-true c 101 p))
    ]

exponent_mark_found : (c : ℕ) (more : List ℕ) (b : Bool) (e : ℕ × ℕ) → (c == 69 || c == 101) ≡ b
    → cond b (exponent_digits (starts_with_minus more) (without_leading_sign more)) None ≡ Some e → IsExponent (c ∷ more) e.0 e.1
exponent_mark_found c more false e m p = absurd cc
exponent_mark_found c more true e m p = exponent_digits_found (c ∷ []) more (is_short_number (without_leading_sign more)) e (mark_is c m)
    refl p

exponent_found : (text : List ℕ) (e : ℕ × ℕ) → exponent_of text ≡ Some e → IsExponent text e.0 e.1
unfolding exponent_of
exponent_found [] e p = subst (λ (x : ℕ × ℕ). IsExponent [] x.0 x.1) (same_Some _ _ p) (nothing refl)
exponent_found (c ∷ more) e p = exponent_mark_found c more (c == 69 || c == 101) e refl p

numeral_with_found : (negative : Bool) (whole fraction : List ℕ) (o : Option (ℕ × ℕ)) (n : Numeral)
    → numeral_with negative whole fraction o ≡ Some n → (e : ℕ × ℕ) × (o ≡ Some e) × (0 < length (whole ++ fraction))
    × (record { negative = negative; digits = whole ++ fraction; places = length fraction; raised = e.0; lowered = e.1 } ≡ n)
numeral_with_found negative whole fraction None n p = absurd cc
numeral_with_found negative whole fraction (Some e) n p =
    let q = cond_some (nat_lt 0 (length (whole ++ fraction))) _ _ p in
    (e, refl, ltb-true _ _ q.0, q.1)

pub numeral_found : (text : List ℕ) (n : Numeral) → numeral_of text ≡ Some n → IsNumeral text n
unfolding numeral_of
numeral_found text n p =
    let s = sign_split text in
    let body = without_leading_sign text in
    let f = fraction_split (digits_behind body) in
    let q = numeral_with_found (starts_with_minus text) (digits_front body) (fraction_front (digits_behind body))
    (exponent_of (fraction_behind (digits_behind body))) n p in
    subst (λ (m : Numeral). IsNumeral text m) q.3 (record {
      sign = s.sign;
      whole = digits_front body;
      point = f.point;
      fraction = fraction_front (digits_behind body);
      exponent = fraction_behind (digits_behind body);
      parts = s.whole ∙ ap (λ (x : List ℕ). s.sign ++ x) (sym (take-append-drop (prefix_len is_ascii_digit body) body)
          ∙ ap (λ (x : List ℕ). digits_front body ++ x) f.whole);
      is_sign = s.is;
      is_whole = AllDigits-front body;
      is_fraction = f.is;
      is_exponent = exponent_found (fraction_behind (digits_behind body)) q.0 q.1;
      digits_are = refl;
      places_are = refl;
      some_digit = q.2;
    })

-- ---- from the grammar to the steps

-- what begins with no digit
abbrev Stops : List ℕ → Type 0
Stops [] = Unit {0}
Stops (c ∷ more) = is_ascii_digit c ≡ false

prefix_len-exact : (ds rest : List ℕ) → AllDigits 10 ds → Stops rest → prefix_len is_ascii_digit (ds ++ rest) ≡ length ds
prefix_len-exact [] [] all stops = refl
prefix_len-exact [] (c ∷ more) all stops = rw stops refl
prefix_len-exact (d ∷ ds) rest all stops = rw (digit-to_test d all.0, prefix_len-exact ds rest all.1 stops) (omega arith)

front_exact : (ds rest : List ℕ) → AllDigits 10 ds → Stops rest → digits_front (ds ++ rest) ≡ ds
front_exact ds rest all stops = rw (prefix_len-exact ds rest all stops) (take_at ds rest (length ds) refl)

behind_exact : (ds rest : List ℕ) → AllDigits 10 ds → Stops rest → digits_behind (ds ++ rest) ≡ rest
behind_exact ds rest all stops = rw (prefix_len-exact ds rest all stops) (drop_at ds rest (length ds) refl)

-- an exponent begins with its mark, or is nothing
abbrev StartsExponent : List ℕ → Type 0
StartsExponent [] = Unit {0}
StartsExponent (c ∷ more) = (c ≡ 69) ⊎ (c ≡ 101)

exponent_starts : (text : List ℕ) (u d : ℕ) → IsExponent text u d → StartsExponent text
exponent_starts text u d (nothing e) = rw e tt
exponent_starts text u d (given mark sign ds negative m s all some few e) =
    elim m [
      | inl p ↦ rw (e, p) (inl refl)
      | inr p ↦ rw (e, p) (inr refl)
    ]

exponent_stops : (text : List ℕ) → StartsExponent text → Stops text
exponent_stops [] h = tt
exponent_stops (c ∷ more) h = elim h [ inl p ↦ rw p refl | inr p ↦ rw p refl ]

fraction_stops : (point fraction exponent : List ℕ) → IsFraction point fraction → StartsExponent exponent → Stops (point ++ exponent)
fraction_stops point fraction exponent (absent e) h = rw e (exponent_stops exponent h)
fraction_stops point fraction exponent (pointed ds all e) h = rw e refl

no_point : (exponent : List ℕ) → StartsExponent exponent → (slice_index exponent 0 == 46) ≡ false
no_point [] h = refl
no_point (c ∷ more) h = elim h [ inl p ↦ rw p refl | inr p ↦ rw p refl ]

fraction_exact : (point fraction exponent : List ℕ) → IsFraction point fraction → StartsExponent exponent
    → (fraction_front (point ++ exponent) ≡ fraction) × (fraction_behind (point ++ exponent) ≡ exponent)
fraction_exact point fraction exponent (absent e) h = rw (e, no_point exponent h) (refl, refl)
fraction_exact point fraction exponent (pointed ds all e) h =
    rw e (front_exact ds exponent all (exponent_stops exponent h), behind_exact ds exponent all (exponent_stops exponent h))

-- what begins with a digit or a point has no sign
abbrev StartsPlain : List ℕ → Type 0
StartsPlain [] = ⊥
StartsPlain (c ∷ more) = (c ≢ 45) × (c ≢ 43)

digit_plain : (c : ℕ) → digit_value c < 10 → (c ≢ 45) × (c ≢ 43)
digit_plain c h = let d = value-digit c h in (λ e. omega (arith, d.0), λ e. omega (arith, d.0))

plain_start : (whole point fraction exponent : List ℕ) → AllDigits 10 whole → IsFraction point fraction → 0 < length (whole ++ fraction)
    → StartsPlain (whole ++ (point ++ exponent))
plain_start (w ∷ ws) point fraction exponent all f some = digit_plain w all.0
plain_start [] point fraction exponent all (absent e) some = absurd (omega arith)
plain_start [] point fraction exponent all (pointed ds digits e) some =
    subst (λ (t : List ℕ). StartsPlain (t ++ exponent)) (sym e) (λ p. absurd (omega (arith, p)), λ p. absurd (omega (arith, p)))

signless : (body : List ℕ) → StartsPlain body → (starts_with_minus body ≡ false) × (without_leading_sign body ≡ body)
signless [] h = absurd h
signless (c ∷ more) h = (ne_eqb c 45 h.0, rw (ne_eqb c 45 h.0, ne_eqb c 43 h.1) refl)

sign_exact : (sign body : List ℕ) (negative : Bool) → IsSign sign negative → StartsPlain body
    → (starts_with_minus (sign ++ body) ≡ negative) × (without_leading_sign (sign ++ body) ≡ body)
sign_exact sign body negative (none e) h = rw e (signless body h)
sign_exact sign body negative (plus e) h = rw e (refl, refl)
sign_exact sign body negative (minus e) h = rw e (refl, refl)

-- ---- the exponent, and all together

short_number_exact : (ds : List ℕ) → AllDigits 10 ds → 1 ≤ length ds → length ds ≤ 3 → is_short_number ds ≡ true
short_number_exact ds all some few = and_from _ _ (AllDigits-to_test ds all)
    (and_from _ _ (le-leb 1 (length ds) some) (le-leb (length ds) 3 few))

digits_plain : (ds : List ℕ) → AllDigits 10 ds → 1 ≤ length ds → StartsPlain ds
digits_plain [] all some = absurd (omega arith)
digits_plain (d ∷ ds) all some = digit_plain d all.0

mark_test : (c : ℕ) (more : List ℕ) → (c ≡ 69) ⊎ (c ≡ 101) → exponent_of (c ∷ more)
    ≡ exponent_digits (starts_with_minus more) (without_leading_sign more)
unfolding exponent_of
mark_test c more h = elim h [ inl p ↦ rw p refl | inr p ↦ rw p refl ]

mark_exact : (mark more : List ℕ) → (mark ≡ codes "E") ⊎ (mark ≡ codes "e")
    → exponent_of (mark ++ more) ≡ exponent_digits (starts_with_minus more) (without_leading_sign more)
mark_exact mark more h = elim h [ inl p ↦ rw p (mark_test 69 more (inl refl)) | inr p ↦ rw p (mark_test 101 more (inr refl)) ]

exponent_exact : (text : List ℕ) (u d : ℕ) → IsExponent text u d → exponent_of text ≡ Some (u, d)
unfolding exponent_of
exponent_exact text u d (nothing e) = rw e refl
exponent_exact text u d (given mark sign ds negative m s all some few e) =
    let x = sign_exact sign ds negative s (digits_plain ds all some) in
    rw (e, mark_exact mark (sign ++ ds) m, x.1, x.0, short_number_exact ds all some few) refl

same_numeral : (negative : Bool) (digits : List ℕ) (places raised lowered : ℕ) (n : Numeral) → negative ≡ n.negative → digits ≡ n.digits
    → places ≡ n.places → raised ≡ n.raised → lowered ≡ n.lowered
    → record { negative = negative; digits = digits; places = places; raised = raised; lowered = lowered } ≡ n
same_numeral negative digits places raised lowered n a b c d e =
    λ i. record { negative = a i; digits = b i; places = c i; raised = d i; lowered = e i }

pub numeral_only : (text : List ℕ) (n : Numeral) → IsNumeral text n → numeral_of text ≡ Some n
unfolding numeral_of
numeral_only text n h =
    let starts = exponent_starts h.exponent n.raised n.lowered h.is_exponent in
    let some : 0 < length (h.whole ++ h.fraction) = subst (λ (ds : List ℕ). 0 < length ds) h.digits_are h.some_digit in
    let body : List ℕ = h.whole ++ (h.point ++ h.exponent) in
    let sign = sign_exact h.sign body n.negative h.is_sign (plain_start h.whole h.point h.fraction h.exponent h.is_whole h.is_fraction some)
    in
    let stops = fraction_stops h.point h.fraction h.exponent h.is_fraction starts in
    let fraction = fraction_exact h.point h.fraction h.exponent h.is_fraction starts in
    rw (
      h.parts,
      sign.1,
      sign.0,
      front_exact h.whole (h.point ++ h.exponent) h.is_whole stops,
      behind_exact h.whole (h.point ++ h.exponent) h.is_whole stops,
      fraction.0,
      fraction.1,
      exponent_exact h.exponent n.raised n.lowered h.is_exponent,
      lt-ltb 0 (length (h.whole ++ h.fraction)) some,
    )
    (ap (λ (m : Numeral). Some m) (same_numeral n.negative (h.whole ++ h.fraction) (length h.fraction) n.raised n.lowered n refl
    (sym h.digits_are) (sym h.places_are) refl refl))

-- a text says one numeral at most
pub one_numeral : (text : List ℕ) (m n : Numeral) → IsNumeral text m → IsNumeral text n → m ≡ n
one_numeral text m n h g = same_Some m n (sym (numeral_only text m h) ∙ numeral_only text n g)
