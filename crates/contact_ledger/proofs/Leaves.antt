-- What one field is read as.
use Rattle.contact_ledger.proofs.Names.{[], ◌++◌, ◌<◌, ◌^◌, ◌∙◌, ◌∷◌, ◌≡◌, ◌≤◌, AllDigits, ap, arith, Bool, codes, component_limit, decimal}
use Rattle.contact_ledger.proofs.Names.{decimal_is_IsNumeral, Direction, direction_reads_back, Err, false, fields_behind, fields_of, inl, inr}
use Rattle.contact_ledger.proofs.Names.{IsAscii-decimal, IsDirection, IsLength, List, None, not, Ok, Option, parse-decimal, ParsesUnsigned, pos, refl}
use Rattle.contact_ledger.proofs.Names.{Result, Some, subst, sym, true, unsigned_abs, wire_limit, written, written_component, written_direction}
use Rattle.contact_ledger.proofs.Names.{written_reads_back, ℕ, ℤ}
use Rattle.std.specs.Str.{bytes_eq, IsUtf8}
use Rattle.std.proofs.lemmas.Slice.Eq.{bytes_eq-Decides}
use Rattle.std.proofs.lemmas.Str.{IsUtf8-from_ascii}
use Rattle.fixed_um.specs.Calls.{Finds}
use Rattle.fixed_um.specs.Numerals.{Reads, ReadsDirection}
use Rattle.fixed_um.specs.declared.numerals.NumeralFault.{NumeralFault}
use Rattle.fixed_um.proofs.ReadLemmas.{one_reading}
use Rattle.contact_ledger.proofs.PlainFields.{component_plain}
use Rattle.contact_ledger.proofs.LineFields.{line_fields}

one_length : (scale limit : ℕ) (text : List ℕ) (x y : ℤ) → Reads scale limit text (Ok x) → Reads scale limit text (Ok y) → x ≡ y
one_length scale limit text x y f g = let e = one_reading scale limit text (Ok x) (Ok y) f g in cc

not_refused : (scale limit : ℕ) (text : List ℕ) (x : ℤ) (fault : NumeralFault) → Reads scale limit text (Ok x)
    → Reads scale limit text (Err fault) → ⊥
not_refused scale limit text x fault f g = let e = one_reading scale limit text (Ok x) (Err fault) f g in cc

-- a field that is a length in its written form is read as it
pub length_read : (field : List ℕ) (limit x y : ℤ) → limit ≡ pos wire_limit → Reads 3 (unsigned_abs limit) field (Ok x) → IsLength y
    → field ≡ written y → x ≡ y
length_read field limit x y e h within w =
    let back = subst (λ (t : List ℕ). Reads 3 wire_limit t (Ok y)) (sym w) (written_reads_back wire_limit y within (omega arith)) in
    let read = subst (λ (n : ℤ). Reads 3 (unsigned_abs n) field (Ok x)) e h in
    one_length 3 wire_limit field x y read back

pub length_refused : (field : List ℕ) (limit : ℤ) (fault : NumeralFault) (y : ℤ) → limit ≡ pos wire_limit
    → Reads 3 (unsigned_abs limit) field (Err fault) → IsLength y → field ≡ written y → ⊥
length_refused field limit fault y e h within w =
    let back = subst (λ (t : List ℕ). Reads 3 wire_limit t (Ok y)) (sym w) (written_reads_back wire_limit y within (omega arith)) in
    let read = subst (λ (n : ℤ). Reads 3 (unsigned_abs n) field (Err fault)) e h in
    not_refused 3 wire_limit field y fault back read

-- three fields that are the components of a direction are read as it
same_direction : (d e : Direction) → d.i ≡ e.i → d.j ≡ e.j → d.k ≡ e.k → d ≡ e
same_direction d e p q r = λ n. record { i = p n; j = q n; k = r n }

one_direction : (i j k : List ℕ) (d e : Direction) → ReadsDirection i j k (Ok (Some d)) → ReadsDirection i j k (Ok (Some e)) → d ≡ e
one_direction i j k d e f g = same_direction d e (one_length 6 component_limit i d.i e.i f.0 g.0)
    (one_length 6 component_limit j d.j e.j f.1 g.1) (one_length 6 component_limit k d.k e.k f.2 g.2)

refused_first : (i j k : List ℕ) (d : Direction) (fault : NumeralFault) → ReadsDirection i j k (Ok (Some d))
    → ReadsDirection i j k (Err fault) → ⊥
refused_first i j k d fault f (inl g) = not_refused 6 component_limit i d.i fault f.0 g
refused_first i j k d fault f (inr (inl g)) = not_refused 6 component_limit j d.j fault f.1 g.2
refused_first i j k d fault f (inr (inr g)) = not_refused 6 component_limit k d.k fault f.2 g.4

zero_first : (i j k : List ℕ) (d : Direction) → ReadsDirection i j k (Ok (Some d)) → ReadsDirection i j k (Ok None) → ⊥
zero_first i j k d f g =
    f.3.not_zero (one_length 6 component_limit i d.i (pos 0) f.0 g.0) (one_length 6 component_limit j d.j (pos 0) f.1 g.1)
    (one_length 6 component_limit k d.k (pos 0) f.2 g.2)

reads_written : (i j k : List ℕ) (d : Direction) → IsDirection d → i ≡ written_component d.i → j ≡ written_component d.j
    → k ≡ written_component d.k → ReadsDirection i j k (Ok (Some d))
reads_written i j k d h p q r = rw (p, q, r) (direction_reads_back d h)

pub direction_read : (i j k : List ℕ) (d e : Direction) → ReadsDirection i j k (Ok (Some d)) → IsDirection e → i ≡ written_component e.i
    → j ≡ written_component e.j → k ≡ written_component e.k → d ≡ e
direction_read i j k d e f h p q r = one_direction i j k d e f (reads_written i j k e h p q r)

-- what is read as no direction gives no direction
pub no_direction : (i j k : List ℕ) (e : Direction) (read : Result (Option Direction) NumeralFault) → ReadsDirection i j k read
    → ReadsDirection i j k (Ok (Some e)) → ((d : Direction) → read ≡ Ok (Some d) → ⊥) → ⊥
no_direction i j k e (Ok (Some d)) f g other = other d refl
no_direction i j k e (Ok None) f g other = zero_first i j k e g f
no_direction i j k e (Err fault) f g other = refused_first i j k e fault g f

pub found_direction : (i j k : List ℕ) (found : Option Direction) → ReadsDirection i j k (Ok found)
    → Finds found (λ d. ReadsDirection i j k (Ok (Some d)))
found_direction i j k None h = λ e g. zero_first i j k e g h
found_direction i j k (Some d) h = h

-- a written direction has its components as fields
pub direction_parts : (d : Direction) → IsDirection d → fields_of (written_direction d (codes " "))
    ≡ written_component d.i ∷ written_component d.j ∷ written_component d.k ∷ []
direction_parts d h = line_fields (written_component d.i) (written_component d.j ∷ written_component d.k ∷ [])
    (component_plain d.i h.i_within, (component_plain d.j h.j_within, (component_plain d.k h.k_within, tt)))

-- a number in decimal is text, and is parsed as it
pub number_is_text : (field : List ℕ) (n most : ℕ) → most < 2 ^ 64 → n ≤ most → field ≡ decimal n → IsUtf8 field
number_is_text field n most fits small e = rw e (IsUtf8-from_ascii (decimal n) (IsAscii-decimal n (omega arith)))

pub number_read : {E : Type 0} (field : List ℕ) (n most : ℕ) (r : Result ℕ E) → most < 2 ^ 64 → n ≤ most → field ≡ decimal n
    → ParsesUnsigned 64 10 field r → r ≡ Ok n
number_read field n most r fits small e p = parse-decimal 64 n field r (omega arith) (omega arith) e p

-- what compares as different is different
pub not_same : (a b : List ℕ) → true ≡ not (bytes_eq a b) → a ≡ b → ⊥
not_same a b h e = let t = (bytes_eq-Decides a b).1 e in absurd cc

-- three fields that a written direction has are its components, and what follows them is what follows
pub written_fields : (rest r s t i j k : List ℕ) (d : Direction) (line : List ℕ) → fields_behind rest ≡ i ∷ fields_behind r
    → fields_behind r ≡ j ∷ fields_behind s → fields_behind s ≡ k ∷ fields_behind t → ReadsDirection i j k (Ok (Some d))
    → line ≡ written_direction d (codes " ") → fields_of line ≡ i ∷ j ∷ k ∷ []
    → IsDirection d × (fields_behind rest ≡ written_component d.i ∷ written_component d.j ∷ written_component d.k ∷ fields_behind t)
written_fields rest r s t i j k d line p q u h w e =
    let parts : i ∷ j ∷ k ∷ [] ≡ written_component d.i ∷ written_component d.j ∷ written_component d.k ∷ [] =
    sym e ∙ rw w (direction_parts d h.3) in
    (h.3, p ∙ rw (q, u) (ap (λ (fs : List (List ℕ)). fs ++ fields_behind t) parts))

-- where it has not, they are the components of no direction
pub not_written_fields : (rest r s t i j k : List ℕ) (d e : Direction) (more : List (List ℕ)) (line : List ℕ)
    → fields_behind rest ≡ i ∷ fields_behind r → fields_behind r ≡ j ∷ fields_behind s → fields_behind s ≡ k ∷ fields_behind t
    → ReadsDirection i j k (Ok (Some d)) → IsDirection e
    → fields_behind rest ≡ written_component e.i ∷ written_component e.j ∷ written_component e.k ∷ more
    → line ≡ written_direction d (codes " ") → (fields_of line ≡ i ∷ j ∷ k ∷ [] → ⊥) → ⊥
not_written_fields rest r s t i j k d e more line p q u h g x w other =
    let all : i ∷ j ∷ k ∷ fields_behind t ≡ written_component e.i ∷ written_component e.j ∷ written_component e.k ∷ more =
    sym (p ∙ rw (q, u) refl) ∙ x in
    let a : i ≡ written_component e.i = cc in
    let b : j ≡ written_component e.j = cc in
    let c : k ≡ written_component e.k = cc in
    let same = direction_read i j k d e h g a b c in
    let parts : fields_of line ≡ written_component d.i ∷ written_component d.j ∷ written_component d.k ∷ [] = rw w
    (direction_parts d h.3) in
    let ours : written_component d.i ∷ written_component d.j ∷ written_component d.k ∷ [] ≡ i ∷ j ∷ k ∷ [] = rw (same, a, b, c) refl in
    other (parts ∙ ours)

-- three fields that are not read as a direction are the components of none
pub fields_none : (rest r s t i j k : List ℕ) (e : Direction) (more : List (List ℕ))
    → fields_behind rest ≡ i ∷ fields_behind r → fields_behind r ≡ j ∷ fields_behind s → fields_behind s ≡ k ∷ fields_behind t
    → ((d : Direction) → ReadsDirection i j k (Ok (Some d)) → ⊥) → IsDirection e
    → fields_behind rest ≡ written_component e.i ∷ written_component e.j ∷ written_component e.k ∷ more → ⊥
fields_none rest r s t i j k e more p q u h g x =
    let all : i ∷ j ∷ k ∷ fields_behind t ≡ written_component e.i ∷ written_component e.j ∷ written_component e.k ∷ more =
    sym (p ∙ rw (q, u) refl) ∙ x in
    let a : i ≡ written_component e.i = cc in
    let b : j ≡ written_component e.j = cc in
    let c : k ≡ written_component e.k = cc in
    h e (reads_written i j k e g a b c)

-- a number in decimal is no dash
pub number_no_dash : (n : ℕ) → n < 2 ^ 64 → decimal n ≡ codes "-" → ⊥
number_no_dash n small e =
    let d = (decimal_is_IsNumeral n small).0.1 in
    let digits : AllDigits 10 (codes "-") = rw e at d in
    let low = digits.0 in
    omega (arith, low)

-- what compares as equal is equal
pub same_word : (a b : List ℕ) → false ≡ not (bytes_eq a b) → a ≡ b
same_word a b h = go (bytes_eq a b) refl h
  where
    go : (t : Bool) → bytes_eq a b ≡ t → false ≡ not t → a ≡ b
    go true e h = (bytes_eq-Decides a b).0 e
    go false e h = absurd cc

pub equal_word : (a b : List ℕ) → true ≡ bytes_eq a b → a ≡ b
equal_word a b h = (bytes_eq-Decides a b).0 (sym h)

pub not_equal_word : (a b : List ℕ) → false ≡ bytes_eq a b → a ≡ b → ⊥
not_equal_word a b h e = let t = (bytes_eq-Decides a b).1 e in absurd cc

-- two lengths are not written alike
pub written_one : (x y : ℤ) → IsLength x → IsLength y → written x ≡ written y → x ≡ y
written_one x y f g e = one_length 3 wire_limit (written y) x y
    (subst (λ (t : List ℕ). Reads 3 wire_limit t (Ok x)) e (written_reads_back wire_limit x f (omega arith)))
    (written_reads_back wire_limit y g (omega arith))
