-- Plain texts are read as they were written.
use Rattle.program_lowering.proofs.Names.{[], ◌&&◌, ◌++◌, ◌∙◌, ◌∷◌, ◌≡◌, all_blank, and_parts, ap, append-nil, arith, Bool, cond, cut_at, element_of}
use Rattle.program_lowering.proofs.Names.{eqb, eqb-true, false, inside_after, is_blank, is_outer, is_plain, List, list_all, may_stand, nat_le}
use Rattle.program_lowering.proofs.Names.{nat_tests, None, not, not-true, pieces, refl, Some, sym, to_ascii_uppercase, true, turned}
use Rattle.program_lowering.proofs.Names.{without_end_blanks, without_front_blanks, ℕ}
use Rattle.dmis_text.specs.Elements.{folded}
use Rattle.program_lowering.proofs.Solid.{is_bare, is_solid, solid, stands}

-- what a solid byte is
pub record SolidByte (c : ℕ) : Type 0 where
  pub no_quote : eqb c 39 ≡ false
  pub no_slash : eqb c 47 ≡ false
  pub no_equals : eqb c 61 ≡ false
  pub outer : is_outer c ≡ true

pub solid_byte : (c : ℕ) → is_solid c ≡ true → SolidByte c
solid_byte c h =
    let a = and_parts (nat_le 33 c && nat_le c 126) _ h in
    let p = and_parts (not (eqb c 36)) _ a.1 in
    let q = and_parts (not (eqb c 39)) _ p.1 in
    let r = and_parts (not (eqb c 44)) _ q.1 in
    let s = and_parts (not (eqb c 47)) _ r.1 in
    let t = and_parts (not (eqb c 61)) _ s.1 in
    record {
      no_quote = not-true (eqb c 39) q.0;
      no_slash = not-true (eqb c 47) s.0;
      no_equals = not-true (eqb c 61) t.0;
      outer = rw (a.0, p.0, r.0) t.1;
    }

first_solid : (c : ℕ) (cs : List ℕ) → solid (c ∷ cs) ≡ true → SolidByte c × (solid cs ≡ true)
first_solid c cs h = let both = and_parts (is_solid c) (solid cs) h in (solid_byte c both.0, both.1)

-- a cut at the mark after one
pub cut_slash : (xs rest : List ℕ) → solid xs ≡ true → cut_at 47 false (xs ++ 47 ∷ rest) ≡ Some (xs, rest)
cut_slash [] rest h = refl
cut_slash (c ∷ cs) rest h =
    let b = first_solid c cs h in
    rw (b.0.no_slash, b.0.no_quote, cut_slash cs rest b.1) refl

pub no_slash : (xs : List ℕ) → solid xs ≡ true → cut_at 47 false (xs ++ 32 ∷ []) ≡ None
no_slash [] h = refl
no_slash (c ∷ cs) h = let b = first_solid c cs h in rw (b.0.no_slash, b.0.no_quote, no_slash cs b.1) refl

pub no_equals : (xs : List ℕ) → solid xs ≡ true → cut_at 61 false xs ≡ None
no_equals [] h = refl
no_equals (c ∷ cs) h = let b = first_solid c cs h in rw (b.0.no_equals, b.0.no_quote, no_equals cs b.1) refl

-- a solid text is plain
pub solid_plain : (xs : List ℕ) → solid xs ≡ true → is_plain false xs ≡ true
solid_plain [] h = refl
solid_plain (c ∷ cs) h = let b = first_solid c cs h in rw (b.0.outer, b.0.no_quote) (solid_plain cs b.1)

pub all_plain : (ps : List (List ℕ)) → list_all solid ps ≡ true → list_all (is_plain false) ps ≡ true
all_plain [] h = refl
all_plain (p ∷ ps) h = let both = and_parts (solid p) (list_all solid ps) h in rw (solid_plain p both.0) (all_plain ps both.1)

-- a byte outside texts
record OuterByte (c : ℕ) : Type 0 where
  no_comma : eqb c 44 ≡ false
  no_blank : is_blank c ≡ false
  capital : to_ascii_uppercase c ≡ c
  bare : is_bare c ≡ true

outer_byte : (c : ℕ) → is_outer c ≡ true → OuterByte c
outer_byte c h =
    let a = and_parts (nat_le 33 c && nat_le c 126) _ h in
    let b = and_parts (nat_le 33 c) (nat_le c 126) a.0 in
    let p = and_parts (not (eqb c 36)) _ a.1 in
    let q = and_parts (not (eqb c 44)) _ p.1 in
    record {
      no_comma = not-true (eqb c 44) q.0;
      no_blank = grind (arith, nat_tests);
      capital = eqb-true (to_ascii_uppercase c) c q.1;
      bare = rw (a.0, p.0) refl;
    }

first_plain : (inside : Bool) (c : ℕ) (cs : List ℕ) → is_plain inside (c ∷ cs) ≡ true
    → (cond inside (may_stand true c) (is_outer c) ≡ true) × (is_plain (turned inside c) cs ≡ true)
first_plain inside c cs h = and_parts (cond inside (may_stand true c) (is_outer c)) (is_plain (turned inside c) cs) h

-- no text is open after one
pub closed_after : (inside : Bool) (xs : List ℕ) → is_plain inside xs ≡ true → inside_after inside xs ≡ false
closed_after true [] h = absurd cc
closed_after false [] h = refl
closed_after inside (c ∷ cs) h = closed_after (turned inside c) cs (first_plain inside c cs h).1

-- pieces between commas
piece_before : (inside : Bool) (xs rest : List ℕ) → is_plain inside xs ≡ true → pieces inside (xs ++ 44 ∷ rest) ≡ xs ∷ pieces false rest
piece_before true [] rest h = absurd cc
piece_before false [] rest h = refl
piece_before true (c ∷ cs) rest h = rw (piece_before (turned true c) cs rest (first_plain true c cs h).1) refl
piece_before false (c ∷ cs) rest h =
    let b = first_plain false c cs h in
    rw ((outer_byte c b.0).no_comma, piece_before (turned false c) cs rest b.1) refl

piece_at_end : (inside : Bool) (xs : List ℕ) → is_plain inside xs ≡ true → pieces inside (xs ++ 32 ∷ []) ≡ (xs ++ 32 ∷ []) ∷ []
piece_at_end true [] h = absurd cc
piece_at_end false [] h = refl
piece_at_end true (c ∷ cs) h = rw (piece_at_end (turned true c) cs (first_plain true c cs h).1) refl
piece_at_end false (c ∷ cs) h =
    let b = first_plain false c cs h in
    rw ((outer_byte c b.0).no_comma, piece_at_end (turned false c) cs b.1) refl

pub first_piece : (xs rest : List ℕ) → is_plain false xs ≡ true → pieces false (xs ++ 44 ∷ rest) ≡ xs ∷ pieces false rest
first_piece = piece_before false

pub last_piece : (xs : List ℕ) → is_plain false xs ≡ true → pieces false (xs ++ 32 ∷ []) ≡ (xs ++ 32 ∷ []) ∷ []
last_piece = piece_at_end false

-- a plain text may be in a line
pub plain_stands : (inside : Bool) (xs : List ℕ) → is_plain inside xs ≡ true → stands inside xs ≡ true
plain_stands inside [] h = h
plain_stands true (c ∷ cs) h = let b = first_plain true c cs h in rw b.0 (plain_stands (turned true c) cs b.1)
plain_stands false (c ∷ cs) h = let b = first_plain false c cs h in rw ((outer_byte c b.0).bare) (plain_stands (turned false c) cs b.1)

pub first_stands : (inside : Bool) (c : ℕ) (cs : List ℕ) → stands inside (c ∷ cs) ≡ true
    → (cond inside (may_stand true c) (is_bare c) ≡ true) × (stands (turned inside c) cs ≡ true)
first_stands inside c cs h = and_parts (cond inside (may_stand true c) (is_bare c)) (stands (turned inside c) cs) h

blank_no_quote : (c : ℕ) → is_blank c ≡ true → eqb c 39 ≡ false
blank_no_quote c h = grind (arith, nat_tests)

pub open_not_blank : (xs rest : List ℕ) → stands true xs ≡ true → all_blank (xs ++ rest) ≡ false
open_not_blank [] rest h = absurd cc
open_not_blank (c ∷ cs) rest h = go (is_blank c) refl (first_stands true c cs h).1 (λ behind. open_not_blank cs rest behind)
  where
    go : (b : Bool) → is_blank c ≡ b → stands (turned true c) cs ≡ true → (stands true cs ≡ true → all_blank (cs ++ rest) ≡ false)
        → (b && all_blank (cs ++ rest)) ≡ false
    go false e g none = refl
    go true e g none =
        let behind : stands true cs ≡ true = rw (blank_no_quote c e) at g in
        none behind

-- an element is handed out as it is
folded_same : (inside : Bool) (xs : List ℕ) → is_plain inside xs ≡ true → folded inside xs ≡ xs
folded_same inside [] h = refl
folded_same true (c ∷ cs) h = rw (folded_same (turned true c) cs (first_plain true c cs h).1) refl
folded_same false (c ∷ cs) h =
    let b = first_plain false c cs h in
    rw ((outer_byte c b.0).capital, folded_same (turned false c) cs b.1) refl

end_same : (inside : Bool) (xs rest : List ℕ) → is_plain inside xs ≡ true → without_end_blanks (xs ++ rest) ≡ xs ++ without_end_blanks rest
end_same inside [] rest h = refl
end_same true (c ∷ cs) rest h =
    rw (open_not_blank (c ∷ cs) rest (plain_stands true (c ∷ cs) h), end_same (turned true c) cs rest (first_plain true c cs h).1) refl
end_same false (c ∷ cs) rest h =
    let b = first_plain false c cs h in
    rw ((outer_byte c b.0).no_blank, end_same (turned false c) cs rest b.1) refl

trimmed_same : (xs rest : List ℕ) → is_plain false xs ≡ true → without_front_blanks rest ≡ [] → without_end_blanks rest ≡ []
    → without_end_blanks (without_front_blanks (xs ++ rest)) ≡ xs
trimmed_same [] rest h e g = rw e refl
trimmed_same (c ∷ cs) rest h e g =
    let front : without_front_blanks (c ∷ (cs ++ rest)) ≡ c ∷ (cs ++ rest) = rw (outer_byte c (first_plain false c cs h).0).no_blank refl in
    let end : without_end_blanks (c ∷ (cs ++ rest)) ≡ c ∷ (cs ++ without_end_blanks rest) = end_same false (c ∷ cs) rest h in
    ap without_end_blanks front ∙ (end ∙ (ap (λ (ys : List ℕ). c ∷ (cs ++ ys)) g ∙ append-nil (c ∷ cs)))

pub element_same : (xs : List ℕ) → is_plain false xs ≡ true → element_of xs ≡ xs
element_same xs h =
    let whole : without_end_blanks (without_front_blanks xs) ≡ xs =
    ap (λ (ys : List ℕ). without_end_blanks (without_front_blanks ys)) (sym (append-nil xs)) ∙ trimmed_same xs [] h refl refl in
    rw whole (folded_same false xs h)

pub element_before_blank : (xs : List ℕ) → is_plain false xs ≡ true → element_of (xs ++ 32 ∷ []) ≡ xs
element_before_blank xs h = rw (trimmed_same xs (32 ∷ []) h refl refl) (folded_same false xs h)
