-- A written line is read as the statement that it was written of.
use Rattle.program_lowering.proofs.Names.{[], ◌&&◌, ◌*◌, ◌++◌, ◌+◌, ◌<◌, ◌^◌, ◌∷◌, ◌≡◌, ◌≤◌, after_word, all_blank, AllDigits, and_from, and_parts}
use Rattle.program_lowering.proofs.Names.{ap, append_assoc, arith, before_comment, begins_comment, Bool, codes, cond, decimal, decimal_is_IsNumeral}
use Rattle.program_lowering.proofs.Names.{digit_value, element_of, eqb, false, Flat, flat_line, flat_text, is_blank, is_clean, is_continued, is_line}
use Rattle.program_lowering.proofs.Names.{is_plain, Last, leb-true, length, length-append, length-decimal-le, line_role, List, list_all}
use Rattle.program_lowering.proofs.Names.{list_all-append, map, may_stand, nat_le, nat_lt, nat_tests, None, not, not-true, pieces, refl, Role}
use Rattle.program_lowering.proofs.Names.{Statement, statement_of, true, turned, with_commas, ℕ}
use Rattle.program_lowering.proofs.Names.{◌%◌, ◌/◌, ◌==◌, append-nil, subst, suc, sym, zero}
use Rattle.program_lowering.specs.Flats.{with_pass}
use Rattle.std.proofs.Common.{mod-lt, lt-ltb}
use Rattle.std.specs.Fmt.{digit_glyph, digits, digits_onto}
use Rattle.program_lowering.proofs.Solid.{is_bare, solid, stands, IsSolid}
use Rattle.program_lowering.proofs.SolidLemmas.{all_plain, cut_slash, no_slash, no_equals, first_piece, last_piece, first_stands, open_not_blank}
use Rattle.program_lowering.proofs.SolidLemmas.{element_same, element_before_blank, plain_stands, solid_plain}

-- the statement that a flat one is, on a line
abbrev pub flat_statement : Flat → ℕ → Statement
flat_statement f n = record { line = n; label = None; word = f.word; params = f.params }

-- parameters with a blank after the last
params_read : (p : List ℕ) (ps : List (List ℕ)) → list_all (is_plain false) (p ∷ ps) ≡ true
    → map element_of (pieces false (with_commas p ps ++ 32 ∷ [])) ≡ p ∷ ps
params_read p [] h =
    let both = and_parts (is_plain false p) true h in
    rw (last_piece p both.0, element_before_blank p both.0) refl
params_read p (q ∷ ps) h =
    let both = and_parts (is_plain false p) (list_all (is_plain false) (q ∷ ps)) h in
    rw (append_assoc p (44 ∷ with_commas q ps) (32 ∷ []), first_piece p (with_commas q ps ++ 32 ∷ []) both.0, element_same p both.0)
    (ap (λ (rest : List (List ℕ)). p ∷ rest) (params_read q ps both.1))

pub statement_read : (n : ℕ) (word : List ℕ) (params : List (List ℕ)) → solid word ≡ true → list_all (is_plain false) params ≡ true
    → statement_of n ((word ++ after_word params) ++ 32 ∷ []) ≡ flat_statement (record { word = word; params = params }) n
statement_read n word [] h g =
    rw (append_assoc word [] (32 ∷ []), no_slash word h, element_before_blank word (solid_plain word h)) refl
statement_read n word (p ∷ ps) h g =
    rw (
      append_assoc word (47 ∷ with_commas p ps) (32 ∷ []),
      cut_slash word (with_commas p ps ++ 32 ∷ []) h,
      no_equals word h,
      params_read p ps g,
      element_same word (solid_plain word h),
    )
    refl

-- a text in front of the rest of a line
record BareByte (c : ℕ) : Type 0 where
  no_dollar : eqb c 36 ≡ false
  no_blank : is_blank c ≡ false
  bound : may_stand false c ≡ true
  free : may_stand true c ≡ true

bare_byte : (c : ℕ) → is_bare c ≡ true → BareByte c
bare_byte c h =
    let a = and_parts (nat_le 33 c && nat_le c 126) _ h in
    let b = and_parts (nat_le 33 c) (nat_le c 126) a.0 in
    record {
      no_dollar = not-true (eqb c 36) a.1;
      no_blank = grind (arith, nat_tests);
      bound = grind (arith, nat_tests);
      free = grind (arith, nat_tests);
    }

no_comment : (c : ℕ) (rest : List ℕ) → eqb c 36 ≡ false → begins_comment false (c ∷ rest) ≡ false
no_comment c [] h = refl
no_comment c (d ∷ rest) h = rw h refl

no_comment_inside : (c : ℕ) (rest : List ℕ) → begins_comment true (c ∷ rest) ≡ false
no_comment_inside c [] = refl
no_comment_inside c (d ∷ rest) = refl

content_before : (inside : Bool) (xs rest : List ℕ) → stands inside xs ≡ true → before_comment inside (xs ++ rest) ≡ xs ++ before_comment false rest
content_before true [] rest h = absurd cc
content_before false [] rest h = refl
content_before true (c ∷ cs) rest h =
    rw (no_comment_inside c (cs ++ rest), content_before (turned true c) cs rest (first_stands true c cs h).1) refl
content_before false (c ∷ cs) rest h =
    let b = first_stands false c cs h in
    rw (no_comment c (cs ++ rest) (bare_byte c b.0).no_dollar, content_before (turned false c) cs rest b.1) refl

clean_before : (inside : Bool) (xs rest : List ℕ) → stands inside xs ≡ true → is_clean false rest ≡ true → is_clean inside (xs ++ rest) ≡ true
clean_before true [] rest h g = absurd cc
clean_before false [] rest h g = g
clean_before true (c ∷ cs) rest h g =
    let b = first_stands true c cs h in
    rw (no_comment_inside c (cs ++ rest), b.0) (clean_before (turned true c) cs rest b.1 g)
clean_before false (c ∷ cs) rest h g =
    let b = first_stands false c cs h in
    rw (no_comment c (cs ++ rest) (bare_byte c b.0).no_dollar, (bare_byte c b.0).bound) (clean_before (turned false c) cs rest b.1 g)

by_last : (t b r : Bool) → (t && b) ≡ false → r ≡ false → cond t b r ≡ false
by_last true b r h g = h
by_last false b r h g = g

dollar_no_quote : (c : ℕ) → eqb c 36 ≡ true → eqb c 39 ≡ false
dollar_no_quote c h = grind (arith, nat_tests)

not_continued : (inside : Bool) (xs : List ℕ) → stands inside xs ≡ true → is_continued (xs ++ 32 ∷ []) ≡ false
not_continued inside [] h = refl
not_continued false (c ∷ cs) h =
    let b = first_stands false c cs h in
    by_last (all_blank (cs ++ 32 ∷ [])) (eqb c 36) (is_continued (cs ++ 32 ∷ [])) (rw (bare_byte c b.0).no_dollar (none (all_blank (cs ++ 32 ∷ []))))
    (not_continued (turned false c) cs b.1)
  where
    none : (t : Bool) → (t && false) ≡ false
    none true = refl
    none false = refl
not_continued true (c ∷ cs) h =
    let b = first_stands true c cs h in
    by_last (all_blank (cs ++ 32 ∷ [])) (eqb c 36) (is_continued (cs ++ 32 ∷ [])) (go (eqb c 36) refl b.1) (not_continued (turned true c) cs b.1)
  where
    none : (t : Bool) → (t && false) ≡ false
    none true = refl
    none false = refl

    go : (d : Bool) → eqb c 36 ≡ d → stands (turned true c) cs ≡ true → (all_blank (cs ++ 32 ∷ []) && d) ≡ false
    go false e g = none (all_blank (cs ++ 32 ∷ []))
    go true e g =
        let behind : stands true cs ≡ true = rw (dollar_no_quote c e) at g in
        rw (open_not_blank cs (32 ∷ []) behind) refl

not_blank : (xs rest : List ℕ) → stands false xs ≡ true → 1 ≤ length xs → all_blank (xs ++ rest) ≡ false
not_blank [] rest h some = absurd (omega (arith, some))
not_blank (c ∷ cs) rest h some = rw (bare_byte c (first_stands false c cs h).0).no_blank refl

-- the comment at the end of a line
digits_stand : (ds : List ℕ) → AllDigits 10 ds → list_all (may_stand true) ds ≡ true
digits_stand [] h = refl
digits_stand (d ∷ ds) h = and_from (may_stand true d) (list_all (may_stand true) ds) (digit_stands d h.0) (digits_stand ds h.1)
  where
    digit_stands : (d : ℕ) → digit_value d < 10 → may_stand true d ≡ true
    digit_stands d h = grind (arith, nat_tests)

abbrev tail : ℕ → List ℕ
tail line = codes " $$ line " ++ decimal line

tail_clean : (line : ℕ) (more : List ℕ) → line < 2 ^ 64 → list_all (may_stand true) more ≡ true → is_clean false (tail line ++ more) ≡ true
tail_clean line more few h = rw (list_all-append (may_stand true) (decimal line) more, digits_stand (decimal line) (decimal_is_IsNumeral line few).0.1) h

tail_length : (line : ℕ) → line < 2 ^ 64 → length (tail line) ≤ 30
tail_length line few = omega (arith, length-append (codes " $$ line ") (decimal line), length-decimal-le 20 line (omega arith) (omega (arith, few)) few)

-- the length and the bytes of a statement
stands_append : (inside : Bool) (xs ys : List ℕ) → stands inside xs ≡ true → stands false ys ≡ true → stands inside (xs ++ ys) ≡ true
stands_append true [] ys h g = absurd cc
stands_append false [] ys h g = g
stands_append inside (c ∷ cs) ys h g =
    let b = first_stands inside c cs h in
    rw b.0 (stands_append (turned inside c) cs ys b.1 g)

params_stand : (p : List ℕ) (ps : List (List ℕ)) → list_all (is_plain false) (p ∷ ps) ≡ true → stands false (with_commas p ps) ≡ true
params_stand p [] h = plain_stands false p (and_parts (is_plain false p) true h).0
params_stand p (q ∷ ps) h =
    let both = and_parts (is_plain false p) (list_all (is_plain false) (q ∷ ps)) h in
    stands_append false p (44 ∷ with_commas q ps) (plain_stands false p both.0) (params_stand q ps both.1)

text_stands : (word : List ℕ) (params : List (List ℕ)) → solid word ≡ true → list_all (is_plain false) params ≡ true
    → stands false (word ++ after_word params) ≡ true
text_stands word [] h g = stands_append false word [] (plain_stands false word (solid_plain word h)) refl
text_stands word (p ∷ ps) h g = stands_append false word (47 ∷ with_commas p ps) (plain_stands false word (solid_plain word h)) (params_stand p ps g)

params_length : (most : ℕ) (p : List ℕ) (ps : List (List ℕ)) → list_all (λ (q : List ℕ). nat_le (length q) most) (p ∷ ps) ≡ true
    → length (with_commas p ps) ≤ length (p ∷ ps) * (most + 1)
params_length most p [] h = omega (arith, leb-true (length p) most (and_parts (nat_le (length p) most) true h).0)
params_length most p (q ∷ ps) h =
    let both = and_parts (nat_le (length p) most) (list_all (λ (q : List ℕ). nat_le (length q) most) (q ∷ ps)) h in
    omega (arith, leb-true (length p) most both.0, params_length most q ps both.1, length-append p (44 ∷ with_commas q ps))

text_length : (f : Flat) → IsSolid f 100 → length (flat_text f) ≤ 1000
text_length f h = go f.word f.params h.word_short h.few h.short
  where
    go : (word : List ℕ) (params : List (List ℕ)) → length word ≤ 100 → length params ≤ 8
        → list_all (λ (q : List ℕ). nat_le (length q) 100) params ≡ true → length (word ++ after_word params) ≤ 1000
    go word [] w few short = omega (arith, length-append word [], w)
    go word (p ∷ ps) w few short =
        omega (arith, length-append word (47 ∷ with_commas p ps), w, few, params_length 100 p ps short)

-- the role of a written line
role_with : (a b c d : Bool) (content : List ℕ) → a ≡ false → b ≡ true → c ≡ false → d ≡ false
    → cond a Role.TooLong (cond b (cond c Role.Dropped (cond d (Role.Continued content) (Last content))) Role.Damaged) ≡ Last content
role_with a b c d content e f g h = rw (e, f, g, h) refl

-- a statement whose line can hold it
pub record IsHeld (f : Flat) (line : ℕ) : Type 0 where
  pub word : solid f.word ≡ true
  pub some_word : 1 ≤ length f.word
  pub params : list_all (is_plain false) f.params ≡ true
  pub short : length (flat_line f line) ≤ 4096
  pub few : line < 2 ^ 64

pub solid_held : (f : Flat) (line : ℕ) → IsSolid f 100 → line < 2 ^ 64 → IsHeld f line
solid_held f line h few = record {
  word = h.word;
  some_word = h.some_word;
  params = all_plain f.params h.params;
  short = omega (arith, length-append (flat_text f) (tail line), text_length f h, tail_length line few);
  few = few;
}

-- with more in the comment
read_more : (f : Flat) (line : ℕ) (more : List ℕ) → IsHeld f line → list_all (may_stand true) more ≡ true → length (flat_line f line ++ more) ≤ 4096
    → line_role false (flat_line f line ++ more) ≡ Last (flat_text f ++ 32 ∷ [])
read_more f line more h g short =
    let bytes = text_stands f.word f.params h.word h.params in
    let whole : flat_line f line ++ more ≡ flat_text f ++ (tail line ++ more) = append_assoc (flat_text f) (tail line) more in
    let content : before_comment false (flat_text f ++ (tail line ++ more)) ≡ flat_text f ++ 32 ∷ [] =
    content_before false (flat_text f) (tail line ++ more) bytes in
    let clean : is_clean false (flat_text f ++ (tail line ++ more)) ≡ true =
    clean_before false (flat_text f) (tail line ++ more) bytes (tail_clean line more h.few g) in
    let some : 1 ≤ length (flat_text f) = omega (arith, length-append f.word (after_word f.params), h.some_word) in
    let long : nat_lt 4096 (length (flat_text f ++ (tail line ++ more))) ≡ false = grind (arith, nat_tests, ap (λ (xs : List ℕ). length xs) whole, short) in
    rw whole (rw (long, clean, content, not_blank (flat_text f) (32 ∷ []) bytes some, not_continued false (flat_text f) bytes) refl)

-- the digits of any number
all_stand : (k n : ℕ) (after : List ℕ) → list_all (may_stand true) after ≡ true → list_all (may_stand true) (digits_onto k 10 false n after) ≡ true
all_stand zero n after h = h
all_stand (suc k) n after h = go (n / 10 == 0) (glyph_stands (n % 10) (mod-lt n (omega arith))) (λ g. all_stand k (n / 10) _ g)
  where
    glyph_stands : (d : ℕ) → d < 10 → may_stand true (digit_glyph false d) ≡ true
    glyph_stands d small = rw (lt-ltb d 10 small) (grind (arith, nat_tests, small))

    go : (b : Bool) → may_stand true (digit_glyph false (n % 10)) ≡ true
        → (list_all (may_stand true) (digit_glyph false (n % 10) ∷ after) ≡ true
        → list_all (may_stand true) (digits_onto k 10 false (n / 10) (digit_glyph false (n % 10) ∷ after)) ≡ true)
        → list_all (may_stand true) (cond b (digit_glyph false (n % 10) ∷ after) (digits_onto k 10 false (n / 10) (digit_glyph false (n % 10) ∷ after))) ≡ true
    go true g more = rw g h
    go false g more = more (rw g h)

decimal_stands : (n : ℕ) → list_all (may_stand true) (decimal n) ≡ true
unfolding digits
decimal_stands n = all_stand 64 n [] refl

-- what holds of each line with more in its comment holds of a line in each pass
abbrev pass_text : ℕ → List ℕ
pass_text pass = codes ", pass " ++ decimal pass

in_each_pass : (P : List ℕ → Type 0) (f : Flat) (line pass : ℕ) → IsHeld f line
    → ((more : List ℕ) → list_all (may_stand true) more ≡ true → length (flat_line f line ++ more) ≤ 4096 → P (flat_line f line ++ more))
    → P (with_pass (flat_line f line) pass)
in_each_pass P f line pass h each = go (nat_le pass 1) (nat_le (length (flat_line f line ++ pass_text pass)) 4096) refl
  where
    first : P (flat_line f line)
    first = subst P (append-nil (flat_line f line)) (each [] refl (subst (λ (xs : List ℕ). length xs ≤ 4096) (sym (append-nil (flat_line f line))) h.short))

    go : (a b : Bool) → nat_le (length (flat_line f line ++ pass_text pass)) 4096 ≡ b
        → P (cond a (flat_line f line) (cond b (flat_line f line ++ pass_text pass) (flat_line f line)))
    go true b e = first
    go false false e = first
    go false true e = each (pass_text pass) (decimal_stands pass) (leb-true _ _ e)

pub line_read : (f : Flat) (line pass : ℕ) → IsHeld f line → line_role false (with_pass (flat_line f line) pass) ≡ Last (flat_text f ++ 32 ∷ [])
line_read f line pass h =
    in_each_pass (λ (xs : List ℕ). line_role false xs ≡ Last (flat_text f ++ 32 ∷ [])) f line pass h (λ more g short. read_more f line more h g short)

-- a written line is a line: its bytes may stand, so none ends one
standing_lacks : (xs : List ℕ) → list_all (may_stand true) xs ≡ true → is_line xs ≡ true
standing_lacks xs h = and_from _ _ (lacks_return xs h) (lacks_feed xs h)
  where
    no_end : (c : ℕ) → may_stand true c ≡ true → (eqb c 10 ≡ false) × (eqb c 13 ≡ false)
    no_end c h = (grind (arith, nat_tests), grind (arith, nat_tests))

    lacks_feed : (xs : List ℕ) → list_all (may_stand true) xs ≡ true → list_all (λ b. not (eqb b 10)) xs ≡ true
    lacks_feed [] h = refl
    lacks_feed (c ∷ cs) h =
        let both = and_parts (may_stand true c) (list_all (may_stand true) cs) h in
        rw (no_end c both.0).0 (lacks_feed cs both.1)

    lacks_return : (xs : List ℕ) → list_all (may_stand true) xs ≡ true → list_all (λ b. not (eqb b 13)) xs ≡ true
    lacks_return [] h = refl
    lacks_return (c ∷ cs) h =
        let both = and_parts (may_stand true c) (list_all (may_stand true) cs) h in
        rw (no_end c both.0).1 (lacks_return cs both.1)

stands_free : (inside : Bool) (xs : List ℕ) → stands inside xs ≡ true → list_all (may_stand true) xs ≡ true
stands_free inside [] h = refl
stands_free true (c ∷ cs) h = let b = first_stands true c cs h in rw b.0 (stands_free (turned true c) cs b.1)
stands_free false (c ∷ cs) h = let b = first_stands false c cs h in rw (bare_byte c b.0).free (stands_free (turned false c) cs b.1)

pub comment_is_line : (text : List ℕ) → list_all (may_stand true) text ≡ true → is_line (36 ∷ 36 ∷ text) ≡ true
comment_is_line text h = standing_lacks (36 ∷ 36 ∷ text) h

pub flat_is_line : (f : Flat) (line pass : ℕ) → IsHeld f line → is_line (with_pass (flat_line f line) pass) ≡ true
flat_is_line f line pass h = in_each_pass (λ (xs : List ℕ). is_line xs ≡ true) f line pass h (λ more g short.
    standing_lacks (flat_line f line ++ more) (rw (
      append_assoc (flat_text f) (tail line) more,
      list_all-append (may_stand true) (flat_text f) (tail line ++ more),
      stands_free false (flat_text f) (text_stands f.word f.params h.word h.params),
    ) (tail_clean line more h.few g)))
