-- The flat statement that is written of a statement says what that says.
use Rattle.program_lowering.proofs.Names.{[], ◌++◌, ◌∙◌, ◌∷◌, ◌≡◌, ◌≤◌, and_parts, ap, arith, Bool, codes, components, count_of, decimal}
use Rattle.program_lowering.proofs.Names.{decimal_is_IsNumeral, direction_of, false, Flat, flat, flat_passed, flat_said, has_open_text, IfSome}
use Rattle.program_lowering.proofs.Names.{inside_after, is_ascii_alphabetic, is_letters, is_unsupported, IsName, Keyword, kind_of, le-leb, length}
use Rattle.program_lowering.proofs.Names.{length-decimal-le, length_of, List, list_all, map, name_within, nat_le, nat_lt, nat_tests, None, Ok, Option}
use Rattle.program_lowering.proofs.Names.{place, Point, pos, refl, SaidBy, saying, Some, StatementMeaning, suc, sym, take, to_ascii_uppercase, true}
use Rattle.program_lowering.proofs.Names.{unsigned_abs, volume_limit, within, written, written_component, ℕ, ℤ}
use Rattle.fixed_um.specs.Points.{IsInVolume}
use Rattle.fixed_um.specs.Shapes.{Direction, IsDirection}
use Rattle.fixed_um.proofs.WrittenLemmas.{direction_reads_back, written_reads_back}
use Rattle.dmis_program.specs.Keywords.{keyword_of}
use Rattle.dmis_program.specs.Positions.{position_of}
use Rattle.dmis_program.specs.Sayings.{said_by, said_of}
use Rattle.dmis_program.proofs.PositionLemmas.{direction_of-is, length_of-is}
use Rattle.dmis_program.proofs.CountLemmas.{counted}
use Rattle.dmis_program.proofs.ParenthesisLemmas as parenthesis
use Rattle.dmis_program.specs.declared.keywords.Keyword.TheVariants as word
use Rattle.dmis_program.specs.declared.sayings.StatementMeaning.TheVariants as said
use Rattle.program_lowering.proofs.Solid.{solid, IsSolid}
use Rattle.program_lowering.proofs.SolidLemmas.{closed_after, solid_plain}
use Rattle.program_lowering.proofs.SolidParts.{decimal_solid, decimal_ascii, written_solid, written_short, component_solid, component_short}
use Rattle.program_lowering.proofs.SolidParts.{within_solid, within_short, letters_solid, letters_stay, letters_short}
use Rattle.program_lowering.proofs.LineLemmas.{flat_statement}
use Rattle.program_lowering.proofs.SaidLemmas.{Tells, first_of}

-- the words of flat statements
goto_word : keyword_of (codes "GOTO") ≡ word.Goto
unfolding keyword_of
goto_word = refl

meas_word : keyword_of (codes "MEAS") ≡ word.Meas
unfolding keyword_of
meas_word = refl

ptmeas_word : keyword_of (codes "PTMEAS") ≡ word.Ptmeas
unfolding keyword_of
ptmeas_word = refl

endmes_word : keyword_of (codes "ENDMES") ≡ word.Endmes
unfolding keyword_of
endmes_word = refl

snslct_word : keyword_of (codes "SNSLCT") ≡ word.Snslct
unfolding keyword_of
snslct_word = refl

pub recall_word : keyword_of (codes "RECALL") ≡ word.Recall
unfolding keyword_of
recall_word = refl

endfil_word : keyword_of (codes "ENDFIL") ≡ word.Endfil
unfolding keyword_of
endfil_word = refl

dmismn_word : keyword_of (codes "DMISMN") ≡ word.Dmismn
unfolding keyword_of
dmismn_word = refl

units_word : keyword_of (codes "UNITS") ≡ word.Units
unfolding keyword_of
units_word = refl

mode_word : keyword_of (codes "MODE") ≡ word.Mode
unfolding keyword_of
mode_word = refl

-- no text is open after a solid one
closed_solid : (xs : List ℕ) → solid xs ≡ true → inside_after false xs ≡ false
closed_solid xs h = closed_after false xs (solid_plain xs h)

-- lengths, directions and names read back
length_back : (z : ℤ) → unsigned_abs z ≤ volume_limit → length_of (written z) ≡ Ok z
length_back z h = length_of-is (written z) (pos volume_limit) (Ok z) refl (written_reads_back volume_limit z h (omega arith))

position_back : (p : Point) → IsInVolume p → position_of (written p.x) (written p.y) (written p.z) ≡ Ok p
unfolding position_of
position_back p h = rw (length_back p.x h.x, length_back p.y h.y, length_back p.z h.z) refl

direction_back : (d : Direction) → IsDirection d
    → direction_of (written_component d.i) (written_component d.j) (written_component d.k) ≡ Ok d
direction_back d h = direction_of-is (written_component d.i) (written_component d.j) (written_component d.k) (Ok (Some d))
    (direction_reads_back d h)

name_back : (mark name : List ℕ) → IsName name → name_within mark (within mark name) ≡ Some name
name_back mark name h = parenthesis.written mark name h.named ∙ ap (λ (n : List ℕ). Some n) h.capitals

count_back : (n : ℕ) → 1 ≤ n → n ≤ 10000 → count_of (decimal n) ≡ Some n
count_back n some few =
    sym (counted (decimal n) n (decimal_ascii n (omega (arith, few))) (decimal_is_IsNumeral n (omega (arith, few))).1 few (omega (arith, some)))

-- the flat statement of a statement with this keyword and these parameters
pub record IsFlatOf (keyword : Keyword) (params : List (List ℕ)) (m : StatementMeaning) (f : Flat) : Type 0 where
  pub is_solid : IsSolid f 100
  pub word : keyword_of f.word ≡ keyword
  pub supported : (b : Bool) → is_unsupported b keyword params ≡ false → is_unsupported b keyword f.params ≡ false
  pub says : (n : ℕ) → saying (flat_statement f n) ≡ Ok m

-- what a statement says, by its keyword and its last element
said_as : (keyword : Keyword) (f : Flat) (n : ℕ) (m : StatementMeaning) → keyword_of f.word ≡ keyword → has_open_text (flat_statement f n) ≡ false
    → said_by keyword f.params ≡ Ok m → saying (flat_statement f n) ≡ Ok m
unfolding said_of
said_as keyword f n m e h g = rw (e, h) g

short_of : (p : List ℕ) → length p ≤ 100 → nat_le (length p) 100 ≡ true
short_of p h = le-leb (length p) 100 h

-- three lengths
place_solid : (p : Point) → IsInVolume p → list_all solid (place p) ≡ true
place_solid p h = rw (written_solid p.x h.x, written_solid p.y h.y, written_solid p.z h.z) refl

goes_says : (p : Point) → IsInVolume p → said_by word.Goto (codes "CART" ∷ place p) ≡ Ok (said.Goes p)
unfolding said_by
goes_says p h = rw (position_back p h) refl

goes_flat : (params : List (List ℕ)) (p : Point) → IsInVolume p
    → IsFlatOf word.Goto params (said.Goes p) (flat (codes "GOTO") (codes "CART" ∷ place p))
goes_flat params p h = record {
  is_solid = record {
    word = refl;
    some_word = omega arith;
    params = place_solid p h;
    short = rw (
      short_of (written p.x) (written_short p.x h.x),
      short_of (written p.y) (written_short p.y h.y),
      short_of (written p.z) (written_short p.z h.z),
    ) refl;
    word_short = omega arith;
    few = omega arith;
  };
  word = goto_word;
  supported = λ b e. refl;
  says = λ n. said_as word.Goto (flat (codes "GOTO") (codes "CART" ∷ place p)) n (said.Goes p) goto_word
      (closed_solid (written p.z) (written_solid p.z h.z)) (goes_says p h);
}

-- a touch
touch_says_none : (p : Point) → IsInVolume p → said_by word.Ptmeas (codes "CART" ∷ (place p ++ components None)) ≡ Ok (said.Touches p None)
unfolding said_by
touch_says_none p h = rw (position_back p h) refl

touch_says_some : (p : Point) (d : Direction) → IsInVolume p → IsDirection d
    → said_by word.Ptmeas (codes "CART" ∷ (place p ++ components (Some d))) ≡ Ok (said.Touches p (Some d))
unfolding said_by
touch_says_some p d h g = rw (position_back p h, direction_back d g) refl

touch_flat : (params : List (List ℕ)) (p : Point) (o : Option Direction) → IsInVolume p → IfSome o IsDirection
    → IsFlatOf word.Ptmeas params (said.Touches p o) (flat (codes "PTMEAS") (codes "CART" ∷ (place p ++ components o)))
touch_flat params p None h g = record {
  is_solid = record {
    word = refl;
    some_word = omega arith;
    params = place_solid p h;
    short = rw (
      short_of (written p.x) (written_short p.x h.x),
      short_of (written p.y) (written_short p.y h.y),
      short_of (written p.z) (written_short p.z h.z),
    ) refl;
    word_short = omega arith;
    few = omega arith;
  };
  word = ptmeas_word;
  supported = λ b e. refl;
  says = λ n. said_as word.Ptmeas (flat (codes "PTMEAS") (codes "CART" ∷ (place p ++ components None))) n (said.Touches p None) ptmeas_word
      (closed_solid (written p.z) (written_solid p.z h.z)) (touch_says_none p h);
}
touch_flat params p (Some d) h g = record {
  is_solid = record {
    word = refl;
    some_word = omega arith;
    params = rw (
      written_solid p.x h.x,
      written_solid p.y h.y,
      written_solid p.z h.z,
      component_solid d.i g.i_within,
      component_solid d.j g.j_within,
      component_solid d.k g.k_within,
    ) refl;
    short = rw (
      short_of (written p.x) (written_short p.x h.x),
      short_of (written p.y) (written_short p.y h.y),
      short_of (written p.z) (written_short p.z h.z),
      short_of (written_component d.i) (component_short d.i g.i_within),
      short_of (written_component d.j) (component_short d.j g.j_within),
      short_of (written_component d.k) (component_short d.k g.k_within),
    ) refl;
    word_short = omega arith;
    few = omega arith;
  };
  word = ptmeas_word;
  supported = λ b e. refl;
  says = λ n. said_as word.Ptmeas (flat (codes "PTMEAS") (codes "CART" ∷ (place p ++ components (Some d)))) n (said.Touches p (Some d))
      ptmeas_word (closed_solid (written_component d.k) (component_solid d.k g.k_within)) (touch_says_some p d h g);
}

-- the beginning of a feature
some_byte : (n : ℕ) → nat_lt 0 (suc n) ≡ true
some_byte n = grind (arith, nat_tests)

kind_letters : (params : List (List ℕ)) → is_letters (first_of params) ≡ true
    → (list_all is_ascii_alphabetic (kind_of params) ≡ true) × (nat_lt 0 (length (kind_of params)) ≡ true)
kind_letters [] h = absurd cc
kind_letters ([] ∷ rest) h = absurd cc
kind_letters ((c ∷ cs) ∷ rest) h =
    (letters_stay 64 (c ∷ cs) (and_parts (nat_lt 0 (length (c ∷ cs))) (list_all is_ascii_alphabetic (c ∷ cs)) h).1, some_byte (length (map to_ascii_uppercase (take 63 cs))))

kind_solid : (params : List (List ℕ)) → is_letters (first_of params) ≡ true → solid (kind_of params) ≡ true
kind_solid [] h = refl
kind_solid (kind ∷ rest) h = letters_solid 64 kind (and_parts (nat_lt 0 (length kind)) (list_all is_ascii_alphabetic kind) h).1

kind_short : (params : List (List ℕ)) → length (kind_of params) ≤ 100
kind_short [] = omega arith
kind_short (kind ∷ rest) = omega (arith, letters_short 64 kind)

abbrev begin_params : List (List ℕ) → List ℕ → ℕ → List (List ℕ)
begin_params params name count = kind_of params ∷ within (codes "F(") name ∷ decimal count ∷ []

begins_says : (params : List (List ℕ)) (name : List ℕ) (count : ℕ) → IsName name → 1 ≤ count → count ≤ 10000
    → is_letters (first_of params) ≡ true → said_by word.Meas (begin_params params name count) ≡ Ok (said.Begins name count)
unfolding said_by
begins_says params name count h some few letters =
    let kind = kind_letters params letters in
    rw (kind.0, kind.1, name_back (codes "F(") name h, count_back count some few) refl

begins_flat : (params : List (List ℕ)) (name : List ℕ) (count : ℕ) → IsName name → 1 ≤ count → count ≤ 10000
    → is_letters (first_of params) ≡ true
    → IsFlatOf word.Meas params (said.Begins name count) (flat (codes "MEAS") (begin_params params name count))
begins_flat params name count h some few letters = record {
  is_solid = record {
    word = refl;
    some_word = omega arith;
    params = rw (kind_solid params letters, within_solid (codes "F(") name refl h, decimal_solid count (omega (arith, few))) refl;
    short = rw (
      short_of (kind_of params) (kind_short params),
      short_of (within (codes "F(") name) (within_short (codes "F(") name (omega arith) h),
      short_of (decimal count) (omega (arith, length-decimal-le 5 count (omega arith) (omega (arith, few)) (omega (arith, few)))),
    ) refl;
    word_short = omega arith;
    few = omega arith;
  };
  word = meas_word;
  supported = λ b e. refl;
  says = λ n. said_as word.Meas (flat (codes "MEAS") (begin_params params name count)) n (said.Begins name count) meas_word
      (closed_solid (decimal count) (decimal_solid count (omega (arith, few)))) (begins_says params name count h some few letters);
}

-- a name alone
named_solid : (mark name : List ℕ) → solid mark ≡ true → length mark ≤ 3 → IsName name → (word : List ℕ) → solid word ≡ true
    → 1 ≤ length word → length word ≤ 100 → IsSolid (flat word (within mark name ∷ [])) 100
named_solid mark name h g n word s one hundred = record {
  word = s;
  some_word = one;
  params = rw (within_solid mark name h n) refl;
  short = rw (short_of (within mark name) (within_short mark name g n)) refl;
  word_short = hundred;
  few = omega arith;
}

selects_says : (name : List ℕ) → IsName name → said_by word.Snslct (within (codes "S(") name ∷ []) ≡ Ok (said.Selects name)
unfolding said_by
selects_says name h = rw (name_back (codes "S(") name h) refl

recalls_says : (name : List ℕ) → IsName name → said_by word.Recall (within (codes "D(") name ∷ []) ≡ Ok (said.Recalls name)
unfolding said_by
recalls_says name h = rw (name_back (codes "D(") name h) refl

selects_flat : (params : List (List ℕ)) (name : List ℕ) → IsName name
    → IsFlatOf word.Snslct params (said.Selects name) (flat (codes "SNSLCT") (within (codes "S(") name ∷ []))
selects_flat params name h = record {
  is_solid = named_solid (codes "S(") name refl (omega arith) h (codes "SNSLCT") refl (omega arith) (omega arith);
  word = snslct_word;
  supported = λ b e. refl;
  says = λ n. said_as word.Snslct (flat (codes "SNSLCT") (within (codes "S(") name ∷ [])) n (said.Selects name) snslct_word
      (closed_solid (within (codes "S(") name) (within_solid (codes "S(") name refl h)) (selects_says name h);
}

pub recalls_flat : (params : List (List ℕ)) (name : List ℕ) → IsName name
    → IsFlatOf word.Recall params (said.Recalls name) (flat (codes "RECALL") (within (codes "D(") name ∷ []))
recalls_flat params name h = record {
  is_solid = named_solid (codes "D(") name refl (omega arith) h (codes "RECALL") refl (omega arith) (omega arith);
  word = recall_word;
  supported = λ b e. refl;
  says = λ n. said_as word.Recall (flat (codes "RECALL") (within (codes "D(") name ∷ [])) n (said.Recalls name) recall_word
      (closed_solid (within (codes "D(") name) (within_solid (codes "D(") name refl h)) (recalls_says name h);
}

-- a literal statement
literal : (keyword : Keyword) (params : List (List ℕ)) (m : StatementMeaning) (f : Flat) → IsSolid f 100 → keyword_of f.word ≡ keyword
    → ((b : Bool) → is_unsupported b keyword params ≡ false → is_unsupported b keyword f.params ≡ false)
    → has_open_text (flat_statement f 0) ≡ false → said_by keyword f.params ≡ Ok m → IsFlatOf keyword params m f
literal keyword params m f s e u h g = record {
  is_solid = s;
  word = e;
  supported = u;
  says = λ n. said_as keyword f n m e h g;
}

bare_solid : (word : List ℕ) → solid word ≡ true → 1 ≤ length word → length word ≤ 100 → IsSolid (flat word []) 100
bare_solid word h g k = record { word = h; some_word = g; params = refl; short = refl; word_short = k; few = omega arith }

one_solid : (word param : List ℕ) → solid word ≡ true → 1 ≤ length word → length word ≤ 100 → solid param ≡ true → length param ≤ 100
    → IsSolid (flat word (param ∷ [])) 100
one_solid word param h g k p q = record {
  word = h;
  some_word = g;
  params = rw p refl;
  short = rw (short_of param q) refl;
  word_short = k;
  few = omega arith;
}

ends_says : said_by word.Endmes [] ≡ Ok said.Ends
unfolding said_by
ends_says = refl

closes_says : said_by word.Endfil [] ≡ Ok said.Closes
unfolding said_by
closes_says = refl

dmismn_says : said_by word.Dmismn [] ≡ Ok said.Passes
unfolding said_by
dmismn_says = refl

units_says : said_by word.Units (codes "MM" ∷ []) ≡ Ok said.Passes
unfolding said_by
units_says = refl

mode_says : said_by word.Mode (codes "PROG" ∷ []) ≡ Ok said.Passes
unfolding said_by
mode_says = refl

passed_flat : (keyword : Keyword) (params : List (List ℕ)) → IfSome (flat_passed keyword) (IsFlatOf keyword params said.Passes)
passed_flat word.Dmismn params = literal word.Dmismn params said.Passes (flat (codes "DMISMN") [])
    (bare_solid (codes "DMISMN") refl (omega arith) (omega arith)) dmismn_word (λ b e. e) refl dmismn_says
passed_flat word.Units params = literal word.Units params said.Passes (flat (codes "UNITS") (codes "MM" ∷ []))
    (one_solid (codes "UNITS") (codes "MM") refl (omega arith) (omega arith) refl (omega arith)) units_word (λ b e. refl) refl units_says
passed_flat word.Mode params = literal word.Mode params said.Passes (flat (codes "MODE") (codes "PROG" ∷ []))
    (one_solid (codes "MODE") (codes "PROG") refl (omega arith) (omega arith) refl (omega arith)) mode_word (λ b e. refl) refl mode_says
passed_flat word.Goto params = tt
passed_flat word.Meas params = tt
passed_flat word.Ptmeas params = tt
passed_flat word.Endmes params = tt
passed_flat word.Snslct params = tt
passed_flat word.Recall params = tt
passed_flat word.Endfil params = tt
passed_flat word.Definition params = tt
passed_flat word.Passed params = tt
passed_flat word.Unknown params = tt

-- whatever is written says what it was written of
pub flat_is : (keyword : Keyword) (params : List (List ℕ)) (m : StatementMeaning) → SaidBy keyword m → Tells keyword params m
    → IfSome (flat_said keyword params m) (IsFlatOf keyword params m)
flat_is keyword params (said.Goes p) h g = rw g (goes_flat params p h)
flat_is keyword params (said.Begins name count) h g = rw h.0 (begins_flat params name count h.1 h.2 g.0 g.1)
flat_is keyword params (said.Touches p o) h g = rw h.0 (touch_flat params p o h.1 h.2)
flat_is keyword params said.Ends h g =
    rw h (literal word.Endmes params said.Ends (flat (codes "ENDMES") []) (bare_solid (codes "ENDMES") refl (omega arith) (omega arith))
    endmes_word (λ b e. refl) refl ends_says)
flat_is keyword params (said.Selects name) h g = rw g (selects_flat params name h)
flat_is keyword params (said.Recalls name) h g = rw g.0 (recalls_flat params name g.1)
flat_is keyword params said.Closes h g =
    rw h (literal word.Endfil params said.Closes (flat (codes "ENDFIL") []) (bare_solid (codes "ENDFIL") refl (omega arith) (omega arith))
    endfil_word (λ b e. refl) refl closes_says)
flat_is keyword params said.Passes h g = passed_flat keyword params
