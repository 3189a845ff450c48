-- What is written of a statement says what that says; a text for the operator is read back as it was read.
use Rattle.program_lowering.proofs.Names.{[], ◌&&◌, ◌<◌, ◌^◌, ◌||◌, ◌∙◌, ◌∷◌, ◌≡◌, ◌≤◌, Act, ap, arith, as_read, Bool, bytes_eq, codes, cond, false}
use Rattle.program_lowering.proofs.Names.{Flat, flat_line, flat_meant, flat_passed, flat_said, has_open_text, IfSome, is_badly_formed}
use Rattle.program_lowering.proofs.Names.{is_operator_text, is_plain, is_unsupported, Keyword, length, line_refusal, List, list_all, nat_lt}
use Rattle.program_lowering.proofs.Names.{nat_tests, None, not, Ok, Option, refl, Refusal, SaidBy, saying, shown_by, Shows, Some, Statement}
use Rattle.program_lowering.proofs.Names.{StatementMeaning, sym, text_refusal, true, ℕ}
use Rattle.std.proofs.lemmas.Slice.Eq.{bytes_eq-Decides}
use Rattle.dmis_program.specs.Keywords.{keyword_of}
use Rattle.dmis_program.specs.Sayings.{said_of}
use Rattle.dmis_program.specs.declared.keywords.Keyword.TheVariants as word
use Rattle.dmis_program.specs.declared.sayings.StatementMeaning.TheVariants as said
use Rattle.program_lowering.proofs.FlatLemmas.{IsFlatOf, flat_is}
use Rattle.program_lowering.proofs.LineLemmas.{IsHeld, flat_statement, solid_held}
use Rattle.program_lowering.proofs.SaidLemmas.{Tells, says, tells}

-- what is written of a statement that says this
pub record IsWrittenOf (s : Statement) (m : StatementMeaning) (f : Flat) : Type 0 where
  pub held : IsHeld f s.line
  pub word : keyword_of f.word ≡ keyword_of s.word
  pub supported : (b : Bool) → is_unsupported b (keyword_of s.word) s.params ≡ false → is_unsupported b (keyword_of s.word) f.params ≡ false
  pub says : (n : ℕ) → saying (flat_statement f n) ≡ Ok m
  pub shown : (n : ℕ) → shown_by (flat_statement f n) ≡ shown_by s

pub record IsText (s : Statement) : Type 0 where
  pub formed : is_badly_formed word.Passed s ≡ false
  pub word_is : s.word ≡ codes "TEXT"

pub is_text : (s : Statement) → is_operator_text s ≡ true → IsText s
is_text s h = from (is_badly_formed word.Passed s) (bytes_eq s.word (codes "TEXT")) _ refl refl h
  where
    from : (a b c : Bool) → is_badly_formed word.Passed s ≡ a → bytes_eq s.word (codes "TEXT") ≡ b → cond a false (b && c) ≡ true → IsText s
    from true b c e f g = absurd cc
    from false false c e f g = absurd cc
    from false true c e f g = record { formed = e; word_is = (bytes_eq-Decides s.word (codes "TEXT")).0 f }

second_false : (a b : Bool) → (a || b) ≡ false → b ≡ false
second_false true b h = absurd cc
second_false false b h = h

pub text_word : keyword_of (codes "TEXT") ≡ word.Passed
unfolding keyword_of
text_word = refl

text_says : (s : Statement) (m : StatementMeaning) (n : ℕ) → IsText s → saying s ≡ Ok m → saying (flat_statement (as_read s) n) ≡ Ok m
unfolding said_of
text_says s m n h e =
    let keyword : keyword_of s.word ≡ word.Passed = ap keyword_of h.word_is ∙ text_word in
    let closed : has_open_text s ≡ false = second_false _ (has_open_text s) h.formed in
    let said = rw (keyword, h.formed) at e in
    rw (keyword, closed) said

record FitsLine (s : Statement) : Type 0 where
  plain : list_all (is_plain false) s.params ≡ true
  short : nat_lt 4096 (length (flat_line (as_read s) s.line)) ≡ false

fits_line : (s : Statement) → line_refusal s ≡ None → FitsLine s
fits_line s h = from (list_all (is_plain false) s.params) (nat_lt 4096 (length (flat_line (as_read s) s.line))) _ _ refl refl h
  where
    from : (a b : Bool) (x y : Refusal) → list_all (is_plain false) s.params ≡ a → nat_lt 4096 (length (flat_line (as_read s) s.line)) ≡ b
        → cond (not a) (Some x) (cond b (Some y) None) ≡ None → FitsLine s
    from false b x y e f g = absurd cc
    from true true x y e f g = absurd cc
    from true false x y e f g = record { plain = e; short = f }

text_shown : (s : Statement) (n : ℕ) → IsText s → shown_by (flat_statement (as_read s) n) ≡ shown_by s
text_shown s n h =
    let closed : has_open_text s ≡ false = second_false _ (has_open_text s) h.formed in
    rw (h.formed, closed) refl

-- a word that is written is not `TEXT`
not_passed : (keyword : Keyword) (params : List (List ℕ)) (m : StatementMeaning) (f : Flat) → SaidBy keyword m → Tells keyword params m
    → flat_said keyword params m ≡ Some f → keyword ≡ word.Passed → ⊥
not_passed keyword params (said.Goes target) f h g e k = let same : word.Goto ≡ word.Passed = sym g ∙ k in absurd cc
not_passed keyword params (said.Begins name count) f h g e k = let same : word.Meas ≡ word.Passed = sym h.0 ∙ k in absurd cc
not_passed keyword params (said.Touches target direction) f h g e k = let same : word.Ptmeas ≡ word.Passed = sym h.0 ∙ k in absurd cc
not_passed keyword params said.Ends f h g e k = let same : word.Endmes ≡ word.Passed = sym h ∙ k in absurd cc
not_passed keyword params (said.Selects name) f h g e k = let same : word.Snslct ≡ word.Passed = sym g ∙ k in absurd cc
not_passed keyword params (said.Recalls name) f h g e k = let same : word.Recall ≡ word.Passed = sym g.0 ∙ k in absurd cc
not_passed keyword params said.Closes f h g e k = let same : word.Endfil ≡ word.Passed = sym h ∙ k in absurd cc
not_passed keyword params said.Passes f h g e k = let none : flat_passed word.Passed ≡ Some f = rw k at e in absurd cc

solid_shown : (s : Statement) (m : StatementMeaning) (f : Flat) (n : ℕ) → is_operator_text s ≡ false → keyword_of f.word ≡ keyword_of s.word
    → (keyword_of s.word ≡ word.Passed → ⊥) → shown_by (flat_statement f n) ≡ shown_by s
solid_shown s m f n is same other = rw is (go (is_operator_text (flat_statement f n)) refl)
  where
    go : (b : Bool) → is_operator_text (flat_statement f n) ≡ b → ◌≡◌ {A = List Act} (cond b (Shows f.params ∷ []) []) []
    go false e = refl
    go true e = absurd (other (sym same ∙ (ap keyword_of (is_text (flat_statement f n) e).word_is ∙ text_word)))

text_written : (s : Statement) (m : StatementMeaning) → IsText s → saying s ≡ Ok m → line_refusal s ≡ None → s.line < 2 ^ 64 → IsWrittenOf s m (as_read s)
text_written s m h e none few =
    let fits = fits_line s none in
    let within : length (flat_line (as_read s) s.line) ≤ 4096 = grind (arith, nat_tests, fits.short) in
    record {
      held = record {
        word = rw h.word_is refl;
        some_word = rw h.word_is (omega arith);
        params = fits.plain;
        short = within;
        few = few;
      };
      word = refl;
      supported = λ b g. g;
      says = λ n. text_says s m n h e;
      shown = λ n. text_shown s n h;
    }

solid_written : (s : Statement) (m : StatementMeaning) (o : Option Flat) → flat_said (keyword_of s.word) s.params m ≡ o
    → is_operator_text s ≡ false → saying s ≡ Ok m → s.line < 2 ^ 64
    → IfSome o (IsFlatOf (keyword_of s.word) s.params m) → IfSome o (IsWrittenOf s m)
solid_written s m None e is a few h = tt
solid_written s m (Some f) e is a few h = record {
  held = solid_held f s.line h.is_solid few;
  word = h.word;
  supported = h.supported;
  says = h.says;
  shown = λ n. solid_shown s m f n is h.word
      (not_passed (keyword_of s.word) s.params m f (says (keyword_of s.word) s m a) (tells (keyword_of s.word) s m a) e);
}

-- whatever is written says what it was written of
pub written_is : (s : Statement) (m : StatementMeaning) → saying s ≡ Ok m → text_refusal s ≡ None → s.line < 2 ^ 64
    → IfSome (flat_meant s m) (IsWrittenOf s m)
written_is s m e none few = go (is_operator_text s) refl none
  where
    go : (b : Bool) → is_operator_text s ≡ b → cond b (line_refusal s) None ≡ None
        → IfSome (cond b (Some (as_read s)) (flat_said (keyword_of s.word) s.params m)) (IsWrittenOf s m)
    go true is fits = text_written s m (is_text s is) e fits few
    go false is fits = solid_written s m (flat_said (keyword_of s.word) s.params m) refl is e few
        (flat_is (keyword_of s.word) s.params m (says (keyword_of s.word) s m e) (tells (keyword_of s.word) s m e))
