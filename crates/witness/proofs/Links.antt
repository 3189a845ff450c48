-- Which use of each tag is next, with a line of the server more.
use Rattle.witness.proofs.JudgementNames.{[], ◌&&◌, ◌+◌, ◌∙◌, ◌∷◌, ◌≡◌, ap, AreFirst, AreLinked, AreNext, Bool, false}
use Rattle.witness.proofs.JudgementNames.{false≢true, found, has_mark, Heard, if◌then◌else◌, is_use, last_end, length, List, Mark, marks_of}
use Rattle.witness.proofs.JudgementNames.{next_of, None, none-some, Option, place_from, place_of, refl, Reply, Sent, Some, suc, sym, Tag, tag_is, true}
use Rattle.witness.proofs.JudgementNames.{use_after, zero, ℕ}
use Rattle.witness.proofs.TagTables.{same_tag}
use Rattle.witness.specs.declared.judged_lines.Heard.TheVariants.{Response}

-- with no n-th use there is none after it
neither : (b : Bool) (x y x' y' : Option ℕ) → (x ≡ None → x' ≡ None) → (y ≡ None → y' ≡ None) → (if b then x else y) ≡ None
    → (if b then x' else y') ≡ None
neither true x y x' y' one two e = one e
neither false x y x' y' one two e = two e

none_after : (at : ℕ) (t : Tag) (n : ℕ) (lines : List Sent) → place_from at t n lines ≡ None → place_from at t (suc n) lines ≡ None
none_after at t n [] is = refl
none_after at t zero (s ∷ lines) is = neither (is_use t s) (Some at) (place_from (at + 1) t zero lines) _ _ (λ e. absurd (none-some _ (sym e)))
    (λ e. none_after (at + 1) t zero lines e) is
none_after at t (suc n) (s ∷ lines) is = neither (is_use t s) (place_from (at + 1) t n lines) (place_from (at + 1) t (suc n) lines) _ _
    (λ e. none_after (at + 1) t n lines e) (λ e. none_after (at + 1) t (suc n) lines e) is

next_use : (up : List Sent) (next : List (Option ℕ)) (t : Tag) (n : ℕ) → AreNext up 0 next → next_of next (place_of t n up) ≡ place_of t (suc n) up
next_use up next t n are = go (place_of t n up) refl
  where
    go : (o : Option ℕ) → place_of t n up ≡ o → next_of next o ≡ place_of t (suc n) up
    go None is = sym (none_after 0 t n up is)
    go (Some p) is = are.each t n p is

more : (b c : Bool) (n : ℕ) → b ≡ true → c ≡ true → suc n ≡ (if b && c then suc n else n)
more true true n is has = refl
more true false n is has = absurd (false≢true has)
more false c n is has = absurd (false≢true is)

less : (b c : Bool) (n : ℕ) → b ≡ false → n ≡ (if b && c then suc n else n)
less true c n is = absurd (false≢true (sym is))
less false c n is = refl

uncounted : (b c : Bool) (n : ℕ) → c ≡ false → n ≡ (if b && c then suc n else n)
uncounted true true n is = absurd (false≢true (sym is))
uncounted true false n is = refl
uncounted false c n is = refl

pub linked : (m : Mark) (up : List Sent) (above : List Heard) (u : Tag) (r : Reply) (next old new : List (Option ℕ)) (place after : Option ℕ)
    → AreNext up 0 next → AreLinked m up above old → has_mark m r ≡ true → place ≡ use_after m up above u → after ≡ next_of next place
    → ((t : Tag) → found new t ≡ (if tag_is u t then after else found old t)) → AreLinked m up (Response u r ∷ above) new
linked m up above u r next old new place after nexts are has there is put = λ t. put t
    ∙ ap (λ (o : Option ℕ). if tag_is u t then o else found old t) (is ∙ ap (next_of next) there) ∙ go t (tag_is u t) refl
  where
    go : (t : Tag) (b : Bool) → tag_is u t ≡ b
        → (if tag_is u t then next_of next (use_after m up above u) else found old t) ≡ use_after m up (Response u r ∷ above) t
    go t true is = ap (λ (b : Bool). if b then next_of next (use_after m up above u) else found old t) is
        ∙ ap (λ (v : Tag). next_of next (use_after m up above v)) (same_tag u t is) ∙ next_use up next t (marks_of m t above) nexts
        ∙ ap (λ (n : ℕ). place_of t n up) (more (tag_is u t) (has_mark m r) (marks_of m t above) is has)
    go t false is = ap (λ (b : Bool). if b then next_of next (use_after m up above u) else found old t) is
        ∙ are t ∙ ap (λ (n : ℕ). place_of t n up) (less (tag_is u t) (has_mark m r) (marks_of m t above) is)

pub unlinked : (m : Mark) (up : List Sent) (above : List Heard) (u : Tag) (r : Reply) (table : List (Option ℕ)) → AreLinked m up above table
    → has_mark m r ≡ false → AreLinked m up (Response u r ∷ above) table
unlinked m up above u r table are has =
    λ t. are t ∙ ap (λ (n : ℕ). place_of t n up) (uncounted (tag_is u t) (has_mark m r) (marks_of m t above) has)

-- the last end of each tag
closed_by : (b c : Bool) (n : ℕ) (o : Option ℕ) → c ≡ true → (if b then Some n else o) ≡ (if b && c then Some n else o)
closed_by true true n o is = refl
closed_by true false n o is = absurd (cc)
closed_by false c n o is = refl

not_closed : (b c : Bool) (n : ℕ) (o : Option ℕ) → c ≡ false → o ≡ (if b && c then Some n else o)
not_closed true true n o is = absurd (cc)
not_closed true false n o is = refl
not_closed false c n o is = refl

pub closed_more : (above : List Heard) (u : Tag) (old new : List (Option ℕ)) (n : ℕ) → ((t : Tag) → found old t ≡ last_end t above)
    → n ≡ length above → ((t : Tag) → found new t ≡ (if tag_is u t then Some n else found old t))
    → (t : Tag) → found new t ≡ last_end t (Response u Reply.Complete ∷ above)
closed_more above u old new n are count put t = put t ∙ ap (λ (o : Option ℕ). if tag_is u t then Some n else o) (are t)
    ∙ ap (λ (k : ℕ). if tag_is u t then Some k else last_end t above) count ∙ closed_by (tag_is u t) true (length above) (last_end t above) refl

pub still_closed : (above : List Heard) (u : Tag) (r : Reply) (table : List (Option ℕ)) → ((t : Tag) → found table t ≡ last_end t above)
    → has_mark Mark.Complete r ≡ false → (t : Tag) → found table t ≡ last_end t (Response u r ∷ above)
still_closed above u r table are has t = are t ∙ not_closed (tag_is u t) (has_mark Mark.Complete r) (length above) (last_end t above) has

pub first_linked : (m : Mark) (up : List Sent) (table : List (Option ℕ)) → AreFirst up 0 table → AreLinked m up [] table
first_linked m up table are = λ t. are t
