-- What is before a comment, and which bytes may stand, place by place.
use Rattle.dmis_text.proofs.Names.{[], ◌&&◌, ◌++◌, ◌<◌, ◌||◌, ◌↔◌, ◌∙◌, ◌∷◌, ◌≡◌, ◌⊎◌, and_from, and_parts, ap, arith, before_comment, begins_comment}
use Rattle.dmis_text.proofs.Names.{Bool, cond, drop, EachStands, false, inl, inr, inside_after, is_clean, IsContent, le-leb, leb, length, List}
use Rattle.dmis_text.proofs.Names.{list_all, lt-leb, may_stand, nat_tests, refl, slice_index, suc, sym, take, true, turned, zero, ℕ}

-- a comment in front leaves nothing before it
pub nothing_before : (inside : Bool) (line : List ℕ) → begins_comment inside line ≡ true → before_comment inside line ≡ []
nothing_before inside [] e = refl
nothing_before inside (c ∷ cs) e = rw e

-- what fits is what is before the comment
content_only : (inside : Bool) (content comment : List ℕ) → ((k : ℕ) → k < length content
    → begins_comment (inside_after inside (take k (content ++ comment))) (drop k (content ++ comment)) ≡ false)
    → (comment ≡ []) ⊎ (begins_comment (inside_after inside content) comment ≡ true) → content ≡ before_comment inside (content ++ comment)
content_only inside [] comment none (inl e) = rw e
content_only inside [] comment none (inr e) = sym (nothing_before inside comment e)
content_only inside (c ∷ cs) comment none ends =
    let here : begins_comment inside (c ∷ (cs ++ comment)) ≡ false = none 0 (omega arith) in
    rw here (ap (λ (xs : List ℕ). c ∷ xs) (content_only (turned inside c) cs comment (λ k h. none (suc k) (omega arith)) ends))

-- and that fits
content_there : (inside : Bool) (line : List ℕ) → IsContent inside line (before_comment inside line)
content_there inside [] = record { comment = []; parts = refl; none = λ k h. absurd (omega arith); ends = inl refl }
content_there inside (c ∷ cs) = go (content_there (turned inside c) cs) (begins_comment inside (c ∷ cs)) refl
  where
    at_more : (content : List ℕ) → begins_comment inside (c ∷ cs) ≡ false
        → ((k : ℕ) → k < length content → begins_comment (inside_after (turned inside c) (take k cs)) (drop k cs) ≡ false)
        → (k : ℕ) → k < length (c ∷ content) → begins_comment (inside_after inside (take k (c ∷ cs))) (drop k (c ∷ cs)) ≡ false
    at_more content e h zero l = e
    at_more content e h (suc k) l = h k (omega arith)

    go : IsContent (turned inside c) cs (before_comment (turned inside c) cs) → (t : Bool) → begins_comment inside (c ∷ cs) ≡ t
        → IsContent inside (c ∷ cs) (before_comment inside (c ∷ cs))
    go rest true e = rw (nothing_before inside (c ∷ cs) e) (record {
      comment = c ∷ cs;
      parts = refl;
      none = λ k h. absurd (omega arith);
      ends = inr e;
    })
    go rest false e = rw e (record {
      comment = rest.comment;
      parts = ap (λ (xs : List ℕ). c ∷ xs) rest.parts;
      none = at_more (before_comment (turned inside c) cs) e rest.none;
      ends = rest.ends;
    })

-- the content of a line is what is before its comment, and nothing else
pub content_is : (inside : Bool) (line content : List ℕ) → IsContent inside line content ↔ (content ≡ before_comment inside line)
content_is inside line content = (
  λ h. rw h.parts (content_only inside content h.comment (rw h.parts at h.none) h.ends),
  λ e. rw e (content_there inside line),
)

-- each byte of a list passes
all_pass : (bytes : List ℕ) → list_all (may_stand true) bytes ≡ true → (k : ℕ) → k < length bytes
    → may_stand true (slice_index bytes k) ≡ true
all_pass [] h k l = absurd (omega arith)
all_pass (c ∷ cs) h zero l = (and_parts (may_stand true c) (list_all (may_stand true) cs) h).0
all_pass (c ∷ cs) h (suc k) l = all_pass cs (and_parts (may_stand true c) (list_all (may_stand true) cs) h).1 k (omega arith)

pass_all : (bytes : List ℕ) → ((k : ℕ) → k < length bytes → may_stand true (slice_index bytes k) ≡ true)
    → list_all (may_stand true) bytes ≡ true
pass_all [] h = refl
pass_all (c ∷ cs) h = and_from (may_stand true c) (list_all (may_stand true) cs) (h 0 (omega arith))
    (pass_all cs (λ k l. h (suc k) (omega arith)))

stands_or : (t : Bool) (c : ℕ) → may_stand (t || true) c ≡ may_stand true c
stands_or true c = refl
stands_or false c = refl

stands_at : (t : Bool) (c : ℕ) → may_stand (t || false) c ≡ may_stand t c
stands_at true c = refl
stands_at false c = refl

leb_suc : (n k : ℕ) → leb (suc n) (suc k) ≡ leb n k
leb_suc n k = grind (arith, nat_tests)

in_comment : (inside : Bool) (line : List ℕ) (k : ℕ) → may_stand true (slice_index line k)
    ≡ may_stand (inside_after inside (take k line) || leb 0 k) (slice_index line k)
in_comment inside line k = rw (le-leb 0 k (omega arith)) (sym (stands_or (inside_after inside (take k line)) (slice_index line k)))

at_first : (inside : Bool) (n c : ℕ) (cs : List ℕ) → may_stand inside c ≡ may_stand (inside || leb (suc n) 0) c
at_first inside n c cs = rw (lt-leb (suc n) 0 (omega arith)) (sym (stands_at inside c))

pub each_stands : (inside : Bool) (line : List ℕ) → is_clean inside line ≡ true → EachStands inside line
each_stands inside [] h = λ k l. absurd (omega arith)
each_stands inside (c ∷ cs) h = go (λ g. each_stands (turned inside c) cs g) (begins_comment inside (c ∷ cs)) refl h
  where
    later : may_stand inside c ≡ true → EachStands (turned inside c) cs → (k : ℕ) → k < length (c ∷ cs)
        → may_stand (inside_after inside (take k (c ∷ cs)) || leb (suc (length (before_comment (turned inside c) cs))) k)
        (slice_index (c ∷ cs) k) ≡ true
    later first rest zero l = sym (at_first inside (length (before_comment (turned inside c) cs)) c cs) ∙ first
    later first rest (suc k) l = rw (leb_suc (length (before_comment (turned inside c) cs)) k) (rest k (omega arith))

    go : (is_clean (turned inside c) cs ≡ true → EachStands (turned inside c) cs) → (t : Bool) → begins_comment inside (c ∷ cs) ≡ t
        → cond t (list_all (may_stand true) (c ∷ cs)) (may_stand inside c && is_clean (turned inside c) cs) ≡ true
        → EachStands inside (c ∷ cs)
    go rest true e h = λ k l. rw e (sym (in_comment inside (c ∷ cs) k) ∙ all_pass (c ∷ cs) h k l)
    go rest false e h =
        let both = and_parts (may_stand inside c) (is_clean (turned inside c) cs) h in
        λ k l. rw e (later both.0 (rest both.1) k l)

pub stands_each : (inside : Bool) (line : List ℕ) → EachStands inside line → is_clean inside line ≡ true
stands_each inside [] h = refl
stands_each inside (c ∷ cs) h = go (λ g. stands_each (turned inside c) cs g) (begins_comment inside (c ∷ cs)) refl
  where
    go : (EachStands (turned inside c) cs → is_clean (turned inside c) cs ≡ true) → (t : Bool) → begins_comment inside (c ∷ cs) ≡ t
        → is_clean inside (c ∷ cs) ≡ true
    go rest true e = rw e (pass_all (c ∷ cs) (λ k l. in_comment inside (c ∷ cs) k ∙ rw e at (h k l)))
    go rest false e = rw e (and_from (may_stand inside c) (is_clean (turned inside c) cs)
        (at_first inside (length (before_comment (turned inside c) cs)) c cs ∙ rw e at (h 0 (omega arith)))
        (rest (λ k l. rw leb_suc at (rw e at (h (suc k) (omega arith))))))

-- a line is clean where each byte may be in its place
pub clean_is : (inside : Bool) (line : List ℕ) → (is_clean inside line ≡ true) ↔ EachStands inside line
clean_is inside line = (each_stands inside line, stands_each inside line)
