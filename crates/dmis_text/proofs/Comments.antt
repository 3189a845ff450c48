-- One byte more of a line: what is before the comment, what may be there, and whether a text is open.
use Rattle.dmis_text.proofs.Names.{[], ◌++◌, ◌+◌, ◌<◌, ◌∷◌, ◌≡◌, ap, append_assoc, before_comment, begins_comment, Bool, drop, drop_more, false}
use Rattle.dmis_text.proofs.Names.{get_or, inside_after, is_clean, length, List, may_stand, refl, sym, take, take_more, true, turned, ℕ}

-- an open text over two lists
pub inside_after-append : (inside : Bool) (xs ys : List ℕ) → inside_after inside (xs ++ ys) ≡ inside_after (inside_after inside xs) ys
inside_after-append inside [] ys = refl
inside_after-append inside (x ∷ xs) ys = inside_after-append (turned inside x) xs ys

pub inside_after_more : (start inside : Bool) (line : List ℕ) (at : ℕ) → at < length line → inside ≡ inside_after start (take at line)
    → turned inside (get_or line at 0) ≡ inside_after start (take (at + 1) line)
inside_after_more start inside line at h e = rw (
  take_more line at 0 h,
  inside_after-append start (take at line) (get_or line at 0 ∷ []),
  ← e,
)

before_comment_step : (inside : Bool) (c : ℕ) (cs : List ℕ) → begins_comment inside (c ∷ cs) ≡ false
    → before_comment inside (c ∷ cs) ≡ c ∷ before_comment (turned inside c) cs
before_comment_step inside c cs h = rw h

pub before_comment_more : (inside : Bool) (line : List ℕ) (at : ℕ) → at < length line → begins_comment inside (drop at line) ≡ false
    → take (at + 1) line ++ before_comment (turned inside (get_or line at 0)) (drop (at + 1) line) ≡ take at line
    ++ before_comment inside (drop at line)
before_comment_more inside line at h none =
    let here : begins_comment inside (get_or line at 0 ∷ drop (at + 1) line) ≡ false = rw (drop_more line at 0 h) at none in
    rw (take_more line at 0 h, append_assoc, drop_more line at 0 h)
    (ap (λ (xs : List ℕ). take at line ++ xs) (sym (before_comment_step inside (get_or line at 0) (drop (at + 1) line) here)))

is_clean_step : (inside : Bool) (c : ℕ) (cs : List ℕ) → begins_comment inside (c ∷ cs) ≡ false → may_stand inside c ≡ true
    → is_clean inside (c ∷ cs) ≡ is_clean (turned inside c) cs
is_clean_step inside c cs h stands = rw (h, stands)

pub is_clean_more : (inside : Bool) (line : List ℕ) (at : ℕ) → at < length line → begins_comment inside (drop at line) ≡ false
    → may_stand inside (get_or line at 0) ≡ true → is_clean (turned inside (get_or line at 0)) (drop (at + 1) line)
    ≡ is_clean inside (drop at line)
is_clean_more inside line at h none stands =
    let here : begins_comment inside (get_or line at 0 ∷ drop (at + 1) line) ≡ false = rw (drop_more line at 0 h) at none in
    rw (drop_more line at 0 h) (sym (is_clean_step inside (get_or line at 0) (drop (at + 1) line) here stands))

-- one byte more, for the loop over a line
pub ruleset steps = (inside_after_more, before_comment_more, is_clean_more)
