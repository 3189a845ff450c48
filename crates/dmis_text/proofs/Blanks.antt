-- Blanks at the ends of a list of bytes, and the `$` that continues a line.
use Rattle.dmis_text.proofs.Names.{[], ◌&&◌, ◌++◌, ◌+◌, ◌-◌, ◌<◌, ◌||◌, ◌∙◌, ◌∷◌, ◌≡◌, ◌≤◌, all_blank, and_left, and_right, ap, append_assoc, arith}
use Rattle.dmis_text.proofs.Names.{Bool, both_ways, cond, content_role, Continued, drop, drop_all, eqb, false, get_or, inside_after, is_blank}
use Rattle.dmis_text.proofs.Names.{is_continued, Last, length, length-append, List, list_all_at, ne_eqb, refl, suc, sym, take, take_all, true, turned}
use Rattle.dmis_text.proofs.Names.{without_end_blanks, without_front_blanks, without_mark, zero, ℕ}

-- the element before the n-th of a longer list
before_tail : (c : ℕ) (cs : List ℕ) (m : ℕ) → is_blank (get_or (c ∷ cs) m 0) ≡ false → 0 < m → is_blank (get_or cs (m - 1) 0) ≡ false
before_tail c cs zero h p = absurd (omega arith)
before_tail c cs (suc k) h p = let e : suc k - 1 ≡ k = omega arith in rw e h

-- what stands up to the last byte that is not blank, by its place
pub kept_cut : (xs : List ℕ) (n : ℕ) → n ≤ length xs → all_blank (drop n xs) ≡ true → (0 < n → is_blank (get_or xs (n - 1) 0) ≡ false)
    → take n xs ≡ without_end_blanks xs
kept_cut [] zero within blanks last = refl
kept_cut [] (suc m) within blanks last = refl
kept_cut (c ∷ cs) zero within blanks last = rw blanks
kept_cut (c ∷ cs) (suc m) within blanks last =
    let e : suc m - 1 ≡ m = omega arith in
    let here : is_blank (get_or (c ∷ cs) m 0) ≡ false = rw e at (last (omega arith)) in
    let some : all_blank (c ∷ cs) ≡ false = list_all_at is_blank (c ∷ cs) m 0 (omega arith) here in
    rw some (ap (λ (ys : List ℕ). c ∷ ys) (kept_cut cs m (omega arith) blanks (before_tail c cs m here)))

-- bytes with no blank at either end stay as they are
above_blanks : (c : ℕ) → 32 < c → is_blank c ≡ false
above_blanks c h = rw (ne_eqb c 32 (λ e. omega (arith, e, h)), ne_eqb c 9 (λ e. omega (arith, e, h)))

pub without_blanks : (bytes : List ℕ) → 0 < length bytes → 32 < get_or bytes 0 0 → 32 < get_or bytes (length bytes - 1) 0
    → bytes ≡ without_end_blanks (without_front_blanks bytes)
without_blanks [] some first last = absurd (omega arith)
without_blanks (c ∷ cs) some first last =
    let bytes = c ∷ cs in
    let front : without_front_blanks bytes ≡ bytes = rw (above_blanks c first) in
    let end : take (length bytes) bytes ≡ without_end_blanks bytes =
    kept_cut bytes (length bytes) (omega arith) (rw (drop_all (length bytes) bytes (omega arith))) (λ _. above_blanks _ last) in
    sym (ap without_end_blanks front ∙ sym end ∙ take_all (length bytes) bytes (omega arith))

-- what is left of blanks alone is nothing, and of nothing else
blank_from_none : (xs : List ℕ) → without_end_blanks xs ≡ [] → all_blank xs ≡ true
blank_from_none [] e = refl
blank_from_none (x ∷ xs) e = go (all_blank (x ∷ xs)) refl e
  where
    go : (t : Bool) → all_blank (x ∷ xs) ≡ t → cond t [] (x ∷ without_end_blanks xs) ≡ [] → all_blank (x ∷ xs) ≡ true
    go true h e = h
    go false h e = cc

-- what makes a list more than blanks is its first byte
pub first_not_blank : (x : ℕ) (xs : List ℕ) → all_blank (x ∷ xs) ≡ false → all_blank xs ≡ true → is_blank x ≡ false
first_not_blank x xs h b = go (is_blank x) refl h
  where
    go : (t : Bool) → is_blank x ≡ t → (t && all_blank xs) ≡ false → is_blank x ≡ false
    go true e h = absurd (both_ways (all_blank xs) h b)
    go false e h = e

-- the last byte of what is left is not blank
pub kept_last : (xs front : List ℕ) (c : ℕ) → without_end_blanks xs ≡ front ++ c ∷ [] → is_blank c ≡ false
kept_last [] front c e = absurd (omega (arith, ap length e, length-append front (c ∷ [])))
kept_last (x ∷ xs) front c e = go (λ (ys : List ℕ) h. kept_last xs ys c h) front (all_blank (x ∷ xs)) refl e
  where
    go : ((ys : List ℕ) → without_end_blanks xs ≡ ys ++ c ∷ [] → is_blank c ≡ false) → (front : List ℕ) (t : Bool) → all_blank (x ∷ xs) ≡ t
        → cond t [] (x ∷ without_end_blanks xs) ≡ front ++ c ∷ [] → is_blank c ≡ false
    go rest front true h e = absurd (omega (arith, ap length e, length-append front (c ∷ [])))
    go rest [] false h e =
        let first : x ≡ c = cc in
        let none : without_end_blanks xs ≡ [] = cc in
        rw first at (first_not_blank x xs h (blank_from_none xs none))
    go rest (y ∷ ys) false h e = let tail : without_end_blanks xs ≡ ys ++ c ∷ [] = cc in rest ys tail

-- a byte that is not blank, with blanks after it
not_all_blank : (front blanks : List ℕ) (c : ℕ) → is_blank c ≡ false → all_blank (front ++ c ∷ blanks) ≡ false
not_all_blank [] blanks c h = and_left (is_blank c) (all_blank blanks) h
not_all_blank (x ∷ xs) blanks c h = and_right (is_blank x) (all_blank (xs ++ c ∷ blanks)) (not_all_blank xs blanks c h)

is_continued_last : (front blanks : List ℕ) (c : ℕ) → is_blank c ≡ false → all_blank blanks ≡ true
    → is_continued (front ++ c ∷ blanks) ≡ eqb c 36
is_continued_last [] blanks c h b = rw b
is_continued_last (x ∷ xs) blanks c h b = rw (not_all_blank xs blanks c h) (is_continued_last xs blanks c h b)

without_mark_last : (front blanks : List ℕ) (c : ℕ) → is_blank c ≡ false → all_blank blanks ≡ true
    → without_mark (front ++ c ∷ blanks) ≡ front ++ blanks
without_mark_last [] blanks c h b = rw b
without_mark_last (x ∷ xs) blanks c h b = rw (not_all_blank xs blanks c h)
    (ap (λ (ys : List ℕ). x ∷ ys) (without_mark_last xs blanks c h b))

-- a line whose last byte that is not blank is `$` continues, and loses that byte alone
pub role_continued : (front blanks : List ℕ) → all_blank blanks ≡ true → content_role (front ++ 36 ∷ blanks) ≡ Continued (front ++ blanks)
role_continued front blanks b = rw (
  not_all_blank front blanks 36 refl,
  is_continued_last front blanks 36 refl b,
  without_mark_last front blanks 36 refl b,
)

-- a line whose last byte that is not blank is another ends its statement
pub role_last : (front blanks : List ℕ) (c : ℕ) → is_blank c ≡ false → (c ≡ 36 → ⊥) → all_blank blanks ≡ true
    → content_role (front ++ c ∷ blanks) ≡ Last (front ++ c ∷ blanks)
role_last front blanks c h other b = rw (not_all_blank front blanks c h, is_continued_last front blanks c h b, ne_eqb c 36 other)

-- a `$` turns nothing
pub inside_after_mark : (inside : Bool) (front blanks : List ℕ)
    → inside_after inside (front ++ 36 ∷ blanks) ≡ inside_after inside (front ++ blanks)
inside_after_mark inside [] blanks = refl
inside_after_mark inside (x ∷ xs) blanks = inside_after_mark (turned inside x) xs blanks

-- for the code that looks at a line's last byte
pub ruleset ends = (role_continued, role_last, kept_last, inside_after_mark, append_assoc)
