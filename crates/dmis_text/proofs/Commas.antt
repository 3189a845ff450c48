-- Commas of bytes without texts: the first is where the first piece ends.
use Rattle.dmis_text.proofs.Names.{[], ◌&&◌, ◌++◌, ◌+◌, ◌<◌, ◌∙◌, ◌∷◌, ◌≡◌, ◌≤◌, and_parts, ap, arith, Bool, cond, cut_at, drop, eqb, false}
use Rattle.dmis_text.proofs.Names.{is_unquoted, length, List, list_all, None, not, not-true, onto_front, Option, option_map, prefix_len, refl, Some}
use Rattle.dmis_text.proofs.Names.{suc, sym, take, true, turned, ℕ}
use Rattle.dmis_text.proofs.SplittingLaws.{cut_is}

abbrev pub comma_at : List ℕ → ℕ
comma_at bytes = prefix_len (λ c. not (eqb c 44)) bytes

no_text_opens : (c : ℕ) → is_unquoted c ≡ true → turned false c ≡ false
no_text_opens c e = rw (not-true (eqb c 39) e) refl

-- the first cut of such bytes
pub cut_bare : (bytes : List ℕ) → list_all is_unquoted bytes ≡ true → comma_at bytes < length bytes
    → cut_at 44 false bytes ≡ Some (take (comma_at bytes) bytes, drop 1 (drop (comma_at bytes) bytes))
cut_bare [] e within = absurd (omega arith)
cut_bare (c ∷ cs) e within =
    let both = and_parts (is_unquoted c) (list_all is_unquoted cs) e in
    go (λ h. cut_bare cs both.1 h) (no_text_opens c both.0) (eqb c 44) refl within
  where
    go : (comma_at cs < length cs → cut_at 44 false cs ≡ Some (take (comma_at cs) cs, drop 1 (drop (comma_at cs) cs)))
        → turned false c ≡ false → (b : Bool) → eqb c 44 ≡ b → cond (not b) (1 + comma_at cs) 0 < suc (length cs)
        → cond b (Some ([], cs)) (option_map (onto_front c) (cut_at 44 (turned false c) cs))
        ≡ Some (take (cond (not b) (1 + comma_at cs) 0) (c ∷ cs), drop 1 (drop (cond (not b) (1 + comma_at cs) 0) (c ∷ cs)))
    go rest stays true comma within = refl
    go rest stays false other within =
        let one : 1 + comma_at cs ≡ suc (comma_at cs) = omega arith in
        ap (λ (inside : Bool). option_map (onto_front c) (cut_at 44 inside cs)) stays
        ∙ ap (option_map (onto_front c)) (rest (omega (arith, within)))
        ∙ ap (λ (n : ℕ). Some (take n (c ∷ cs), drop 1 (drop n (c ∷ cs)))) (sym one)

-- and if there is no comma
pub uncut_bare : (bytes : List ℕ) → list_all is_unquoted bytes ≡ true → length bytes ≤ comma_at bytes → cut_at 44 false bytes ≡ None
uncut_bare [] e h = refl
uncut_bare (c ∷ cs) e h =
    let both = and_parts (is_unquoted c) (list_all is_unquoted cs) e in
    go (λ k. uncut_bare cs both.1 k) (no_text_opens c both.0) (eqb c 44) refl h
  where
    go : (length cs ≤ comma_at cs → cut_at 44 false cs ≡ None) → turned false c ≡ false → (b : Bool) → eqb c 44 ≡ b
        → suc (length cs) ≤ cond (not b) (1 + comma_at cs) 0
        → cond b (Some ([], cs)) (option_map (onto_front c) (cut_at 44 (turned false c) cs)) ≡ None
    go rest stays true comma h = absurd (omega (arith, h))
    go rest stays false other h =
        ap (λ (inside : Bool). option_map (onto_front c) (cut_at 44 inside cs)) stays
        ∙ ap (option_map (onto_front c)) (rest (omega (arith, h)))

-- what follows a byte of a list has all that the list has
all_behind : (p : ℕ → Bool) (front : List ℕ) (mark : ℕ) (behind : List ℕ) → list_all p (front ++ mark ∷ behind) ≡ true
    → list_all p behind ≡ true
all_behind p [] mark behind e = (and_parts (p mark) (list_all p behind) e).1
all_behind p (c ∷ cs) mark behind e = all_behind p cs mark behind (and_parts (p c) (list_all p (cs ++ mark ∷ behind)) e).1

-- what follows a cut has no text either
pub behind_bare : (mark : ℕ) (text front behind : List ℕ) → cut_at mark false text ≡ Some (front, behind)
    → list_all is_unquoted text ≡ true → list_all is_unquoted behind ≡ true
behind_bare mark text front behind cut e = all_behind is_unquoted front mark behind
    (sym (ap (list_all is_unquoted) ((cut_is mark text front behind).1 cut).parts) ∙ e)

-- for the code that cuts at commas
pub ruleset commas = (cut_bare, uncut_bare)
