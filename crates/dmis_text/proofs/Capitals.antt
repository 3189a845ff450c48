-- Texts without small letters outside texts of their own: what is cut out of them has none either.
use Rattle.dmis_text.proofs.Names.{[], ◌++◌, ◌||◌, ◌∙◌, ◌∷◌, ◌≡◌, ap, ap₂, Bool, cond, cut_at, eqb, eqb-true, false, folded, inside_after, is_blank}
use Rattle.dmis_text.proofs.Names.{List, refl, Some, sym, true, turned, without_front_blanks, ℕ}
use Rattle.dmis_text.proofs.SplittingLaws.{cut_is}

abbrev first : List ℕ → ℕ
first [] = 0
first (c ∷ cs) = c

abbrev others : List ℕ → List ℕ
others [] = []
others (c ∷ cs) = cs

-- what comes first
pub front_kept : (inside : Bool) (front behind : List ℕ) → folded inside (front ++ behind) ≡ front ++ behind → folded inside front ≡ front
front_kept inside [] behind e = refl
front_kept inside (c ∷ cs) behind e =
    ap₂ (λ (x : ℕ) (xs : List ℕ). x ∷ xs) (ap first e) (front_kept (turned inside c) cs behind (ap others e))

-- and what follows it
behind_kept : (inside : Bool) (front behind : List ℕ) → folded inside (front ++ behind) ≡ front ++ behind
    → folded (inside_after inside front) behind ≡ behind
behind_kept inside [] behind e = e
behind_kept inside (c ∷ cs) behind e = behind_kept (turned inside c) cs behind (ap others e)

module _ (mark : ℕ) (text front behind : List ℕ) (cut : cut_at mark false text ≡ Some (front, behind))
    (kept : folded false text ≡ text) where
  parts : text ≡ front ++ mark ∷ behind
  parts = ((cut_is mark text front behind).1 cut).parts

  whole : folded false (front ++ mark ∷ behind) ≡ front ++ mark ∷ behind
  whole = sym (ap (folded false) parts) ∙ kept ∙ parts

  -- what is cut off in front of a mark
  pub front_of_cut : folded false front ≡ front
  front_of_cut = front_kept false front (mark ∷ behind) whole

  -- and after it
  pub behind_cut : eqb mark 39 ≡ false → folded false behind ≡ behind
  behind_cut other =
      let closed = ((cut_is mark text front behind).1 cut).closed in
      let on = behind_kept false front (mark ∷ behind) whole in
      let same : turned (inside_after false front) mark ≡ false = rw (closed, other) in
      sym (ap (λ i. folded i behind) same) ∙ ap others on

pub blank_turns : (c : ℕ) → is_blank c ≡ true → turned false c ≡ false
blank_turns c e = go (eqb c 32) refl e
  where
    go : (b : Bool) → eqb c 32 ≡ b → (b || eqb c 9) ≡ true → turned false c ≡ false
    go true space e = rw (eqb-true c 32 space)
    go false other e = rw (eqb-true c 9 e)

-- what follows blanks
pub behind_blanks : (bytes : List ℕ) → folded false bytes ≡ bytes → folded false (without_front_blanks bytes) ≡ without_front_blanks bytes
behind_blanks [] e = refl
behind_blanks (c ∷ cs) e = go (λ k. behind_blanks cs k) (is_blank c) refl
  where
    go : (folded false cs ≡ cs → folded false (without_front_blanks cs) ≡ without_front_blanks cs) → (b : Bool) → is_blank c ≡ b
        → folded false (cond b (without_front_blanks cs) (c ∷ cs)) ≡ cond b (without_front_blanks cs) (c ∷ cs)
    go rest true blank = rest (sym (ap (λ i. folded i cs) (blank_turns c blank)) ∙ ap others e)
    go rest false other = e

-- what stands between blanks
pub between_blanks : (bytes front kept blanks : List ℕ) → front ≡ without_front_blanks bytes → front ≡ kept ++ blanks
    → folded false bytes ≡ bytes → folded false kept ≡ kept
between_blanks bytes front kept blanks is parts e =
    let same : folded false front ≡ front = rw is (behind_blanks bytes e) in
    front_kept false kept blanks (sym (ap (folded false) parts) ∙ same ∙ parts)
