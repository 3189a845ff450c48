-- The name of a tool, in quotes or not.
use Rattle.dme_line.proofs.Names.{[], ◌&&◌, ◌++◌, ◌-◌, ◌==◌, ◌∙◌, ◌∷◌, ◌≡◌, ◌≤◌, ◌⊎◌, and_from, and_parts, ap, arith, bare_word, Bool, cond, drop}
use Rattle.dme_line.proofs.Names.{eq-eqb, eqb-true, Err, false, false≢true, folded, get_or, IfOk, if◌then◌else◌, inl, inr, is_name_byte, is_name_text}
use Rattle.dme_line.proofs.Names.{IsOneWord, IsTool, IsToolWord, le-leb, leb-true, length, length-append, List, list_all, MatchOption, nat_le, None}
use Rattle.dme_line.proofs.Names.{Ok, Option, quoted, refl, Result, slice_index, Some, subst, suc, sym, take, Token, true, zero, ℕ}
use Rattle.std.specs.declared.alloc.AllocError.{AllocError}
use Rattle.std.proofs.lemmas.List.{append_cancel_right}
use Rattle.std.proofs.Math.Seq.{get_or-append_seam}

-- a text in quotes and what is in them, or a text not in quotes
abbrev IsBare : List ℕ → List ℕ → Type 0
IsBare word bare = (word ≡ quoted bare) ⊎ ((word ≡ bare) × ((inner : List ℕ) → word ≡ quoted inner → ⊥))

abbrev is_quoted : List ℕ → Bool
is_quoted word = nat_le 2 (length word) && ((slice_index word 0 == 34) && (slice_index word (length word - 1) == 34))

-- a list without its last element, and that element
front_and_last : (cs : List ℕ) (n : ℕ) → suc n ≡ length cs → get_or cs n 0 ≡ 34 → cs ≡ take n cs ++ 34 ∷ []
front_and_last (c ∷ []) zero e h = ap (λ (x : ℕ). x ∷ []) h
front_and_last (c ∷ []) (suc n) e h = absurd (omega (arith, e))
front_and_last (c ∷ d ∷ cs) zero e h = absurd (omega (arith, e))
front_and_last (c ∷ d ∷ cs) (suc n) e h = ap (λ (xs : List ℕ). c ∷ xs) (front_and_last (d ∷ cs) n (omega (arith, e)) h)
front_and_last [] n e h = absurd (omega (arith, e))

bare_step : (word : List ℕ) → is_quoted word ≡ true → word ≡ quoted (take (length word - 2) (drop 1 word))
bare_step [] h = absurd (false≢true h)
bare_step (c ∷ cs) h =
    let p = and_parts (nat_le 2 (length (c ∷ cs))) ((c == 34) && (slice_index (c ∷ cs) (length (c ∷ cs) - 1) == 34)) h in
    let q = and_parts (c == 34) (slice_index (c ∷ cs) (length (c ∷ cs) - 1) == 34) p.1 in
    let two : 2 ≤ length (c ∷ cs) = leb-true _ _ p.0 in
    let n : ℕ = length (c ∷ cs) - 2 in
    let whole : suc n ≡ length cs = omega (arith, two) in
    let last_is : length (c ∷ cs) - 1 ≡ suc n = omega (arith, two) in
    let last = rw last_is at (eqb-true _ _ q.1) in
    let first = eqb-true c 34 q.0 in
    ap (λ (x : ℕ). x ∷ cs) first ∙ ap (λ (xs : List ℕ). 34 ∷ xs) (front_and_last cs n whole last)

quoted_test : (inner : List ℕ) → is_quoted (quoted inner) ≡ true
quoted_test inner =
    let long : 2 ≤ length (quoted inner) = omega (arith, length-append inner (34 ∷ [])) in
    let last_is : length (quoted inner) - 1 ≡ suc (length inner) = omega (arith, length-append inner (34 ∷ [])) in
    let last : slice_index (quoted inner) (length (quoted inner) - 1) ≡ 34 = rw last_is (get_or-append_seam inner 34 [] 0) in
    and_from _ _ (le-leb _ _ long) (eq-eqb _ 34 last)

bare_cases : (word : List ℕ) (b : Bool) → is_quoted word ≡ b → IsBare word (cond b (take (length word - 2) (drop 1 word)) word)
bare_cases word true h = inl (bare_step word h)
bare_cases word false h = inr (refl, λ inner e. false≢true (sym h ∙ ap is_quoted e ∙ quoted_test inner))

pub bare_is : (word : List ℕ) → IsBare word (bare_word word)
bare_is word = bare_cases word (is_quoted word) refl

-- a name has no quote in front
name_no_quote : (inner : List ℕ) → is_name_text (34 ∷ inner) ≡ true → ⊥
name_no_quote inner h =
    let p = and_parts (nat_le 1 (length (34 ∷ inner))) (nat_le (length (34 ∷ inner)) 64 && list_all is_name_byte (34 ∷ inner)) h in
    let q = and_parts (nat_le (length (34 ∷ inner)) 64) (list_all is_name_byte (34 ∷ inner)) p.1 in
    false≢true q.1

-- what is in quotes is determined
same_quoted : (a b : List ℕ) → quoted a ≡ quoted b → a ≡ b
same_quoted a b e = append_cancel_right a b (34 ∷ []) cc

-- the bare text of a tool's word is what the reader takes for it
same_bare : (word bare inner : List ℕ) → IsBare word bare → is_name_text inner ≡ true → (word ≡ inner) ⊎ (word ≡ quoted inner)
    → inner ≡ bare
same_bare word bare inner (inl e) named (inl f) = absurd (name_no_quote (bare ++ 34 ∷ [])
    (subst (λ (t : List ℕ). is_name_text t ≡ true) (sym f ∙ e) named))
same_bare word bare inner (inl e) named (inr f) = same_quoted inner bare (sym f ∙ e)
same_bare word bare inner (inr e) named (inl f) = sym f ∙ e.0
same_bare word bare inner (inr e) named (inr f) = absurd (e.1 inner f)

pub one_tool_word : (word a b : List ℕ) → IsToolWord word a → IsToolWord word b → a ≡ b
one_tool_word word a b f g =
    let x = same_bare word (bare_word word) f.bare (bare_is word) f.named f.spelled in
    let y = same_bare word (bare_word word) g.bare (bare_is word) g.named g.spelled in
    f.is_folded ∙ ap folded (x ∙ sym y) ∙ sym g.is_folded

bare_spelled : (word bare : List ℕ) → IsBare word bare → (word ≡ bare) ⊎ (word ≡ quoted bare)
bare_spelled word bare (inl e) = inr e
bare_spelled word bare (inr e) = inl e.0

-- the one word of some tokens
pub same_word : (ts : List Token) (v w : List ℕ) → IsOneWord ts v → IsOneWord ts w → v ≡ w
same_word ts v w e f = cc

tool_cases : (ts : List Token) (word : List ℕ) (b : Bool) → is_name_text (bare_word word) ≡ b → IsOneWord ts word
    → MatchOption (cond b (Some (folded (bare_word word))) None) ((name : List ℕ) → IsTool ts name → ⊥) (λ name. IsTool ts name)
tool_cases ts word true named spelled = record {
  word = word;
  spelled = spelled;
  reads = record { bare = bare_word word; spelled = bare_spelled word (bare_word word) (bare_is word); named = named; is_folded = refl };
}
tool_cases ts word false named spelled = λ name h.
    let same = same_word ts h.word word h.spelled spelled in
    let bare = same_bare h.word (bare_word h.word) h.reads.bare (bare_is h.word) h.reads.named h.reads.spelled in
    let here = ap (λ (w : List ℕ). is_name_text (bare_word w)) same in
    false≢true (sym named ∙ sym here ∙ ap is_name_text (sym bare) ∙ h.reads.named)

pub tool_read : (ts : List Token) (word bare : List ℕ) (r : Result (Option (List ℕ)) AllocError) → IsOneWord ts word → bare ≡ bare_word word
    → IfOk r (λ name. name ≡ (if is_name_text bare then Some (folded bare) else None))
    → IfOk r (λ tool. MatchOption tool ((name : List ℕ) → IsTool ts name → ⊥) (λ name. IsTool ts name))
tool_read ts word bare (Err e) spelled is h = h
tool_read ts word bare (Ok o) spelled is h =
    let same : o ≡ (if is_name_text (bare_word word) then Some (folded (bare_word word)) else None) = h
    ∙ ap (λ (b : List ℕ). if is_name_text b then Some (folded b) else None) is in
    subst (λ (x : Option (List ℕ)). MatchOption x ((name : List ℕ) → IsTool ts name → ⊥) (λ name. IsTool ts name)) (sym same)
    (tool_cases ts word (is_name_text (bare_word word)) refl spelled)
