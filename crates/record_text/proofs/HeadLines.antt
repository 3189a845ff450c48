-- The pieces of the lines of a head, and what a loop over features has written.
use Rattle.record_text.proofs.Names.{[], ◌++◌, ◌+◌, ◌<◌, ◌∙◌, ◌∷◌, ◌≡◌, ap, append_assoc, arith, asked_lines, codes, drop, entry_written, Err, get_or}
use Rattle.record_text.proofs.Names.{header, if◌then◌else◌, is_ok, length, line_of, List, Ok, OnErr, OnOk, refl, Result, Second, spaced, spaced_more, suc, sym}
use Rattle.record_text.proofs.Names.{text_more, text_of, Wanted, wanted_lines, zero, ℕ}

-- the line of a feature: its word, its label, its count, its end
pub feature_line_written : (old a b c new label number : List ℕ) → a ≡ old ++ codes "FEATURE" → b ≡ a ++ spaced (label ∷ [])
    → c ≡ b ++ spaced (number ∷ []) → new ≡ c ++ 10 ∷ []
    → new ≡ old ++ (line_of (codes "FEATURE" ∷ label ∷ number ∷ []) ++ 10 ∷ [])
feature_line_written old a b c new label number p q r s =
    let all : c ≡ (a ++ spaced (label ∷ [])) ++ spaced (number ∷ []) = rw (r, q) refl in
    let fields : c ≡ a ++ spaced (label ∷ number ∷ []) = all ∙ append_assoc a (spaced (label ∷ [])) (spaced (number ∷ []))
    ∙ ap (λ (t : List ℕ). a ++ t) (sym (spaced_more (label ∷ []) (number ∷ []))) in
    entry_written old a c new (codes "FEATURE") (label ∷ number ∷ []) p fields s

-- a line, and what follows it
pub line_then : (old line rest a new : List ℕ) → a ≡ old ++ (line ++ 10 ∷ []) → new ≡ a ++ rest → new ≡ old ++ (line ++ 10 ∷ rest)
line_then old line rest a new p q =
    let all : new ≡ (old ++ (line ++ 10 ∷ [])) ++ rest = rw (q, p) refl in
    all ∙ append_assoc old (line ++ 10 ∷ []) rest ∙ ap (λ (t : List ℕ). old ++ t) (append_assoc line (10 ∷ []) rest)

drop_suc : {X : Type 0} (n : ℕ) (xs : List X) (x : X) → n < length xs → x ≡ get_or xs n x → drop n xs ≡ x ∷ drop (suc n) xs
drop_suc n [] x h e = absurd (omega arith)
drop_suc {X} zero (y ∷ ys) x h e = ap (λ (z : X). z ∷ ys) (sym e)
drop_suc (suc n) (y ∷ ys) x h e = drop_suc n ys x (omega arith) e

plus_one : (n : ℕ) → n + 1 ≡ suc n
plus_one n = omega arith

-- the items from a place on
pub drop_item : {X : Type 0} (n : ℕ) (xs : List X) (x : X) → n < length xs → x ≡ get_or xs n x → drop n xs ≡ x ∷ drop (n + 1) xs
drop_item n xs x h e = rw (plus_one n) (drop_suc n xs x h e)

-- one more feature
pub asked_step : (old new whole : List ℕ) (rest : List Wanted) (w : Wanted)
    → old ++ text_of (asked_lines (w ∷ rest)) ≡ whole → new ≡ old ++ text_of (wanted_lines w)
    → new ++ text_of (asked_lines rest) ≡ whole
asked_step old new whole rest w e h = rw h (append_assoc old (text_of (wanted_lines w)) (text_of (asked_lines rest)))
    ∙ ap (λ (t : List ℕ). old ++ t) (sym (text_more (wanted_lines w) (asked_lines rest))) ∙ e

-- the whole head
pub head_written : (a b c d : List ℕ) (part asked : List (List ℕ)) → a ≡ codes "DME-RECORD 2\n" → b ≡ a ++ text_of part
    → c ≡ b ++ text_of asked → d ≡ c ++ codes "END\n"
    → d ≡ text_of (header Second ∷ (part ++ (asked ++ codes "END" ∷ [])))
head_written a b c d part asked p q r s =
    let all : d ≡ ((codes "DME-RECORD 2\n" ++ text_of part) ++ text_of asked) ++ codes "END\n" = rw (s, r, q, p) refl in
    let tail : text_of (part ++ (asked ++ codes "END" ∷ [])) ≡ text_of part ++ (text_of asked ++ codes "END\n") =
    text_more part (asked ++ codes "END" ∷ []) ∙ ap (λ (t : List ℕ). text_of part ++ t) (text_more asked (codes "END" ∷ [])) in
    all ∙ append_assoc (codes "DME-RECORD 2\n" ++ text_of part) (text_of asked) (codes "END\n")
    ∙ append_assoc (codes "DME-RECORD 2\n") (text_of part) (text_of asked ++ codes "END\n")
    ∙ ap (λ (t : List ℕ). codes "DME-RECORD 2\n" ++ t) (sym tail)

-- a text is appended as a whole
pub writes_all : {A E : Type 0} (r : Result A E) (old text new whole : List ℕ) → new ≡ (if is_ok r then old ++ text else old)
    → text ≡ whole → OnOk r (new ≡ old ++ whole) × OnErr r (new ≡ old)
writes_all (Ok a) old text new whole p q = (p ∙ ap (λ (t : List ℕ). old ++ t) q, tt)
writes_all (Err e) old text new whole p q = (tt, p)
