-- What follows line feeds, and its lines.
use Rattle.program_review.proofs.Outside.{[], ◌+◌, ◌-◌, ◌<◌, ◌∙◌, ◌∷◌, ◌≡◌, ◌≤◌, after_feeds, ap, arith, Bool, cond, drop, drop_all, eqb, false, length}
use Rattle.program_review.proofs.Outside.{length-drop, lines, List, ltb, ltb-false, None, Option, position, position_or_len, refl, Some, suc, sym, true}
use Rattle.program_review.proofs.Outside.{zero, ℕ}
use Rattle.std.proofs.lemmas.Option.{cond_some}
use Rattle.dmis_text.proofs.LineEnds.{lines_at, lines_one}

more_step : (n c : ℕ) (cs : List ℕ) (b : Bool) → eqb c 10 ≡ b → after_feeds (suc n) cs ≡ after_feeds 1 (after_feeds n cs)
    → after_feeds (suc (suc n)) cs ≡ after_feeds 1 (after_feeds (suc n) cs)
    → cond b (after_feeds (suc n) cs) (after_feeds (suc (suc n)) cs) ≡ after_feeds 1 (cond b (after_feeds n cs) (after_feeds (suc n) cs))
more_step n c cs true e f g = f
more_step n c cs false e f g = g

-- one line feed more
pub one_feed_more : (n : ℕ) (bs : List ℕ) → after_feeds (suc n) bs ≡ after_feeds 1 (after_feeds n bs)
one_feed_more zero bs = refl
one_feed_more (suc n) [] = refl
one_feed_more (suc n) (c ∷ cs) = more_step n c cs (eqb c 10) refl (one_feed_more n cs) (one_feed_more (suc n) cs)

first_step : (c : ℕ) (cs : List ℕ) (b : Bool) → eqb c 10 ≡ b
    → after_feeds 1 cs ≡ drop (position_or_len (λ b. eqb b 10) cs + 1) cs → after_feeds 1 (c ∷ cs) ≡ drop (position_or_len (λ b. eqb b 10) (c ∷ cs) + 1) (c ∷ cs)
first_step c cs true e f = rw e refl
first_step c cs false e f =
    let k : 1 + position_or_len (λ b. eqb b 10) cs + 1 ≡ suc (position_or_len (λ b. eqb b 10) cs + 1) = omega arith in
    rw e (f ∙ ap (λ (j : ℕ). drop j (c ∷ cs)) (sym k))

first_feed : (bs : List ℕ) → after_feeds 1 bs ≡ drop (position_or_len (λ b. eqb b 10) bs + 1) bs
first_feed [] = refl
first_feed (c ∷ cs) = first_step c cs (eqb c 10) refl (first_feed cs)

-- the first LF is at this place
pub fed_some : (bs rest : List ℕ) (at : ℕ) → Some at ≡ position (λ b. eqb b 10) bs → rest ≡ drop (at + 1) bs → rest ≡ after_feeds 1 bs
fed_some bs rest at e f =
    let parts = cond_some (ltb (position_or_len (λ b. eqb b 10) bs) (length bs)) (position_or_len (λ b. eqb b 10) bs) at (sym e) in
    f ∙ (ap (λ (k : ℕ). drop (k + 1) bs) (sym parts.1) ∙ sym (first_feed bs))

pub lines_some : (bs rest : List ℕ) (at : ℕ) → Some at ≡ position (λ b. eqb b 10) bs → rest ≡ drop (at + 1) bs → lines rest ≡ drop 1 (lines bs)
lines_some bs rest at e f = ap lines f ∙ sym (ap (drop 1) (lines_at bs at e).1)

not_found : (bs : List ℕ) (t : Bool) (at : ℕ) → ltb at (length bs) ≡ t → None ≡ cond t (Some at) None → length bs ≤ at
not_found bs true at t n = cc
not_found bs false at t n = ltb-false at _ t

-- there is none
pub fed_none : (bs rest : List ℕ) → None ≡ position (λ b. eqb b 10) bs → rest ≡ [] → rest ≡ after_feeds 1 bs
fed_none bs rest e f =
    let far : length bs ≤ position_or_len (λ b. eqb b 10) bs = not_found bs (ltb (position_or_len (λ b. eqb b 10) bs) (length bs)) _ refl e in
    f ∙ (sym (drop_all (position_or_len (λ b. eqb b 10) bs + 1) bs (omega arith)) ∙ sym (first_feed bs))

pub lines_none : (bs rest : List ℕ) → None ≡ position (λ b. eqb b 10) bs → rest ≡ [] → lines rest ≡ drop 1 (lines bs)
lines_none [] rest e f = ap lines f
lines_none (c ∷ cs) rest e f = ap lines f ∙ sym (ap (drop 1) (lines_one (c ∷ cs) e (omega arith)))

-- bytes have a line
pub some_line : (bs : List ℕ) → 0 < length bs → 0 < length (lines bs)
some_line bs h = with_position (position (λ b. eqb b 10) bs) refl
  where
    with_position : (r : Option ℕ) → r ≡ position (λ b. eqb b 10) bs → 0 < length (lines bs)
    with_position None e = let n : length (lines bs) ≡ 1 = ap length (lines_one bs e h) in omega arith
    with_position (Some at) e = let n : length (lines bs) ≡ suc (length (lines (drop (at + 1) bs))) = ap length (lines_at bs at e).1 in omega arith

-- no byte follows a line that is the last
pub last_line : (rest after : List ℕ) → lines after ≡ drop 1 (lines rest) → length after ≡ 0 → length (lines rest) ≤ 1
last_line rest [] e h = let n : 0 ≡ length (lines rest) - 1 = ap length e ∙ length-drop 1 (lines rest) in omega arith
last_line rest (c ∷ cs) e h = absurd (omega arith)
