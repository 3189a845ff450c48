-- Cuts and pieces are what their relations say, and nothing else is.
use Rattle.dmis_text.proofs.Names.{[], ◌&&◌, ◌++◌, ◌+◌, ◌<◌, ◌↔◌, ◌∙◌, ◌∷◌, ◌≡◌, ◌≢◌, ◌≤◌, ap, arith, Bool, cond, cut_at, element_of, eq-eqb, eqb}
use Rattle.dmis_text.proofs.Names.{eqb-false, eqb-true, false, false≢true, headed, inside_after, is_unmarked, IsCut, IsSplit, length, length-append}
use Rattle.dmis_text.proofs.Names.{List, map, ne_eqb, None, NoneOutside, not, onto_front, Option, option_map, pieces, prefix_len, refl, Says}
use Rattle.dmis_text.proofs.Names.{slice_index, Some, some_pair_parts, Statement, statement_of, subst, suc, sym, take, true, turned, with_label}
use Rattle.dmis_text.proofs.Names.{with_params, word_alone, zero, ℕ}
use Rattle.dmis_text.proofs.Skipping.{plain_uncut}
use Rattle.dmis_text.proofs.Splitting.{pieces_none, pieces_some}

-- the same where a text may be open before the first byte
abbrev NoneFrom : Bool → ℕ → List ℕ → Type 0
NoneFrom inside mark bytes = (k : ℕ) → k < length bytes → inside_after inside (take k bytes) ≡ false → slice_index bytes k ≢ mark

none_behind : (inside : Bool) (mark c : ℕ) (cs : List ℕ) → NoneFrom inside mark (c ∷ cs) → NoneFrom (turned inside c) mark cs
none_behind inside mark c cs h k within closed = h (suc k) (omega arith) closed

-- if a mark comes first, if another byte comes first, and if there is no byte
test_true : (inside : Bool) (c mark : ℕ) → (not inside && eqb c mark) ≡ true → (inside ≡ false) × (c ≡ mark)
test_true true c mark e = absurd (false≢true e)
test_true false c mark e = (refl, eqb-true c mark e)

test_false : (inside : Bool) (c mark : ℕ) → (inside ≡ false → c ≢ mark) → (not inside && eqb c mark) ≡ false
test_false true c mark other = refl
test_false false c mark other = ne_eqb c mark (other refl)

none_first : (inside : Bool) (mark c : ℕ) (cs : List ℕ) → NoneFrom inside mark (c ∷ cs) → (not inside && eqb c mark) ≡ false
none_first inside mark c cs h = test_false inside c mark (λ closed. h 0 (omega arith) closed)

-- without a mark there is no cut
uncut : (inside : Bool) (mark : ℕ) (bytes : List ℕ) → NoneFrom inside mark bytes → cut_at mark inside bytes ≡ None
uncut inside mark [] h = refl
uncut inside mark (c ∷ cs) h = rw (none_first inside mark c cs h, uncut (turned inside c) mark cs (none_behind inside mark c cs h))

-- and with one after bytes without one it is there
cut_there : (inside : Bool) (mark : ℕ) (front behind : List ℕ) → NoneFrom inside mark front → inside_after inside front ≡ false
    → cut_at mark inside (front ++ mark ∷ behind) ≡ Some (front, behind)
cut_there inside mark [] behind h closed = rw (closed, eq-eqb mark mark refl)
cut_there inside mark (c ∷ cs) behind h closed = rw (
  none_first inside mark c cs h,
  cut_there (turned inside c) mark cs behind (none_behind inside mark c cs h) closed,
)

none_from_front : (inside : Bool) (mark c : ℕ) (cs : List ℕ) → (not inside && eqb c mark) ≡ false → NoneFrom (turned inside c) mark cs
    → NoneFrom inside mark (c ∷ cs)
none_from_front inside mark c cs e h zero within closed = first inside closed e
  where
    first : (inside : Bool) → inside ≡ false → (not inside && eqb c mark) ≡ false → c ≢ mark
    first true closed e = absurd (false≢true (sym closed))
    first false closed e = eqb-false c mark e
none_from_front inside mark c cs e h (suc k) within closed = h k (omega arith) closed

-- what a cut that was found says
abbrev CutFrom : Bool → ℕ → List ℕ → List ℕ → List ℕ → Type 0
CutFrom inside mark text front behind = (text ≡ front ++ mark ∷ behind) × (inside_after inside front ≡ false) × NoneFrom inside mark front

none_in_nothing : (inside : Bool) (mark : ℕ) → NoneFrom inside mark []
none_in_nothing inside mark = λ k within closed e. omega arith

cut_found : (inside : Bool) (mark : ℕ) (text front behind : List ℕ) → cut_at mark inside text ≡ Some (front, behind)
    → CutFrom inside mark text front behind
cut_found inside mark [] front behind e = cc
cut_found inside mark (c ∷ cs) front behind e = go (λ f b h. cut_found (turned inside c) mark cs f b h) (not inside && eqb c mark) refl e
  where
    later : (o : Option (List ℕ × List ℕ)) → ((f b : List ℕ) → o ≡ Some (f, b) → CutFrom (turned inside c) mark cs f b)
        → (not inside && eqb c mark) ≡ false
        → option_map (onto_front c) o ≡ Some (front, behind) → CutFrom inside mark (c ∷ cs) front behind
    later None rest other e = cc
    later (Some p) rest other e =
        let same = some_pair_parts (c ∷ p.0) front p.1 behind e in
        let more = rest p.0 p.1 refl in
        rw (← same.0, ← same.1) (ap (λ (xs : List ℕ). c ∷ xs) more.0, more.1, none_from_front inside mark c p.0 other more.2)

    go : ((f b : List ℕ) → cut_at mark (turned inside c) cs ≡ Some (f, b) → CutFrom (turned inside c) mark cs f b) → (t : Bool)
        → (not inside && eqb c mark) ≡ t
        → cond t (Some ([], cs)) (option_map (onto_front c) (cut_at mark (turned inside c) cs)) ≡ Some (front, behind)
        → CutFrom inside mark (c ∷ cs) front behind
    go rest true here e =
        let same = some_pair_parts [] front cs behind e in
        let at = test_true inside c mark here in
        rw (← same.0, ← same.1) (ap (λ (x : ℕ). x ∷ cs) at.1, at.0, none_in_nothing inside mark)
    go rest false other e = later (cut_at mark (turned inside c) cs) rest other e

none_found : (inside : Bool) (mark : ℕ) (text : List ℕ) → cut_at mark inside text ≡ None → NoneFrom inside mark text
none_found inside mark [] e = none_in_nothing inside mark
none_found inside mark (c ∷ cs) e = go (λ h. none_found (turned inside c) mark cs h) (not inside && eqb c mark) refl e
  where
    later : (o : Option (List ℕ × List ℕ)) → (o ≡ None → NoneFrom (turned inside c) mark cs) → (not inside && eqb c mark) ≡ false
        → option_map (onto_front c) o ≡ None → NoneFrom inside mark (c ∷ cs)
    later None rest other e = none_from_front inside mark c cs other (rest refl)
    later (Some p) rest other e = cc

    go : (cut_at mark (turned inside c) cs ≡ None → NoneFrom (turned inside c) mark cs) → (t : Bool) → (not inside && eqb c mark) ≡ t
        → cond t (Some ([], cs)) (option_map (onto_front c) (cut_at mark (turned inside c) cs)) ≡ None → NoneFrom inside mark (c ∷ cs)
    go rest true here e = cc
    go rest false other e = later (cut_at mark (turned inside c) cs) rest other e

-- a text is cut at the first mark outside texts, and at no other place
pub cut_is : (mark : ℕ) (text front behind : List ℕ) → IsCut mark text front behind ↔ (cut_at mark false text ≡ Some (front, behind))
cut_is mark text front behind = (
  λ h. rw h.parts (cut_there false mark front behind h.first h.closed),
  λ e. let cut = cut_found false mark text front behind e in record { parts = cut.0; closed = cut.1; first = cut.2 },
)

-- where no mark stands before the first `/`, no label does
pub no_label : (text head behind : List ℕ) → cut_at 47 false text ≡ Some (head, behind) → length head ≤ prefix_len is_unmarked text
    → cut_at 61 false head ≡ None
no_label text head behind e within = plain_uncut 61 head (47 ∷ behind) refl
    (subst (λ (xs : List ℕ). length head ≤ prefix_len is_unmarked xs) ((cut_is 47 text head behind).1 e).parts within)

-- and not at all if there is none
pub uncut_is : (mark : ℕ) (text : List ℕ) → NoneOutside mark text ↔ (cut_at mark false text ≡ None)
uncut_is mark text = (λ h. uncut false mark text h, λ e. none_found false mark text e)

-- one piece more in front of a split
split_more : (text piece behind : List ℕ) (parts : List (List ℕ)) → IsCut 44 text piece behind → IsSplit behind parts
    → IsSplit text (piece ∷ parts)
split_more text piece behind [] cut h = absurd h
split_more text piece behind (next ∷ parts) cut h = (behind, cut, h)

shorter_behind : (mark : ℕ) (text front behind : List ℕ) → IsCut mark text front behind → length behind < length text
shorter_behind mark text front behind cut = omega (arith, ap length cut.parts, length-append front (mark ∷ behind))

-- the pieces are a split of the text
split_within : (n : ℕ) (text : List ℕ) → length text < n → IsSplit text (pieces false text)
split_within zero text h = absurd (omega arith)
split_within (suc n) text h = go (λ t l. split_within n t l) (cut_at 44 false text) refl
  where
    go : ((t : List ℕ) → length t < n → IsSplit t (pieces false t)) → (o : Option (List ℕ × List ℕ)) → cut_at 44 false text ≡ o
        → IsSplit text (pieces false text)
    go rest None e = rw (pieces_none text e) (refl, (uncut_is 44 text).1 e)
    go rest (Some p) e =
        let cut = (cut_is 44 text p.0 p.1).1 e in
        rw (pieces_some text p.0 p.1 e) (split_more text p.0 p.1 (pieces false p.1) cut
        (rest p.1 (omega (arith, shorter_behind 44 text p.0 p.1 cut))))

-- and there is no other
one_split : (text : List ℕ) (parts : List (List ℕ)) → IsSplit text parts → parts ≡ pieces false text
one_split text [] h = absurd h
one_split text (piece ∷ []) h = rw (pieces_none text ((uncut_is 44 text).0 (rw h.0 h.1)), ← h.0)
one_split text (piece ∷ next ∷ more) h = ap (λ (ps : List (List ℕ)). piece ∷ ps) (one_split h.0 (next ∷ more) h.2)
    ∙ sym (pieces_some text piece h.0 ((cut_is 44 text piece h.0).0 h.1))

-- a text is split at the commas outside texts, and in no other way
pub split_is : (text : List ℕ) (parts : List (List ℕ)) → IsSplit text parts ↔ (parts ≡ pieces false text)
split_is text parts = (one_split text parts, λ e. rw e (split_within (length text + 1) text (omega arith)))

-- what a text says is its statement
says_statement : (line : ℕ) (text : List ℕ) → Says line text (statement_of line text)
says_statement line text = go (cut_at 47 false text) refl
  where
    headed_by : (head behind : List ℕ) → IsCut 47 text head behind → (o : Option (List ℕ × List ℕ)) → cut_at 61 false head ≡ o
        → Says line text (headed line (map element_of (pieces false behind)) head o)
    headed_by head behind cut None e = with_params head behind (pieces false behind) cut ((uncut_is 61 head).1 e)
        ((split_is behind (pieces false behind)).1 refl)
    headed_by head behind cut (Some p) e = with_label head behind p.0 p.1 (pieces false behind) cut ((cut_is 61 head p.0 p.1).1 e)
        ((split_is behind (pieces false behind)).1 refl)

    go : (o : Option (List ℕ × List ℕ)) → cut_at 47 false text ≡ o → Says line text (statement_of line text)
    go None e = rw e (word_alone ((uncut_is 47 text).1 e))
    go (Some p) e = rw e (headed_by p.0 p.1 ((cut_is 47 text p.0 p.1).1 e) (cut_at 61 false p.0) refl)

-- and nothing else
one_statement : (line : ℕ) (text : List ℕ) (s : Statement) → Says line text s → s ≡ statement_of line text
one_statement line text _ (word_alone none) = rw ((uncut_is 47 text).0 none)
one_statement line text _ (with_params word behind params cut none split) =
    rw ((cut_is 47 text word behind).0 cut, (uncut_is 61 word).0 none, one_split behind params split)
one_statement line text _ (with_label head behind label word params cut named split) =
    rw ((cut_is 47 text head behind).0 cut, (cut_is 61 head label word).0 named, one_split behind params split)

pub says_is : (line : ℕ) (text : List ℕ) (s : Statement) → Says line text s ↔ (s ≡ statement_of line text)
says_is line text s = (one_statement line text s, λ e. rw e (says_statement line text))
