-- A prefix of a written text is read as what its whole lines say.
use Rattle.witness.proofs.ToldNames.{[], ◌++◌, ◌+◌, ◌-◌, ◌<◌, ◌∙◌, ◌∷◌, ◌≡◌, ◌≤◌, AllByRecursion, and_from, and_parts, ap, append_assoc}
use Rattle.witness.proofs.ToldNames.{AreWrittenEntries, arith, Bool, but_last, codes, eqb, false, is_inner, IsInner, IsToldText, length, length-append}
use Rattle.witness.proofs.ToldNames.{line_first, List, list_all, map, NeverFall, not, refl, Reported, slice_split, subst, suc, sym, take, text_of}
use Rattle.witness.proofs.ToldNames.{told_file_lines, told_line, told_text, true, zero, ℕ}
use Rattle.contact_ledger.specs.Lines.{whole_lines}
use Rattle.witness.specs.ToldTexts.{entry_back, none, some}
use Rattle.witness.proofs.ToldLaws.{file_inner, take_lines, take_up, entries_back, back_up, file_lines_back}

-- lines, and after them what has no line end
inner_alone : (r : List ℕ) → list_all is_inner r ≡ true → slice_split (λ b. eqb b 10) r ≡ r ∷ []
inner_alone [] h = refl
inner_alone (x ∷ xs) h =
    let s = and_parts (is_inner x) (list_all is_inner xs) h in
    rw (not_end (eqb x 10) s.0, inner_alone xs s.1) refl
  where
    not_end : (b : Bool) → not b ≡ true → b ≡ false
    not_end true e = absurd cc
    not_end false e = refl

split_behind : (ls : List (List ℕ)) (r : List ℕ) → AllByRecursion IsInner ls → list_all is_inner r ≡ true
    → slice_split (λ b. eqb b 10) (text_of ls ++ r) ≡ ls ++ r ∷ []
split_behind [] r h g = inner_alone r g
split_behind (l ∷ ls) r h g =
    ap (λ (t : List ℕ). slice_split (λ b. eqb b 10) t) (append_assoc l (10 ∷ text_of ls) r)
    ∙ line_first l (text_of ls ++ r) h.0.inner ∙ ap (λ (t : List (List ℕ)). l ∷ t) (split_behind ls r h.1 g)

lines_but_last : (ls : List (List ℕ)) (r : List ℕ) → but_last (ls ++ r ∷ []) ≡ ls
lines_but_last [] r = refl
lines_but_last (l ∷ []) r = refl
lines_but_last (l ∷ m ∷ ls) r = ap (λ (t : List (List ℕ)). l ∷ t) (lines_but_last (m ∷ ls) r)

lines_in_front : (ls : List (List ℕ)) (r : List ℕ) → AllByRecursion IsInner ls → list_all is_inner r ≡ true
    → whole_lines (text_of ls ++ r) ≡ ls
unfolding whole_lines
lines_in_front ls r h g = rw (split_behind ls r h g) (lines_but_last ls r)

-- a prefix of a text is lines, and after them the prefix of a line
record IsCut (ls : List (List ℕ)) (n k : ℕ) : Type 0 where
  behind : List ℕ
  inner : list_all is_inner behind ≡ true
  parts : take k (text_of ls) ≡ text_of (take n ls) ++ behind

within_line : (k : ℕ) (l rest : List ℕ) → k ≤ length l → list_all is_inner l ≡ true → list_all is_inner (take k (l ++ rest)) ≡ true
within_line zero [] rest small h = take_none rest
  where
    take_none : (xs : List ℕ) → list_all is_inner (take 0 xs) ≡ true
    take_none [] = refl
    take_none (x ∷ xs) = refl
within_line zero (x ∷ xs) rest small h = refl
within_line (suc k) [] rest small h = absurd (omega (arith, small))
within_line (suc k) (x ∷ xs) rest small h =
    let s = and_parts (is_inner x) (list_all is_inner xs) h in
    and_from _ _ s.0 (within_line k xs rest (omega (arith, small)) s.1)

zero_plus : (n : ℕ) → 0 + n ≡ n
zero_plus n = omega arith

suc_plus : (m n : ℕ) → suc m + n ≡ suc (m + n)
suc_plus m n = omega arith

take_past : (l rest : List ℕ) (k : ℕ) → take (length l + suc k) (l ++ 10 ∷ rest) ≡ l ++ 10 ∷ take k rest
take_past [] rest k = ap (λ (m : ℕ). take m (10 ∷ rest)) (zero_plus (suc k))
take_past (x ∷ xs) rest k = ap (λ (m : ℕ). take m (x ∷ (xs ++ 10 ∷ rest))) (suc_plus (length xs) (suc k))
    ∙ ap (λ (t : List ℕ). x ∷ t) (take_past xs rest k)

cut : (n k : ℕ) (ls : List (List ℕ)) → AllByRecursion IsInner ls → n < length ls → length (text_of (take n ls)) ≤ k
    → k < length (text_of (take (suc n) ls)) → IsCut ls n k
cut n k [] h within low high = absurd (omega (arith, within))
cut zero k (l ∷ ls) h within low high =
    let long = length-append l (10 ∷ []) in
    let small : k < length (l ++ 10 ∷ []) = high in
    record {
      behind = take k (l ++ 10 ∷ text_of ls);
      inner = within_line k l (10 ∷ text_of ls) (omega (arith, small, long)) h.0.inner;
      parts = refl;
    }
cut (suc n) k (l ∷ ls) h within low high =
    let a = length-append l (10 ∷ text_of (take n ls)) in
    let b = length-append l (10 ∷ text_of (take (suc n) ls)) in
    let below : length (l ++ 10 ∷ text_of (take n ls)) ≤ k = low in
    let above : k < length (l ++ 10 ∷ text_of (take (suc n) ls)) = high in
    let left = k - (length l + 1) in
    let size : k ≡ length l + suc left = omega (arith, a, below) in
    let rest = cut n left ls h.1 (omega (arith, within)) (omega (arith, a, below)) (omega (arith, a, b, below, above)) in
    record {
      behind = rest.behind;
      inner = rest.inner;
      parts = ap (λ (m : ℕ). take m (l ++ 10 ∷ text_of ls)) size ∙ take_past l (text_of ls) left
          ∙ ap (λ (t : List ℕ). l ++ 10 ∷ t) rest.parts ∙ sym (append_assoc l (10 ∷ text_of (take n ls)) rest.behind);
    }

all_taken : (n : ℕ) (ls : List (List ℕ)) → AllByRecursion IsInner ls → AllByRecursion IsInner (take n ls)
all_taken zero [] h = tt
all_taken zero (l ∷ ls) h = tt
all_taken (suc n) [] h = tt
all_taken (suc n) (l ∷ ls) h = (h.0, all_taken n ls h.1)

cut_lines : (n k : ℕ) (ls : List (List ℕ)) → AllByRecursion IsInner ls → n < length ls → length (text_of (take n ls)) ≤ k
    → k < length (text_of (take (suc n) ls)) → whole_lines (take k (text_of ls)) ≡ take n ls
cut_lines n k ls h within low high =
    let parts = cut n k ls h within low high in
    rw (parts.parts) (lines_in_front (take n ls) parts.behind (all_taken n ls h) parts.inner)

lines_count : (es : List (ℕ × Reported)) → length (map told_line es) ≡ length es
lines_count [] = refl
lines_count (e ∷ es) = ap (λ (n : ℕ). suc n) (lines_count es)

plus_one : (n : ℕ) → n + 1 ≡ suc n
plus_one n = omega arith

take_written : (n : ℕ) (es : List (ℕ × Reported)) → AreWrittenEntries es → AreWrittenEntries (take n es)
take_written zero [] h = tt
take_written zero (x ∷ xs) h = tt
take_written (suc n) [] h = tt
take_written (suc n) (x ∷ xs) h = (h.0, take_written n xs h.1)

front_read : (es : List (ℕ × Reported)) (n k : ℕ) → AreWrittenEntries es → NeverFall es → n < length es → length (told_text (take n es)) ≤ k
    → k < length (told_text (take (suc n) es)) → IsToldText (take k (told_text es)) (map entry_back (take n es))
front_read es n k h up within low high =
    let count = lines_count es in
    some (entries_back (take n es) (take_written n es h)) (back_up (take n es) (take_up n es up))
    (cut_lines (suc n) k (told_file_lines es) (file_inner es h) (omega (arith, within, count))
    (subst (λ (ls : List (List ℕ)). length (text_of (codes "DME-TOLD 1" ∷ ls)) ≤ k) (sym (take_lines n es)) low)
    (subst (λ (ls : List (List ℕ)). k < length (text_of (codes "DME-TOLD 1" ∷ ls))) (sym (take_lines (suc n) es)) high)
    ∙ ap (λ (ls : List (List ℕ)). codes "DME-TOLD 1" ∷ ls) (take_lines n es) ∙ file_lines_back (take n es) (take_written n es h))

pub front_is_read : (es : List (ℕ × Reported)) (n k : ℕ) → AreWrittenEntries es → NeverFall es → n < length es
    → length (told_text (take n es)) ≤ k → k < length (told_text (take (n + 1) es)) → IsToldText (take k (told_text es)) (map entry_back (take n es))
front_is_read es n k h up within low high =
    front_read es n k h up within low (subst (λ (m : ℕ). k < length (told_text (take m es))) (plus_one n) high)

zero_low : (k : ℕ) → 0 ≤ k
zero_low k = omega arith

pub header_is_torn : (es : List (ℕ × Reported)) (k : ℕ) → AreWrittenEntries es → k < length (told_text [])
    → IsToldText (take k (told_text es)) []
header_is_torn es k h high =
    none (cut_lines 0 k (told_file_lines es) (file_inner es h) (omega arith) (zero_low k) high) refl
