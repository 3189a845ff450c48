-- A prefix of a written text of acts is read as the acts whose lines are whole in it.
use Rattle.contact_ledger.proofs.Names.{[], ◌++◌, ◌+◌, ◌-◌, ◌<◌, ◌∙◌, ◌∷◌, ◌≡◌, ◌≤◌, Act, act_line, AllByRecursion, and_from, and_parts, ap}
use Rattle.contact_ledger.proofs.Names.{append_assoc, AreEntries, arith, Bool, but_last, codes, contact_lines, contacts_text, eqb, false, IsContacts}
use Rattle.contact_ledger.proofs.Names.{length, length-append, List, list_all, map, not, refl, slice_split, subst, suc, sym, take, text_of, true}
use Rattle.contact_ledger.proofs.Names.{zero, ℕ}
use Rattle.contact_ledger.specs.Lines.{whole_lines}
use Rattle.contact_ledger.specs.ContactTexts.{none, some}
use Rattle.contact_ledger.proofs.ContactLaws.{is_inner, IsInner, line_first, contact_inner, take_lines, take_entries}

-- lines, and after them what has no line end
inner_alone : (r : List ℕ) → list_all is_inner r ≡ true → slice_split (λ b. eqb b 10) r ≡ r ∷ []
inner_alone [] h = refl
inner_alone (x ∷ xs) h =
    let s = and_parts (is_inner x) (list_all is_inner xs) h in
    rw (not_end (eqb x 10) s.0, inner_alone xs s.1) refl
  where
    not_end : (b : Bool) → not b ≡ true → b ≡ false
    not_end true e = absurd cc
    not_end false e = refl

split_behind : (ls : List (List ℕ)) (r : List ℕ) → AllByRecursion IsInner ls → list_all is_inner r ≡ true
    → slice_split (λ b. eqb b 10) (text_of ls ++ r) ≡ ls ++ r ∷ []
split_behind [] r h g = inner_alone r g
split_behind (l ∷ ls) r h g =
    ap (λ (t : List ℕ). slice_split (λ b. eqb b 10) t) (append_assoc l (10 ∷ text_of ls) r)
    ∙ line_first l (text_of ls ++ r) h.0.inner ∙ ap (λ (t : List (List ℕ)). l ∷ t) (split_behind ls r h.1 g)

lines_but_last : (ls : List (List ℕ)) (r : List ℕ) → but_last (ls ++ r ∷ []) ≡ ls
lines_but_last [] r = refl
lines_but_last (l ∷ []) r = refl
lines_but_last (l ∷ m ∷ ls) r = ap (λ (t : List (List ℕ)). l ∷ t) (lines_but_last (m ∷ ls) r)

lines_in_front : (ls : List (List ℕ)) (r : List ℕ) → AllByRecursion IsInner ls → list_all is_inner r ≡ true
    → whole_lines (text_of ls ++ r) ≡ ls
unfolding whole_lines
lines_in_front ls r h g = rw (split_behind ls r h g) (lines_but_last ls r)

-- a prefix of a text is lines, and after them the prefix of a line
record IsCut (ls : List (List ℕ)) (n k : ℕ) : Type 0 where
  behind : List ℕ
  inner : list_all is_inner behind ≡ true
  parts : take k (text_of ls) ≡ text_of (take n ls) ++ behind

within_line : (k : ℕ) (l rest : List ℕ) → k ≤ length l → list_all is_inner l ≡ true → list_all is_inner (take k (l ++ rest)) ≡ true
within_line zero [] rest small h = take_none rest
  where
    take_none : (xs : List ℕ) → list_all is_inner (take 0 xs) ≡ true
    take_none [] = refl
    take_none (x ∷ xs) = refl
within_line zero (x ∷ xs) rest small h = refl
within_line (suc k) [] rest small h = absurd (omega (arith, small))
within_line (suc k) (x ∷ xs) rest small h =
    let s = and_parts (is_inner x) (list_all is_inner xs) h in
    and_from _ _ s.0 (within_line k xs rest (omega (arith, small)) s.1)

zero_plus : (n : ℕ) → 0 + n ≡ n
zero_plus n = omega arith

suc_plus : (m n : ℕ) → suc m + n ≡ suc (m + n)
suc_plus m n = omega arith

take_past : (l rest : List ℕ) (k : ℕ) → take (length l + suc k) (l ++ 10 ∷ rest) ≡ l ++ 10 ∷ take k rest
take_past [] rest k = ap (λ (m : ℕ). take m (10 ∷ rest)) (zero_plus (suc k))
take_past (x ∷ xs) rest k = ap (λ (m : ℕ). take m (x ∷ (xs ++ 10 ∷ rest))) (suc_plus (length xs) (suc k))
    ∙ ap (λ (t : List ℕ). x ∷ t) (take_past xs rest k)

cut : (n k : ℕ) (ls : List (List ℕ)) → AllByRecursion IsInner ls → n < length ls → length (text_of (take n ls)) ≤ k
    → k < length (text_of (take (suc n) ls)) → IsCut ls n k
cut n k [] h within low high = absurd (omega (arith, within))
cut zero k (l ∷ ls) h within low high =
    let long = length-append l (10 ∷ []) in
    let small : k < length (l ++ 10 ∷ []) = high in
    record {
      behind = take k (l ++ 10 ∷ text_of ls);
      inner = within_line k l (10 ∷ text_of ls) (omega (arith, small, long)) h.0.inner;
      parts = refl;
    }
cut (suc n) k (l ∷ ls) h within low high =
    let a = length-append l (10 ∷ text_of (take n ls)) in
    let b = length-append l (10 ∷ text_of (take (suc n) ls)) in
    let below : length (l ++ 10 ∷ text_of (take n ls)) ≤ k = low in
    let above : k < length (l ++ 10 ∷ text_of (take (suc n) ls)) = high in
    let left = k - (length l + 1) in
    let size : k ≡ length l + suc left = omega (arith, a, below) in
    let rest = cut n left ls h.1 (omega (arith, within)) (omega (arith, a, below)) (omega (arith, a, b, below, above)) in
    record {
      behind = rest.behind;
      inner = rest.inner;
      parts = ap (λ (m : ℕ). take m (l ++ 10 ∷ text_of ls)) size ∙ take_past l (text_of ls) left
          ∙ ap (λ (t : List ℕ). l ++ 10 ∷ t) rest.parts ∙ sym (append_assoc l (10 ∷ text_of (take n ls)) rest.behind);
    }

all_taken : (n : ℕ) (ls : List (List ℕ)) → AllByRecursion IsInner ls → AllByRecursion IsInner (take n ls)
all_taken zero [] h = tt
all_taken zero (l ∷ ls) h = tt
all_taken (suc n) [] h = tt
all_taken (suc n) (l ∷ ls) h = (h.0, all_taken n ls h.1)

cut_lines : (n k : ℕ) (ls : List (List ℕ)) → AllByRecursion IsInner ls → n < length ls → length (text_of (take n ls)) ≤ k
    → k < length (text_of (take (suc n) ls)) → whole_lines (take k (text_of ls)) ≡ take n ls
cut_lines n k ls h within low high =
    let parts = cut n k ls h within low high in
    rw (parts.parts) (lines_in_front (take n ls) parts.behind (all_taken n ls h) parts.inner)

lines_count : (es : List (ℕ × Act)) → length (map act_line es) ≡ length es
lines_count [] = refl
lines_count (e ∷ es) = ap (λ (n : ℕ). suc n) (lines_count es)

plus_one : (n : ℕ) → n + 1 ≡ suc n
plus_one n = omega arith

front_read : (es : List (ℕ × Act)) (n k : ℕ) → AreEntries es → n < length es → length (contacts_text (take n es)) ≤ k
    → k < length (contacts_text (take (suc n) es)) → IsContacts (take k (contacts_text es)) (take n es)
front_read es n k h within low high =
    let count = lines_count es in
    some (take_entries n es h)
    (cut_lines (suc n) k (contact_lines es) (contact_inner es h) (omega (arith, within, count))
    (subst (λ (ls : List (List ℕ)). length (text_of (codes "DME-CONTACTS 1" ∷ ls)) ≤ k) (sym (take_lines n es)) low)
    (subst (λ (ls : List (List ℕ)). k < length (text_of (codes "DME-CONTACTS 1" ∷ ls))) (sym (take_lines (suc n) es)) high)
    ∙ ap (λ (ls : List (List ℕ)). codes "DME-CONTACTS 1" ∷ ls) (take_lines n es))

pub front_is_read : (es : List (ℕ × Act)) (n k : ℕ) → AreEntries es → n < length es → length (contacts_text (take n es)) ≤ k
    → k < length (contacts_text (take (n + 1) es)) → IsContacts (take k (contacts_text es)) (take n es)
front_is_read es n k h within low high =
    front_read es n k h within low (subst (λ (m : ℕ). k < length (contacts_text (take m es))) (plus_one n) high)

zero_low : (k : ℕ) → 0 ≤ k
zero_low k = omega arith

pub header_is_torn : (es : List (ℕ × Act)) (k : ℕ) → AreEntries es → k < length (contacts_text [])
    → IsContacts (take k (contacts_text es)) []
header_is_torn es k h high =
    none (cut_lines 0 k (contact_lines es) (contact_inner es h) (omega arith) (zero_low k) high) refl
