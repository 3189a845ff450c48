-- A text of acts is read in one way, and a written one as its acts.
use Rattle.contact_ledger.proofs.Names.{[], ◌++◌, ◌∙◌, ◌∷◌, ◌≡◌, ◌≤◌, Act, act_fields, act_line, AllByRecursion, and_from, and_parts, ap}
use Rattle.contact_ledger.proofs.Names.{AreContactLines, AreEntries, arith, Bool, but_last, codes, contact_lines, contacts_text, eqb, false}
use Rattle.contact_ledger.proofs.Names.{IsContacts, IsDamagedContacts, leb-true, length, line_of, List, list_all, list_all-append, map, ne_eqb, not}
use Rattle.contact_ledger.proofs.Names.{refl, slice_split, spaced, suc, sym, take, text_of, true, zero, ℕ}
use Rattle.contact_ledger.specs.Lines.{whole_lines}
use Rattle.contact_ledger.specs.ContactTexts.{none, some}
use Rattle.contact_ledger.proofs.PlainFields.{is_plain, ArePlain}
use Rattle.contact_ledger.proofs.EntryLines.{entry_plain}
use Rattle.contact_ledger.proofs.WrittenTexts.{line_spaced}
use Rattle.contact_ledger.proofs.OneEntry.{one_entry}

-- ---- in one way

same_list : (e f : ℕ × Act) (es fs : List (ℕ × Act)) → e ≡ f → es ≡ fs → e ∷ es ≡ f ∷ fs
same_list e f es fs p q = λ n. p n ∷ q n

one_list : (es fs : List (ℕ × Act)) → AreEntries es → AreEntries fs → map act_line es ≡ map act_line fs → es ≡ fs
one_list [] [] g h e = refl
one_list [] (y ∷ ys) g h e = absurd cc
one_list (x ∷ xs) [] g h e = absurd cc
one_list (x ∷ xs) (y ∷ ys) g h e =
    let first : act_line x ≡ act_line y = cc in
    let rest : map act_line xs ≡ map act_line ys = cc in
    same_list x y xs ys (one_entry x y g.0 h.0 first) (one_list xs ys g.1 h.1 rest)

one_lines : (ls : List (List ℕ)) (es fs : List (ℕ × Act)) → AreContactLines ls es → AreContactLines ls fs → es ≡ fs
one_lines ls es fs (none a b) (none c d) = b ∙ sym d
one_lines ls es fs (none a b) (some c d) = absurd cc
one_lines ls es fs (some a b) (none c d) = absurd cc
one_lines ls es fs (some a b) (some c d) =
    let both : contact_lines es ≡ contact_lines fs = sym b ∙ d in
    let same : map act_line es ≡ map act_line fs = cc in
    one_list es fs a c same

pub one_contacts : (bytes : List ℕ) (es fs : List (ℕ × Act)) → IsContacts bytes es → IsContacts bytes fs → es ≡ fs
one_contacts bytes es fs g h = one_lines (whole_lines bytes) es fs g h

-- ---- never both

pub take_lines : (n : ℕ) (es : List (ℕ × Act)) → take n (map act_line es) ≡ map act_line (take n es)
take_lines zero [] = refl
take_lines zero (x ∷ xs) = refl
take_lines (suc n) [] = refl
take_lines (suc n) (x ∷ xs) = ap (λ (r : List (List ℕ)). act_line x ∷ r) (take_lines n xs)

pub take_entries : (n : ℕ) (es : List (ℕ × Act)) → AreEntries es → AreEntries (take n es)
take_entries zero [] h = tt
take_entries zero (x ∷ xs) h = tt
take_entries (suc n) [] h = tt
take_entries (suc n) (x ∷ xs) h = (h.0, take_entries n xs h.1)

front_begins : (n : ℕ) (ls : List (List ℕ)) (es : List (ℕ × Act)) → 1 ≤ n → n ≤ length ls → AreContactLines ls es
    → (fs : List (ℕ × Act)) × AreContactLines (take n ls) fs
front_begins zero ls es low high h = absurd (omega (arith, low))
front_begins (suc n) ls es low high (none a b) = let short = ap (λ (r : List (List ℕ)). length r) a in absurd (omega (arith, short, high))
front_begins (suc n) ls es low high (some a b) =
    (take n es, some (take_entries n es a) (rw b (ap (λ (r : List (List ℕ)). codes "DME-CONTACTS 1" ∷ r) (take_lines n es))))

pub never_both : (bytes : List ℕ) (es : List (ℕ × Act)) (n : ℕ) → IsContacts bytes es → IsDamagedContacts bytes n → ⊥
never_both bytes es n h d = d.torn (front_begins n (whole_lines bytes) es d.first d.last h)

-- ---- a written text has its lines

abbrev pub is_inner : ℕ → Bool
is_inner c = not (eqb c 10)

pub record IsInner (line : List ℕ) : Type 0 where
  pub inner : list_all is_inner line ≡ true

plain_byte : (c : ℕ) → is_plain c ≡ true → is_inner c ≡ true
plain_byte c h = let other : eqb c 10 ≡ false = ne_eqb c 10 (λ e. omega (arith, leb-true 33 c h, e)) in rw other refl

plain_inner : (xs : List ℕ) → list_all is_plain xs ≡ true → list_all is_inner xs ≡ true
plain_inner [] h = refl
plain_inner (x ∷ xs) h =
    let s = and_parts (is_plain x) (list_all is_plain xs) h in
    and_from _ _ (plain_byte x s.0) (plain_inner xs s.1)

inner_append : (a b : List ℕ) → list_all is_inner a ≡ true → list_all is_inner b ≡ true → list_all is_inner (a ++ b) ≡ true
inner_append a b f g = list_all-append is_inner a b ∙ and_from _ _ f g

spaced_inner : (fields : List (List ℕ)) → ArePlain fields → list_all is_inner (spaced fields) ≡ true
spaced_inner [] h = refl
spaced_inner (x ∷ xs) h = inner_append x (spaced xs) (plain_inner x h.0.plain) (spaced_inner xs h.1)

line_inner : (field : List ℕ) (fields : List (List ℕ)) → ArePlain (field ∷ fields) → IsInner (line_of (field ∷ fields))
line_inner field fields h = record {
  inner = rw (line_spaced field fields) (inner_append field (spaced fields) (plain_inner field h.0.plain) (spaced_inner fields h.1));
}

pub line_first : (line rest : List ℕ) → list_all is_inner line ≡ true
    → slice_split (λ b. eqb b 10) (line ++ (10 ∷ rest)) ≡ line ∷ slice_split (λ b. eqb b 10) rest
line_first [] rest h = refl
line_first (x ∷ xs) rest h =
    let s = and_parts (is_inner x) (list_all is_inner xs) h in
    rw (not_end (eqb x 10) s.0, line_first xs rest s.1) refl
  where
    not_end : (b : Bool) → not b ≡ true → b ≡ false
    not_end true e = absurd cc
    not_end false e = refl

text_split : (ls : List (List ℕ)) → AllByRecursion IsInner ls → slice_split (λ b. eqb b 10) (text_of ls) ≡ ls ++ [] ∷ []
text_split [] h = refl
text_split (l ∷ ls) h = line_first l (text_of ls) h.0.inner ∙ ap (λ (r : List (List ℕ)). l ∷ r) (text_split ls h.1)

pub without_last : (ls : List (List ℕ)) → but_last (ls ++ [] ∷ []) ≡ ls
without_last [] = refl
without_last (l ∷ []) = refl
without_last (l ∷ m ∷ ls) = ap (λ (r : List (List ℕ)). l ∷ r) (without_last (m ∷ ls))

text_lines : (ls : List (List ℕ)) → AllByRecursion IsInner ls → whole_lines (text_of ls) ≡ ls
unfolding whole_lines
text_lines ls h = rw (text_split ls h) (without_last ls)

entries_inner : (es : List (ℕ × Act)) → AreEntries es → AllByRecursion IsInner (map act_line es)
entries_inner [] h = tt
entries_inner (e ∷ es) h = (line_inner _ (act_fields e.1) (entry_plain e h.0), entries_inner es h.1)

pub contact_inner : (es : List (ℕ × Act)) → AreEntries es → AllByRecursion IsInner (contact_lines es)
contact_inner es h = (record { inner = refl }, entries_inner es h)

pub written_read : (es : List (ℕ × Act)) → AreEntries es → IsContacts (contacts_text es) es
written_read es h = some h (text_lines (contact_lines es) (contact_inner es h))
