-- What reading acts line by line comes to.
use Rattle.contact_ledger.proofs.Names.{[], ◌++◌, ◌+◌, ◌-◌, ◌∙◌, ◌∷◌, ◌≡◌, Act, act_line, ap, AreContactLines, AreEntries, arith, codes}
use Rattle.contact_ledger.proofs.Names.{contact_lines, Damaged, drop, IsContacts, IsDamagedContacts, IsEntry, List, map, Memory, ReadsFault, refl}
use Rattle.contact_ledger.proofs.Names.{subst, suc, sym, take, TextFault, whole_lines, zero, ℕ}
use Rattle.contact_ledger.specs.ContactTexts.{none, some}
use Rattle.contact_ledger.proofs.FeatureReads.{take_one_more}
use Rattle.contact_ledger.proofs.FeatureShapes.{all_more}

take_whole : (n : ℕ) (ls : List (List ℕ)) → drop n ls ≡ [] → take n ls ≡ ls
take_whole zero [] e = refl
take_whole zero (x ∷ xs) e = absurd cc
take_whole (suc n) [] e = refl
take_whole (suc n) (x ∷ xs) e = ap (λ (y : List (List ℕ)). x ∷ y) (take_whole n xs e)

map_more : (xs ys : List (ℕ × Act)) → map act_line (xs ++ ys) ≡ map act_line xs ++ map act_line ys
map_more [] ys = refl
map_more (x ∷ xs) ys = ap (λ (r : List (List ℕ)). act_line x ∷ r) (map_more xs ys)

-- one more line
pub record More (ls more : List (List ℕ)) (n : ℕ) (es : List (ℕ × Act)) : Type 0 where
  pub left : drop (n + 1) ls ≡ more
  pub read : take (n + 1) ls ≡ contact_lines es
  pub entries : AreEntries es

pub line_read : (ls more : List (List ℕ)) (l : List ℕ) (n : ℕ) (es new : List (ℕ × Act)) (e : ℕ × Act) → drop n ls ≡ l ∷ more
    → take n ls ≡ contact_lines es → AreEntries es → IsEntry e → l ≡ act_line e → new ≡ es ++ e ∷ [] → More ls more n new
line_read ls more l n es new e d r all h w same =
    let t = take_one_more n ls more l d in
    rw same (record {
      left = t.1;
      read = t.0 ∙ rw (r, w) (ap (λ (ys : List (List ℕ)). codes "DME-CONTACTS 1" ∷ ys) (sym (map_more es (e ∷ []))));
      entries = all_more IsEntry es e all h;
    })

-- after the last line, the lines are those of the acts
pub lines_read : (bytes : List ℕ) (n : ℕ) (es : List (ℕ × Act)) → drop n (whole_lines bytes) ≡ []
    → take n (whole_lines bytes) ≡ contact_lines es → AreEntries es → IsContacts bytes es
lines_read bytes n es d r all = some all (sym (take_whole n (whole_lines bytes) d) ∙ r)

-- a line after lines of acts is an act's, where all are
last_is_entry : (xs es : List (ℕ × Act)) (l : List ℕ) → AreEntries es → map act_line xs ++ l ∷ [] ≡ map act_line es
    → (e : ℕ × Act) × IsEntry e × (l ≡ act_line e)
last_is_entry [] [] l all h = absurd cc
last_is_entry [] (e ∷ es) l all h = let same : l ≡ act_line e = cc in (e, all.0, same)
last_is_entry (x ∷ xs) [] l all h = absurd cc
last_is_entry (x ∷ xs) (e ∷ es) l all h =
    let rest : map act_line xs ++ l ∷ [] ≡ map act_line es = cc in
    last_is_entry xs es l all.1 rest

no_line : (xs es : List (ℕ × Act)) (l : List ℕ) → ((e : ℕ × Act) → IsEntry e → l ≡ act_line e → ⊥)
    → AreContactLines (contact_lines xs ++ l ∷ []) es → ⊥
no_line xs es l other (none a b) = absurd cc
no_line xs es l other (some a b) =
    let rest : map act_line xs ++ l ∷ [] ≡ map act_line es = cc in
    let last = last_is_entry xs es l a rest in
    other last.0 last.1 last.2

pub line_damaged : (bytes : List ℕ) (more : List (List ℕ)) (l : List ℕ) (n : ℕ) (es : List (ℕ × Act))
    → drop n (whole_lines bytes) ≡ l ∷ more → take n (whole_lines bytes) ≡ contact_lines es → AreEntries es
    → ((e : ℕ × Act) → IsEntry e → l ≡ act_line e → ⊥) → IsDamagedContacts bytes (n + 1)
line_damaged bytes more l n es d r all other =
    let t = take_one_more n (whole_lines bytes) more l d in
    let back : n + 1 - 1 ≡ n = omega arith in
    let lines : take (n + 1) (whole_lines bytes) ≡ contact_lines es ++ l ∷ [] = t.0 ∙ rw r refl in
    record {
      first = omega arith;
      last = t.2;
      above = (es, rw back (some all r));
      torn = λ b. no_line es b.0 l other (subst (λ (ls : List (List ℕ)). AreContactLines ls b.0) lines b.1);
    }

-- what a refused line answers
pub read_failed : (bytes : List ℕ) (more : List (List ℕ)) (l : List ℕ) (n : ℕ) (es : List (ℕ × Act)) (fault : TextFault)
    → drop n (whole_lines bytes) ≡ l ∷ more → take n (whole_lines bytes) ≡ contact_lines es → AreEntries es
    → ((m : ℕ) → fault ≡ Damaged m → (m ≡ n + 1) × ((e : ℕ × Act) → IsEntry e → l ≡ act_line e → ⊥))
    → ReadsFault (IsDamagedContacts bytes) fault
read_failed bytes more l n es Memory d r all w = tt
read_failed bytes more l n es (Damaged m) d r all w =
    let due = w m refl in
    rw due.0 (line_damaged bytes more l n es d r all due.1)
