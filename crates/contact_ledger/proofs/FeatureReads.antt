-- What reading features line by line comes to.
use Rattle.contact_ledger.proofs.Names.{[], ◌++◌, ◌+◌, ◌-◌, ◌∷◌, ◌≡◌, ◌≤◌, AllByRecursion, ap, AreFeatureLines, AreFeatures, arith, Between}
use Rattle.contact_ledger.proofs.Names.{CanBeWritten, Damaged, drop, Feature, IsDamagedFeatures, IsFeatures, IsWrittenOrigin, length, List, Memory}
use Rattle.contact_ledger.proofs.Names.{Next, None, Option, Origin, Place, ReadsFault, refl, Some, Start, subst, suc, sym, take, TextFault, Version}
use Rattle.contact_ledger.proofs.Names.{whole_lines, Within, zero, ℕ}
use Rattle.contact_ledger.specs.Ledgers.{IsOrigin}
use Rattle.contact_ledger.proofs.LeadingPlaces.{Leads}
use Rattle.contact_ledger.proofs.FeatureRuns.{leads_one, leads_more, leads_split}
use Rattle.contact_ledger.proofs.FeatureShapes.{IsGood, leads_above, good_lines, held_lead}

-- ---- prefixes of a list

plus_one : (n : ℕ) → n + 1 ≡ suc n
plus_one n = omega arith

take_suc : (n : ℕ) (ls more : List (List ℕ)) (l : List ℕ) → drop n ls ≡ l ∷ more
    → (take (suc n) ls ≡ take n ls ++ l ∷ []) × (drop (suc n) ls ≡ more) × (suc n ≤ length ls)
take_suc zero [] more l e = absurd cc
take_suc zero (x ∷ xs) more l e =
    let a : x ≡ l = cc in
    let b : xs ≡ more = cc in
    (ap (λ (y : List ℕ). y ∷ []) a, b, omega arith)
take_suc (suc n) [] more l e = absurd cc
take_suc (suc n) (x ∷ xs) more l e =
    let h = take_suc n xs more l e in
    (ap (λ (y : List (List ℕ)). x ∷ y) h.0, h.1, omega (arith, h.2))

pub take_one_more : (n : ℕ) (ls more : List (List ℕ)) (l : List ℕ) → drop n ls ≡ l ∷ more
    → (take (n + 1) ls ≡ take n ls ++ l ∷ []) × (drop (n + 1) ls ≡ more) × (n + 1 ≤ length ls)
take_one_more n ls more l e = rw (plus_one n) (take_suc n ls more l e)

take_whole : (n : ℕ) (ls : List (List ℕ)) → drop n ls ≡ [] → take n ls ≡ ls
take_whole zero [] e = refl
take_whole zero (x ∷ xs) e = absurd cc
take_whole (suc n) [] e = refl
take_whole (suc n) (x ∷ xs) e = ap (λ (y : List (List ℕ)). x ∷ y) (take_whole n xs e)

-- ---- reading

abbrev pub Begins : List (List ℕ) → Type 0
Begins lines = (features : List Feature) × AreFeatureLines lines features

begins_above : (ls : List (List ℕ)) (f : List Feature) (p : Place) → Leads [] Start ls f p → AreFeatureLines ls f
begins_above ls f p h =
    let a = leads_above ls [] f Start p refl h in
    rw (sym a.lines) (good_lines f p a.good)

-- after the last line, the lines hold the features
pub lines_read : (bytes : List ℕ) (n : ℕ) (f : List Feature) (p : Place) → drop n (whole_lines bytes) ≡ []
    → Leads [] Start (take n (whole_lines bytes)) f p → IsFeatures bytes f
lines_read bytes n f p e h = begins_above (whole_lines bytes) f p (rw (take_whole n (whole_lines bytes) e) at h)

-- one more line
pub line_read : (ls more : List (List ℕ)) (l : List ℕ) (n : ℕ) (f g : List Feature) (p q : Place) → drop n ls ≡ l ∷ more
    → Leads [] Start (take n ls) f p → Next f p l g q → (drop (n + 1) ls ≡ more) × Leads [] Start (take (n + 1) ls) g q
line_read ls more l n f g p q e h step =
    let t = take_one_more n ls more l e in
    (t.1, rw t.0 (leads_more (take n ls) (l ∷ []) [] f g Start p q h (g, q, step, (refl, refl))))

-- a line that leads nowhere is damaged
pub line_damaged : (bytes : List ℕ) (more : List (List ℕ)) (l : List ℕ) (n : ℕ) (f : List Feature) (p : Place)
    → drop n (whole_lines bytes) ≡ l ∷ more → Leads [] Start (take n (whole_lines bytes)) f p
    → ((g : List Feature) (q : Place) → Next f p l g q → ⊥) → IsDamagedFeatures bytes (n + 1)
line_damaged bytes more l n f p e h other =
    let t = take_one_more n (whole_lines bytes) more l e in
    let back : n + 1 - 1 ≡ n = omega arith in
    record {
      first = omega arith;
      last = t.2;
      above = (f, rw back (begins_above (take n (whole_lines bytes)) f p h));
      torn = λ b.
          let lead = held_lead (take (n + 1) (whole_lines bytes)) b.0 b.1 in
          let split = leads_split (take n (whole_lines bytes)) (l ∷ []) [] b.0 Start lead.0
          (subst (λ (ls : List (List ℕ)). Leads [] Start ls b.0 lead.0) t.0 lead.1) in
          let same = leads_one (take n (whole_lines bytes)) [] f split.mid Start p split.at h split.front in
          let step : Next f p l split.behind.0 split.behind.1 = rw (same.0, same.1) split.behind.2 in
          other split.behind.0 split.behind.1 step;
    }

-- ---- a text is read in one way

pub one_features : (bytes : List ℕ) (f g : List Feature) → IsFeatures bytes f → IsFeatures bytes g → f ≡ g
one_features bytes f g h k =
    let a = held_lead (whole_lines bytes) f h in
    let b = held_lead (whole_lines bytes) g k in
    (leads_one (whole_lines bytes) [] f g Start a.0 b.0 a.1 b.1).0

take_drop : (n : ℕ) (ls : List (List ℕ)) → ls ≡ take n ls ++ drop n ls
take_drop zero [] = refl
take_drop zero (x ∷ xs) = refl
take_drop (suc n) [] = refl
take_drop (suc n) (x ∷ xs) = ap (λ (y : List (List ℕ)). x ∷ y) (take_drop n xs)

pub never_both : (bytes : List ℕ) (f : List Feature) (n : ℕ) → IsFeatures bytes f → IsDamagedFeatures bytes n → ⊥
never_both bytes f n h d =
    let lead = held_lead (whole_lines bytes) f h in
    let parts : Leads [] Start (take n (whole_lines bytes) ++ drop n (whole_lines bytes)) f lead.0 =
    subst (λ (ls : List (List ℕ)). Leads [] Start ls f lead.0) (take_drop n (whole_lines bytes)) lead.1 in
    let split = leads_split (take n (whole_lines bytes)) (drop n (whole_lines bytes)) [] f Start lead.0 parts in
    d.torn (split.mid, begins_above (take n (whole_lines bytes)) split.mid split.at split.front)

-- what a refused line answers
pub read_failed : (bytes : List ℕ) (more : List (List ℕ)) (l : List ℕ) (n : ℕ) (f : List Feature) (p : Place) (fault : TextFault)
    → drop n (whole_lines bytes) ≡ l ∷ more → Leads [] Start (take n (whole_lines bytes)) f p
    → ((m : ℕ) → fault ≡ Damaged m → (m ≡ n + 1) × ((a g : List Feature) (q : Place) → Next a p l g q → ⊥))
    → ReadsFault (IsDamagedFeatures bytes) fault
read_failed bytes more l n f p Memory e h d = tt
read_failed bytes more l n f p (Damaged m) e h d =
    let r = d m refl in
    rw r.0 (line_damaged bytes more l n f p e h (r.1 f))

-- ---- what was read can be written

is_origin : (o : Option Origin) → IsWrittenOrigin o → IsOrigin o
is_origin None h = tt
is_origin (Some o) h = h.0

all_written : (v : Version) (fs : List Feature) → AreFeatures v fs → AllByRecursion CanBeWritten fs
all_written v [] h = tt
all_written v (f ∷ fs) h = ((h.0.counted, is_origin f.origin h.0.origin), all_written v fs h.1)

good_written : (f : List Feature) (p : Place) → IsGood f p → AllByRecursion CanBeWritten f
good_written f Start h = rw h tt
good_written f (Between v) h = all_written v f h
good_written f (Within v o points) h = all_written v f h.0

pub read_written : (ls : List (List ℕ)) (f : List Feature) (p : Place) → Leads [] Start ls f p → AllByRecursion CanBeWritten f
read_written ls f p h = good_written f p (leads_above ls [] f Start p refl h).good
