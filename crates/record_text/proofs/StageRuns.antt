-- Lines lead from stage to stage, one more at a time.
use Rattle.record_text.proofs.Names.{[], ◌++◌, ◌+◌, ◌-◌, ◌==◌, ◌∙◌, ◌∷◌, ◌≡◌, ap, arith, Asking, BeginsHeader, Between, body, Bool, Damaged, Done}
use Rattle.record_text.proofs.Names.{drop, Err, HasTornHead, header, inl, inr, IsBadHead, IsErrAnd, IsOpen, IsValid, Leads, length, List, Next}
use Rattle.record_text.proofs.Names.{nothing_kept, Ok, Place, RecordFault, refl, Result, some, Stage, stage_of, start, subst, suc, sym, take}
use Rattle.record_text.proofs.Names.{take_one_more, Version, whole_lines, Within, zero, ℕ}
use Rattle.std.specs.Cmp.Lexicographic.{pointwise}
use Rattle.std.specs.Bool.{Decides}
use Rattle.std.proofs.lemmas.Slice.Eq.{starts_is}
use Rattle.record_text.proofs.RecordFields.{byte_test}

pub leads_more : (xs ys : List (List ℕ)) (p q r : Stage) → Leads p xs q → Leads q ys r → Leads p (xs ++ ys) r
leads_more [] ys p q r a b = subst (λ (s : Stage). Leads s ys r) a b
leads_more (x ∷ xs) ys p q r a b = (a.0, a.1, leads_more xs ys a.0 q r a.2 b)

-- one more line
pub line_read : (ls more : List (List ℕ)) (l : List ℕ) (n : ℕ) (p q : Stage) → drop n ls ≡ l ∷ more → Leads start (take n ls) p
    → Next p l q → (drop (n + 1) ls ≡ more) × Leads start (take (n + 1) ls) q
line_read ls more l n p q e h step =
    let t = take_one_more n ls more l e in
    (t.1, rw t.0 (leads_more (take n ls) (l ∷ []) start p q h (q, step, refl)))

pub take_whole : (n : ℕ) (ls : List (List ℕ)) → drop n ls ≡ [] → take n ls ≡ ls
take_whole zero [] e = refl
take_whole zero (x ∷ xs) e = absurd cc
take_whole (suc n) [] e = refl
take_whole (suc n) (x ∷ xs) e = ap (λ (y : List (List ℕ)). x ∷ y) (take_whole n xs e)

pub torn_read : (bytes : List ℕ) (n : ℕ) (asking : Asking) (place : Place) → drop n (whole_lines bytes) ≡ []
    → Leads start (take n (whole_lines bytes)) (stage_of asking place) → IsOpen place → IsValid place → HasTornHead bytes
torn_read bytes n asking place e h o v =
    some asking place o v (subst (λ (ls : List (List ℕ)). Leads start ls (stage_of asking place)) (take_whole n (whole_lines bytes) e) h)

-- ---- lines that lead nowhere

pub line_nowhere : (bytes : List ℕ) (more : List (List ℕ)) (l : List ℕ) (n m : ℕ) (p : Stage) → m ≡ n + 1
    → drop n (whole_lines bytes) ≡ l ∷ more → Leads start (take n (whole_lines bytes)) p → ((q : Stage) → Next p l q → ⊥)
    → IsBadHead bytes m
line_nowhere bytes more l n m p same e h other =
    let back : m - 1 ≡ n = omega (arith, same) in
    inl (record {
      stage = p;
      line = l;
      more = more;
      first = omega (arith, same);
      above = rw back h;
      here = rw back e;
      nowhere = other;
    })

pub bad_first : (bytes : List ℕ) (more : List (List ℕ)) (l : List ℕ) (n : ℕ) → n ≡ 1 → whole_lines bytes ≡ l ∷ more → ((v : Version) → l ≡ header v → ⊥)
    → IsBadHead bytes n
bad_first bytes more l n one e other = line_nowhere bytes more l 0 n start one e refl (λ q h. other h.0 h.1)

pub foreign : (bytes : List ℕ) (n : ℕ) → n ≡ 1 → whole_lines bytes ≡ [] → (BeginsHeader bytes → ⊥) → IsBadHead bytes n
foreign bytes n one e other = inr (one, record { none = e; other = other })

pub still_open : (p : Place) → (p ≡ Done → ⊥) → IsOpen p
still_open Between h = tt
still_open (Within u) h = tt
still_open Done h = absurd (h refl)

pub done_read : (ls : List (List ℕ)) (asking : Asking) (place : Place) → place ≡ Done → Leads start ls (stage_of asking place)
    → Leads start ls (body asking.part asking.asked nothing_kept)
done_read ls asking place e h = subst (λ (p : Place). Leads start ls (stage_of asking p)) e h

-- whether a text begins a line
pub begins_line : (bytes line whole : List ℕ) (r : Bool) → line ≡ whole → r ≡ pointwise (λ a b. a == b) bytes (take (length bytes) line)
    → Decides r ((behind : List ℕ) × (whole ≡ bytes ++ behind))
begins_line bytes line whole r e p = (
  λ t. (drop (length bytes) line, sym e ∙ (starts_is byte_test line bytes r p).0 t),
  λ b. (starts_is byte_test line bytes r p).1 b.0 (e ∙ b.1),
)

pub handed_on : {A : Type 0} (r : Result A RecordFault) (fault : RecordFault) (n : ℕ) → IsErrAnd r (λ e. e ≡ fault)
    → r ≡ Err (Damaged n) → fault ≡ Damaged n
handed_on (Ok x) fault n h e = absurd cc
handed_on (Err f) fault n h e =
    let same : f ≡ Damaged n = cc in
    sym h ∙ same
