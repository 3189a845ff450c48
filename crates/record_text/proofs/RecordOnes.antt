-- A text is read in one way.
use Rattle.record_text.proofs.Names.{[], ◌++◌, ◌<◌, ◌∙◌, ◌∷◌, ◌≡◌, ap, append_assoc, AreRecordLines, arith, asked_lines, Begins, body, codes, drop}
use Rattle.record_text.proofs.Names.{head, header, inl, inr, IsDamagedRecord, IsRecord, IsUnbegun, Kept, Leads, length, List, Option, part_lines}
use Rattle.record_text.proofs.Names.{Recorded, recorded, refl, Stage, start, subst, sym, take, take-append-drop, Wanted, whole_lines, within, ℕ}
use Rattle.record_text.proofs.StageLines.{torn_begins}
use Rattle.record_text.proofs.StageOnes.{leads_one}
use Rattle.record_text.proofs.StageReads.{record_leads}
use Rattle.record_text.proofs.StageShapes.{leads_split, lead_open}

abbrev said_by : Recorded → Stage → Recorded
said_by other start = other
said_by other (head part asked) = other
said_by other (within part asked u) = other
said_by other (body part asked kept) = recorded part asked kept

pub one_record : (bytes : List ℕ) (r s : Recorded) → IsRecord bytes r → IsRecord bytes s → r ≡ s
one_record bytes r s h g =
    let a = record_leads (whole_lines bytes) r h in
    let b = record_leads (whole_lines bytes) s g in
    let same = leads_one (whole_lines bytes) start (body r.part r.asked a.0) (body s.part s.asked b.0) a.2 b.2 in
    a.1 ∙ ap (λ (x : Stage). said_by r x) same ∙ sym b.1

-- ---- no record is damaged

front_begins : (n : ℕ) (lines : List (List ℕ)) → Begins lines → Begins (take n lines)
front_begins n lines h = record {
  says = h.says;
  behind = drop n lines ++ h.behind;
  whole = subst (λ (ls : List (List ℕ)). AreRecordLines ls h.says)
      (ap (λ (ls : List (List ℕ)). ls ++ h.behind) (sym (take-append-drop n lines))
      ∙ append_assoc (take n lines) (drop n lines) h.behind) h.whole;
}

all_begin : (n : ℕ) (lines : List (List ℕ)) (r : Recorded) → AreRecordLines lines r → Begins (take n lines)
all_begin n lines r h = record {
  says = r;
  behind = drop n lines;
  whole = subst (λ (ls : List (List ℕ)). AreRecordLines ls r) (sym (take-append-drop n lines)) h;
}

some_line : (lines : List (List ℕ)) (r : Recorded) → AreRecordLines lines r → lines ≡ [] → ⊥
some_line lines r h e =
    let whole = h.whole in
    absurd cc

pub not_damaged : (bytes : List ℕ) (r : Recorded) (n : ℕ) → IsRecord bytes r → IsDamagedRecord bytes n → ⊥
not_damaged bytes r n h (inl d) = d.torn (all_begin n (whole_lines bytes) r h)
not_damaged bytes r n h (inr d) = some_line (whole_lines bytes) r h d.1.none

pub unbegun_not_damaged : (bytes : List ℕ) (n : ℕ) → IsUnbegun bytes → IsDamagedRecord bytes n → ⊥
unbegun_not_damaged bytes n u (inl d) = d.torn (front_begins n (whole_lines bytes) (torn_begins (whole_lines bytes) u.torn))
unbegun_not_damaged bytes n u (inr d) = d.1.other (u.ours d.1.none)

-- ---- no record is one that is not begun

front_of : (xs ys zs : List (List ℕ)) (e : List ℕ) → zs ++ e ∷ [] ≡ xs ++ ys → 0 < length ys → (more : List (List ℕ)) × (zs ≡ xs ++ more)
front_of [] ys zs e p h = (zs, refl)
front_of (x ∷ xs) ys [] e p h =
    let none : [] ≡ xs ++ ys = cc in
    absurd (nothing xs ys none h)
  where
    nothing : (xs ys : List (List ℕ)) → [] ≡ xs ++ ys → 0 < length ys → ⊥
    nothing [] [] e h = absurd (omega (arith, h))
    nothing [] (y ∷ ys) e h = absurd cc
    nothing (x ∷ xs) ys e h = absurd cc
front_of (x ∷ xs) ys (z ∷ zs) e p h =
    let first : z ≡ x = cc in
    let rest : zs ++ e ∷ [] ≡ xs ++ ys = cc in
    let r = front_of xs ys zs e rest h in
    (r.0, same_front first r.1)
  where
    same_front : {a b : List ℕ} {k l : List (List ℕ)} → a ≡ b → k ≡ l → a ∷ k ≡ b ∷ l
    same_front p q = λ n. p n ∷ q n

abbrev IsBody : Stage → Type 0
IsBody start = ⊥
IsBody (head part asked) = ⊥
IsBody (within part asked u) = ⊥
IsBody (body part asked kept) = Unit {0}

stays : (ls : List (List ℕ)) (part : Option (List ℕ)) (asked : List Wanted) (kept : Kept) (s : Stage) → Leads (body part asked kept) ls s
    → IsBody s
stays [] part asked kept s h = subst (λ (x : Stage). IsBody x) (sym h) tt
stays (l ∷ ls) part asked kept s h =
    stays ls part asked h.1.mid s (subst (λ (x : Stage). Leads x ls s) h.1.next h.2)

pub not_unbegun : (bytes : List ℕ) (r : Recorded) → IsRecord bytes r → IsUnbegun bytes → ⊥
not_unbegun bytes r h u =
    let t = u.torn in
    let lines = whole_lines bytes in
    let a = record_leads lines r h in
    let opened = header t.version ∷ (part_lines t.part ++ asked_lines t.asked) in
    let joined : opened ++ codes "END" ∷ [] ≡ lines ++ t.behind =
    ap (λ (ls : List (List ℕ)). header t.version ∷ ls) (append_assoc (part_lines t.part) (asked_lines t.asked) (codes "END" ∷ [])) ∙ t.front in
    let front = front_of lines t.behind opened (codes "END") joined t.short in
    let leads : Leads start (lines ++ front.0) (head t.part t.asked) =
    subst (λ (ls : List (List ℕ)). Leads start ls (head t.part t.asked)) front.1 (lead_open t.version t.part t.asked t.part_given t.are_asked) in
    let split = leads_split lines front.0 start (head t.part t.asked) leads in
    let same = leads_one lines start split.mid (body r.part r.asked a.0) split.front a.2 in
    stays front.0 r.part r.asked a.0 (head t.part t.asked)
    (subst (λ (x : Stage). Leads x front.0 (head t.part t.asked)) same split.behind)
